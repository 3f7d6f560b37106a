use Rattle.std.proofs.Common.{◌∙◌, ap, refl, subst, sym}
use Rattle.cmh_model3.specs.Laws.{JournalFacts}
use Rattle.cmh_controller3.specs.Controller.{Controller, home_of, state_of}
use Rattle.cmh_controller3.specs.WaysBack.{FitsRows, rows_back}
use Rattle.cmh_controller3.specs.contracts.controller.Controller.{the_view}
use Rattle.cmh_controller3.proofs.PutRows.{put_is, put_kept}
use Rattle.cmh_controller3.proofs.controller.Controller.put_rows.Goals as goal

pub invariant_of-self : goal.invariant_of-self
invariant_of-self c =
    let old = the_view c.self.inside in
    put_kept old c.args.rows c.put_waits.new.waits c.put_pairs.new.table c.put_pairs-2.new.table c.put_forgotten.new.marks c.put_forgotten.new.declared.items
    c.put_waits.ensures.waits c.put_waits.ensures.since c.put_pairs.ensures.pairs c.put_pairs-2.ensures.pairs c.put_forgotten.ensures.marks c.put_forgotten.ensures.declared
    c.self.invariant
    (subst (λ (v : Controller). JournalFacts (home_of v) v.site (rows_back (home_of v) v.site c.args.rows (state_of v))) (sym c.self.view_is) c.requires.facts)
    (subst (λ (v : Controller). FitsRows (home_of v) v.site c.args.rows) (sym c.self.view_is) c.requires.fits)
    (record {
      members = c.put_waits.ensures.members;
      leaving = c.put_pairs.ensures.room;
      owed = c.put_pairs-2.ensures.room;
      marks = c.put_forgotten.ensures.marks_length;
      declared = c.put_forgotten.ensures.declared_length;
      stamps = refl;
    })

pub returns-clause-state : goal.returns-clause-state
returns-clause-state c =
    put_is (the_view c.self.inside) c.args.rows c.put_waits.new.waits c.put_pairs.new.table c.put_pairs-2.new.table c.put_forgotten.new.marks c.put_forgotten.new.declared.items
    c.put_waits.ensures.waits c.put_waits.ensures.since c.put_pairs.ensures.pairs c.put_pairs-2.ensures.pairs c.put_forgotten.ensures.marks c.put_forgotten.ensures.declared
    ∙ ap (λ (v : Controller). rows_back (home_of v) v.site c.args.rows (state_of v)) c.self.view_is
