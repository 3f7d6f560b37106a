use Rattle.std.proofs.Common.{ℕ, List, ◌∙◌, subst, inr}
use Rattle.cmh_segment3.specs.declared.segment.Segment.{Segment}
use Rattle.cmh_restore3.specs.Keeping.{BeginsEach}
use Rattle.cmh_restore3.specs.Restored.{restored_all}
use Rattle.cmh_restore3.proofs.restoring.restore.Goals as goal

pub returns-clause-restored : goal.returns-clause-restored
returns-clause-restored g c =
    let b = c.in_ok-beginning.ensures.begins in
    let begins = g.K.NewJournals.begins in
    let old = c.args.keeper.now in
    let new = c.begin_each.new.keeper in
    let of_segments = subst (λ (gs : List Segment). BeginsEach begins gs c.sites-sites.result.now old new) (c.deref.ensures.value ∙ b.segments_are) c.in_ok-begin_each.ensures in
    record {
      world = c.in_ok-beginning.beginning.world;
      heads = b.heads;
      restorable = b.restorable;
      begun = subst (λ (sites : List ℕ). BeginsEach begins (restored_all c.in_ok-beginning.beginning.world c.args.start.now.epoch b.heads) sites old new) c.sites-sites.ensures.value of_segments;
    }

pub returns-clause-untouched : goal.returns-clause-untouched
returns-clause-untouched g c = let b = c.in_ok-beginning.ensures.begins in inr (c.in_ok-beginning.beginning.world, b.heads, b.restorable)

pub returns-in_err-begin_each-clause-untouched : goal.returns-in_err-begin_each-clause-untouched
returns-in_err-begin_each-clause-untouched g c = let b = c.in_ok-beginning.ensures.begins in inr (c.in_ok-beginning.beginning.world, b.heads, b.restorable)

pub returns-in_err-write_lines-clause-untouched : goal.returns-in_err-write_lines-clause-untouched
returns-in_err-write_lines-clause-untouched g c = let b = c.in_ok-beginning.ensures.begins in inr (c.in_ok-beginning.beginning.world, b.heads, b.restorable)
