use Rattle.std.proofs.Common.{ℕ, List, ap, ◌∙◌, sym, subst}
use Rattle.std.proofs.Math.ListN.{set}
use Rattle.cmh_waits.specs.Held.{Held, IsKept, before_ask}
use Rattle.cmh_waits.specs.Rows.{AreRows, relation_of}
use Rattle.cmh_waits.proofs.Asks.{same_held}
use Rattle.cmh_waits.proofs.Kept.{kept_as, kept_before}
use Rattle.cmh_waits.proofs.AskLemmas.{cleared, rows_cleared, owed_freed, rows_freed}
use Rattle.cmh_waits.proofs.local_waits.LocalWaits.take_back.Goals as goal

pub invariant_of-self : goal.invariant_of-self
invariant_of-self c =
    let w = c.self.inside in
    let ms = w.members in
    let p = c.in-Some.place in
    let j = c.args.asker in
    let ts = c.args.targets.now in
    let at = c.in-Some.ensures in
    let up = c.self.invariant.2.ascending in
    let freed = c.owe_no_more.ensures.bits in
    let lists = ap (λ (l : List ℕ). set w.remote_waits.items p l) (sym c.clear.ensures) in (
      subst (λ (ls : List (List ℕ)). AreRows ms (set w.waits.items p 0) ls) lists (rows_cleared ms w.waits.items w.remote_waits.items up c.self.invariant.0 p j at.0 at.1),
      rows_freed ms w.owed.items w.remote_owed.items up c.self.invariant.1 p j at.0 at.1 ts c.owe_no_more.new.owed.items c.owe_no_more.ensures.len freed,
      kept_as _ _ (same_held ms _ _ _ _ (ap (λ (ls : List (List ℕ)). relation_of ms (set w.waits.items p 0) ls) (sym lists) ∙ cleared ms w.waits.items w.remote_waits.items up c.self.invariant.0 p j at.0 at.1) (owed_freed ms w.owed.items w.remote_owed.items up c.self.invariant.1 p j at.0 at.1 ts c.owe_no_more.new.owed.items c.owe_no_more.ensures.len freed) ∙ ap (λ (v : Held). before_ask v j ts) c.self.view_is) (kept_before c.args.self.now j ts c.requires.asked (subst IsKept c.self.view_is c.self.invariant.2)),
    )

pub returns-in-Some : goal.returns-in-Some
returns-in-Some c =
    let w = c.self.inside in
    let ms = w.members in
    let p = c.in-Some.place in
    let j = c.args.asker in
    let ts = c.args.targets.now in
    let at = c.in-Some.ensures in
    let up = c.self.invariant.2.ascending in
    let freed = c.owe_no_more.ensures.bits in
    let lists = ap (λ (l : List ℕ). set w.remote_waits.items p l) (sym c.clear.ensures) in
    same_held ms _ _ _ _ (ap (λ (ls : List (List ℕ)). relation_of ms (set w.waits.items p 0) ls) (sym lists) ∙ cleared ms w.waits.items w.remote_waits.items up c.self.invariant.0 p j at.0 at.1) (owed_freed ms w.owed.items w.remote_owed.items up c.self.invariant.1 p j at.0 at.1 ts c.owe_no_more.new.owed.items c.owe_no_more.ensures.len freed) ∙ ap (λ (v : Held). before_ask v j ts) c.self.view_is
