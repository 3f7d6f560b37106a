use Rattle.std.proofs.Common.{[], ap, ◌∙◌, arith, refl}
use Rattle.std.proofs.lemmas.List.{get_or_default}
use Rattle.cmh_waits.specs.Held.{Held, before_request, is_member}
use Rattle.cmh_waits.proofs.Asks.{same_held}
use Rattle.cmh_waits.proofs.Kept.{kept_as, kept_answered}
use Rattle.cmh_waits.proofs.Updates.{pair_taken, rows_taken}
use Rattle.cmh_waits.proofs.local_waits.LocalWaits.take_back_request.Goals as goal

pub invariant_of-self : goal.invariant_of-self
invariant_of-self c =
    let w = c.self.inside in
    let ms = w.members in
    let lists = w.remote_owed.items in
    let p = c.in-Some.place in
    let at = c.in-Some.ensures in
    let other = ap (λ (v : Held). is_member v c.args.asker) c.self.view_is ∙ c.requires.elsewhere in
    let are = c.self.invariant.1 in
    let up = c.self.invariant.2.ascending in
    let old = c.index_mut.result.now in
    let was = c.index_mut.ensures.value ∙ get_or_default lists p old [] (omega (arith, at.0, are.lists_len)) in (
      c.self.invariant.0,
      rows_taken ms w.owed.items lists up are p c.args.holder c.args.asker at.0 at.1 other old was c.remove.new.self c.remove.ensures,
      kept_as _ _ (same_held ms _ _ _ _ refl (pair_taken ms w.owed.items lists up are p c.args.holder c.args.asker at.0 at.1 other old was c.remove.new.self c.remove.ensures)) (kept_answered _ c.args.holder c.args.asker c.self.invariant.2),
    )

pub returns-in-Some : goal.returns-in-Some
returns-in-Some c =
    let w = c.self.inside in
    let ms = w.members in
    let lists = w.remote_owed.items in
    let p = c.in-Some.place in
    let at = c.in-Some.ensures in
    let other = ap (λ (v : Held). is_member v c.args.asker) c.self.view_is ∙ c.requires.elsewhere in
    let are = c.self.invariant.1 in
    let up = c.self.invariant.2.ascending in
    let old = c.index_mut.result.now in
    let was = c.index_mut.ensures.value ∙ get_or_default lists p old [] (omega (arith, at.0, are.lists_len)) in
    same_held ms _ _ _ _ refl (pair_taken ms w.owed.items lists up are p c.args.holder c.args.asker at.0 at.1 other old was c.remove.new.self c.remove.ensures)
    ∙ ap (λ (v : Held). before_request v c.args.holder c.args.asker) c.self.view_is
