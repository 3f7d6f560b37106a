use Rattle.std.proofs.Common.{ℕ, List, [], ap, ◌∙◌, sym, subst, arith, refl}
use Rattle.std.proofs.lemmas.List.{get_or_default}
use Rattle.cmh_frames.specs.Relation.{has_some}
use Rattle.cmh_waits.specs.Held.{Held, is_member, got_reply}
use Rattle.cmh_waits.specs.Rows.{AreRows, relation_of}
use Rattle.cmh_waits.proofs.Asks.{same_held}
use Rattle.cmh_waits.proofs.Kept.{kept_as, kept_got_reply}
use Rattle.cmh_waits.proofs.Updates.{rows_taken, pair_taken, woken}
use Rattle.cmh_waits.proofs.local_waits.LocalWaits.got_reply.Goals as goal

pub invariant_of-self : goal.invariant_of-self
invariant_of-self c =
    let w = c.self.inside in
    let ms = w.members in
    let lists = w.remote_waits.items in
    let p = c.in-Some.place in
    let at = c.in-Some.ensures in
    let other = ap (λ (v : Held). is_member v c.args.holder) c.self.view_is ∙ c.requires.elsewhere in
    let are = c.self.invariant.0 in
    let up = c.self.invariant.2.ascending in
    let old = c.index_mut.result.now in
    let was = c.index_mut.ensures.value ∙ get_or_default lists p old [] (omega (arith, at.0, are.lists_len)) in (
      rows_taken ms w.waits.items lists up are p c.args.asker c.args.holder at.0 at.1 other old was c.remove.new.self c.remove.ensures,
      c.self.invariant.1,
      kept_as _ _ (same_held ms _ _ _ _ (pair_taken ms w.waits.items lists up are p c.args.asker c.args.holder at.0 at.1 other old was c.remove.new.self c.remove.ensures) refl)
          (kept_got_reply _ c.args.asker c.args.holder other c.self.invariant.2),
    )

pub has_first-requires-clause-rows : goal.has_first-requires-clause-rows
has_first-requires-clause-rows c =
    let w = c.self.inside in
    let ms = w.members in
    let lists = w.remote_waits.items in
    let p = c.in-Some.place in
    let at = c.in-Some.ensures in
    let other = ap (λ (v : Held). is_member v c.args.holder) c.self.view_is ∙ c.requires.elsewhere in
    let are = c.self.invariant.0 in
    let up = c.self.invariant.2.ascending in
    let old = c.index_mut.result.now in
    let was = c.index_mut.ensures.value ∙ get_or_default lists p old [] (omega (arith, at.0, are.lists_len)) in
    let new = rows_taken ms w.waits.items lists up are p c.args.asker c.args.holder at.0 at.1 other old was c.remove.new.self c.remove.ensures in
    subst (λ (xs : List ℕ). AreRows ms xs c.deref-in-Some.result.now) (sym c.deref.ensures.value)
    (subst (λ (ls : List (List ℕ)). AreRows ms w.waits.items ls) (sym c.deref-in-Some.ensures.value) new)

pub returns-in-Some-clause-value : goal.returns-in-Some-clause-value
returns-in-Some-clause-value c =
    let w = c.self.inside in
    let ms = w.members in
    let lists = w.remote_waits.items in
    let p = c.in-Some.place in
    let at = c.in-Some.ensures in
    let other = ap (λ (v : Held). is_member v c.args.holder) c.self.view_is ∙ c.requires.elsewhere in
    let are = c.self.invariant.0 in
    let up = c.self.invariant.2.ascending in
    let old = c.index_mut.result.now in
    let was = c.index_mut.ensures.value ∙ get_or_default lists p old [] (omega (arith, at.0, are.lists_len)) in
    same_held ms _ _ _ _ (pair_taken ms w.waits.items lists up are p c.args.asker c.args.holder at.0 at.1 other old was c.remove.new.self c.remove.ensures) refl
    ∙ ap (λ (v : Held). got_reply v c.args.asker c.args.holder) c.self.view_is

pub returns-in-Some-clause-woke : goal.returns-in-Some-clause-woke
returns-in-Some-clause-woke c =
    woken c.args.self.now.waits _ c.args.asker c.args.holder _ c.has_first.result c.requires.waits refl (
    c.has_first.ensures
    ∙ ap (λ (xs : List ℕ). has_some (relation_of c.self.inside.members xs c.deref-in-Some.result.now) c.args.asker) c.deref.ensures.value
    ∙ ap (λ (ls : List (List ℕ)). has_some (relation_of c.self.inside.members c.self.inside.waits.items ls) c.args.asker) c.deref-in-Some.ensures.value
    )
