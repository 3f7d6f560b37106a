use Rattle.std.proofs.Common.{ℕ, List, [], ap, ◌∙◌, sym, subst, arith, refl}
use Rattle.std.proofs.Math.ListN.{set}
use Rattle.std.proofs.lemmas.List.{get_or_default}
use Rattle.cmh_frames.specs.Relation.{has_some}
use Rattle.cmh_waits.specs.Held.{Held, IsKept, is_member, replied}
use Rattle.cmh_waits.specs.Rows.{AreRows, relation_of}
use Rattle.cmh_waits.proofs.Asks.{same_held}
use Rattle.cmh_waits.proofs.Kept.{kept_as, kept_answered, kept_replied}
use Rattle.cmh_waits.proofs.RowLemmas.{in_at}
use Rattle.cmh_waits.proofs.Updates.{bit_taken, pair_taken, replied_away, replied_here, rows_bit_taken, rows_taken, woken}
use Rattle.cmh_waits.proofs.local_waits.LocalWaits.reply.Goals as goal

pub invariant_of-self : goal.invariant_of-self
invariant_of-self c =
    let w = c.self.inside in
    let ms = w.members in
    let p = c.in-Some.second in
    let q = c.in-Some-place_of.first in
    let at = c.in-Some.ensures in
    let to = c.in-Some-place_of.ensures in
    let up = c.self.invariant.2.ascending in
    let owes = c.index.ensures ∙ get_or_default w.owed.items p c.index.result.now 0 (omega (arith, at.0, c.self.invariant.1.rows_len)) in
    let waits = c.index-in-Some-place_of.ensures ∙ get_or_default w.waits.items q c.index-in-Some-place_of.result.now 0 (omega (arith, to.0, c.self.invariant.0.rows_len)) in (
      rows_bit_taken ms w.waits.items w.remote_waits.items up c.self.invariant.0 q p c.args.asker c.args.holder to.0 at.0 to.1 at.1 c.index-in-Some-place_of.result.now c.without_bit-in-Some-place_of.result waits c.without_bit-in-Some-place_of.ensures.bits,
      rows_bit_taken ms w.owed.items w.remote_owed.items up c.self.invariant.1 p q c.args.holder c.args.asker at.0 to.0 at.1 to.1 c.index.result.now c.without_bit.result owes c.without_bit.ensures.bits,
      kept_as _ _ (same_held ms _ _ _ _ (bit_taken ms w.waits.items w.remote_waits.items up c.self.invariant.0 q p c.args.asker c.args.holder to.0 at.0 to.1 at.1 c.index-in-Some-place_of.result.now c.without_bit-in-Some-place_of.result waits c.without_bit-in-Some-place_of.ensures.bits) (bit_taken ms w.owed.items w.remote_owed.items up c.self.invariant.1 p q c.args.holder c.args.asker at.0 to.0 at.1 to.1 c.index.result.now c.without_bit.result owes c.without_bit.ensures.bits))
          (kept_replied _ c.args.holder c.args.asker c.self.invariant.2),
    )

pub returns-in-Some-place_of-clause-value : goal.returns-in-Some-place_of-clause-value
returns-in-Some-place_of-clause-value c =
    let w = c.self.inside in
    let ms = w.members in
    let p = c.in-Some.second in
    let q = c.in-Some-place_of.first in
    let at = c.in-Some.ensures in
    let to = c.in-Some-place_of.ensures in
    let up = c.self.invariant.2.ascending in
    let owes = c.index.ensures ∙ get_or_default w.owed.items p c.index.result.now 0 (omega (arith, at.0, c.self.invariant.1.rows_len)) in
    let waits = c.index-in-Some-place_of.ensures ∙ get_or_default w.waits.items q c.index-in-Some-place_of.result.now 0 (omega (arith, to.0, c.self.invariant.0.rows_len)) in
    same_held ms _ _ _ _ (bit_taken ms w.waits.items w.remote_waits.items up c.self.invariant.0 q p c.args.asker c.args.holder to.0 at.0 to.1 at.1 c.index-in-Some-place_of.result.now c.without_bit-in-Some-place_of.result waits c.without_bit-in-Some-place_of.ensures.bits) (bit_taken ms w.owed.items w.remote_owed.items up c.self.invariant.1 p q c.args.holder c.args.asker at.0 to.0 at.1 to.1 c.index.result.now c.without_bit.result owes c.without_bit.ensures.bits)
    ∙ sym (replied_here (record { members = ms; waits = relation_of ms w.waits.items w.remote_waits.items; owed = relation_of ms w.owed.items w.remote_owed.items }) c.args.holder c.args.asker (in_at ms q c.args.asker to.0 to.1))
    ∙ ap (λ (v : Held). replied v c.args.holder c.args.asker) c.self.view_is

pub returns-in-Some-place_of-clause-woke : goal.returns-in-Some-place_of-clause-woke
returns-in-Some-place_of-clause-woke c =
    let w = c.self.inside in
    let ms = w.members in
    let p = c.in-Some.second in
    let q = c.in-Some-place_of.first in
    let at = c.in-Some.ensures in
    let to = c.in-Some-place_of.ensures in
    let up = c.self.invariant.2.ascending in
    let owes = c.index.ensures ∙ get_or_default w.owed.items p c.index.result.now 0 (omega (arith, at.0, c.self.invariant.1.rows_len)) in
    let waits = c.index-in-Some-place_of.ensures ∙ get_or_default w.waits.items q c.index-in-Some-place_of.result.now 0 (omega (arith, to.0, c.self.invariant.0.rows_len)) in
    let here = sym (ap (λ (v : Held). is_member v c.args.asker) c.self.view_is) ∙ in_at ms q c.args.asker to.0 to.1 in
    let kept = subst IsKept c.self.view_is c.self.invariant.2 in
    woken c.args.self.now.waits _ c.args.asker c.args.holder _ c.has_first.result (kept.waiting c.args.asker c.args.holder here c.requires.member c.requires.owed) refl (
    c.has_first.ensures
    ∙ ap (λ (xs : List ℕ). has_some (relation_of ms xs c.deref-in-Some-place_of.result.now) c.args.asker) c.deref.ensures.value
    ∙ ap (λ (ls : List (List ℕ)). has_some (relation_of ms (set w.waits.items q c.without_bit-in-Some-place_of.result) ls) c.args.asker) c.deref-in-Some-place_of.ensures.value
    )

pub has_first-requires-clause-rows : goal.has_first-requires-clause-rows
has_first-requires-clause-rows c =
    let w = c.self.inside in
    let ms = w.members in
    let p = c.in-Some.second in
    let q = c.in-Some-place_of.first in
    let at = c.in-Some.ensures in
    let to = c.in-Some-place_of.ensures in
    let up = c.self.invariant.2.ascending in
    let owes = c.index.ensures ∙ get_or_default w.owed.items p c.index.result.now 0 (omega (arith, at.0, c.self.invariant.1.rows_len)) in
    let waits = c.index-in-Some-place_of.ensures ∙ get_or_default w.waits.items q c.index-in-Some-place_of.result.now 0 (omega (arith, to.0, c.self.invariant.0.rows_len)) in
    let new = rows_bit_taken ms w.waits.items w.remote_waits.items up c.self.invariant.0 q p c.args.asker c.args.holder to.0 at.0 to.1 at.1 c.index-in-Some-place_of.result.now c.without_bit-in-Some-place_of.result waits c.without_bit-in-Some-place_of.ensures.bits in
    subst (λ (xs : List ℕ). AreRows ms xs c.deref-in-Some-place_of.result.now) (sym c.deref.ensures.value)
    (subst (λ (ls : List (List ℕ)). AreRows ms (set w.waits.items q c.without_bit-in-Some-place_of.result) ls) (sym c.deref-in-Some-place_of.ensures.value) new)

pub invariant_of-self-in-Some : goal.invariant_of-self-in-Some
invariant_of-self-in-Some c =
    let w = c.self.inside in
    let ms = w.members in
    let lists = w.remote_owed.items in
    let p = c.in-Some.second in
    let at = c.in-Some.ensures in
    let other = c.in_default-place_of.ensures in
    let are = c.self.invariant.1 in
    let up = c.self.invariant.2.ascending in
    let old = c.index_mut-in-Some.result.now in
    let was = c.index_mut-in-Some.ensures.value ∙ get_or_default lists p old [] (omega (arith, at.0, are.lists_len)) in (
      c.self.invariant.0,
      rows_taken ms w.owed.items lists up are p c.args.holder c.args.asker at.0 at.1 other old was c.remove.new.self c.remove.ensures,
      kept_as _ _ (same_held ms _ _ _ _ refl (pair_taken ms w.owed.items lists up are p c.args.holder c.args.asker at.0 at.1 other old was c.remove.new.self c.remove.ensures)) (kept_answered _ c.args.holder c.args.asker c.self.invariant.2),
    )

pub returns-in_default-place_of-clause-value : goal.returns-in_default-place_of-clause-value
returns-in_default-place_of-clause-value c =
    let w = c.self.inside in
    let ms = w.members in
    let lists = w.remote_owed.items in
    let p = c.in-Some.second in
    let at = c.in-Some.ensures in
    let other = c.in_default-place_of.ensures in
    let are = c.self.invariant.1 in
    let up = c.self.invariant.2.ascending in
    let old = c.index_mut-in-Some.result.now in
    let was = c.index_mut-in-Some.ensures.value ∙ get_or_default lists p old [] (omega (arith, at.0, are.lists_len)) in
    same_held ms _ _ _ _ refl (pair_taken ms w.owed.items lists up are p c.args.holder c.args.asker at.0 at.1 other old was c.remove.new.self c.remove.ensures)
    ∙ sym (replied_away (record { members = ms; waits = relation_of ms w.waits.items w.remote_waits.items; owed = relation_of ms w.owed.items lists }) c.args.holder c.args.asker other)
    ∙ ap (λ (v : Held). replied v c.args.holder c.args.asker) c.self.view_is
