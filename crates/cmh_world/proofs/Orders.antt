-- What the journals alone determine.
use Rattle.std.proofs.Common.{◌≡◌, ◌↔◌, ℕ, false, List, sym, ap, length, drop, arith}
use Rattle.cmh_frames.specs.Entries.{WorldEvent}
use Rattle.cmh_frames.specs.Topology.{Topology}
use Rattle.cmh_frames.specs.Relation.{has}
use Rattle.cmh_frames.specs.Runs.{IsRun, entries_of, under_way, state_of}
use Rattle.cmh_frames.specs.Journals.{sendings_of, receipts_of}
use Rattle.cmh_frames.specs.Waits.{Waits, wait_after}
use Rattle.cmh_frames.specs.Laws.{bit, count_of, is_request}
use Rattle.cmh_frames.proofs.Bits.{bit_one}
use Rattle.cmh_world.proofs.World.{Invariant}
use Rattle.cmh_world.proofs.RunsSoFar.{world_of, invariant_of_run}

module _ (t : Topology) (xs ys : List WorldEvent) (same : (s : ℕ) → entries_of s xs ≡ entries_of s ys) where
  -- the same frames are under way
  same_queue : (a b : ℕ) → under_way a b xs ≡ under_way a b ys
  same_queue a b = λ i. drop (length (receipts_of a (same b i))) (sendings_of b (same a i))

  -- the sites are in the same state
  same_state : (s : ℕ) → state_of t s xs ≡ state_of t s ys
  same_state s = ap (Rattle.cmh_frames.specs.Journals.value t s) (same s)

  -- a wait of the one is a wait of the other
  waits_too : Invariant t (world_of t xs) → Invariant t (world_of t ys) → (j k : ℕ) → Waits xs j k → Waits ys j k
  waits_too inv other j k h =
      let at = inv.known j k h in
      let first = (inv.each at.0.0 at.1.0 j k at.0.1 at.1.1).1 in
      let second = (other.each at.0.0 at.1.0 j k at.0.1 at.1.1).1 in
      let one = ap bit h in
      let queue = ap (count_of (is_request j k)) (same_queue at.0.0 at.1.0) in
      let owed = ap (λ v. bit (has v.owed k j)) (same_state at.1.0) in
      let is : bit (wait_after false j k ys) ≡ 1 = omega arith in
      bit_one (wait_after false j k ys) 0 is

-- runs with the same journals have the same waits
pub same_waits : (t : Topology) (xs ys : List WorldEvent) → IsRun t xs → IsRun t ys → ((s : ℕ) → entries_of s xs ≡ entries_of s ys) → (j k : ℕ) → Waits xs j k ↔ Waits ys j k
same_waits t xs ys run other same = λ j k.
    (waits_too t xs ys same (invariant_of_run t xs run) (invariant_of_run t ys other) j k, waits_too t ys xs (λ s. sym (same s)) (invariant_of_run t ys other) (invariant_of_run t xs run) j k)
