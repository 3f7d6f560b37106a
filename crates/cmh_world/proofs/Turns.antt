-- Asks and replies of two processes take turns.
use Rattle.std.proofs.Common.{◌≡◌, ℕ, ◌+◌, false, List, [], ◌∷◌, ◌++◌, sym, ap, subst, arith, append_assoc, append-nil}
use Rattle.cmh_frames.specs.Entries.{WorldEvent}
use Rattle.cmh_frames.specs.Topology.{Topology}
use Rattle.cmh_frames.specs.Runs.{IsRun}
use Rattle.cmh_frames.specs.Waits.{asks_for, grants, wait_after}
use Rattle.cmh_frames.specs.Laws.{bit, count_of, AsksAndReplies}
use Rattle.cmh_frames.proofs.Bits.{wait_sum}
use Rattle.cmh_world.proofs.World.{World, Step, Invariant}
use Rattle.cmh_world.proofs.Kept.{kept, idle, waited}
use Rattle.cmh_frames.proofs.Effects.{asks_means, grants_means, grants_known, asks_or_grants}
use Rattle.cmh_world.proofs.RunsSoFar.{world_of, one_step, invariant_first}

-- an ask begins the wait and a reply ends it, so each keeps the balance
turn : (t : Topology) (w : World) (e : WorldEvent) (n : World) → Invariant t w → Step t w e n → (j k : ℕ) → bit (n.wait j k) + bit (grants k j e.entry.event) ≡ bit (w.wait j k) + bit (asks_for j k e.entry.event)
turn t w e n inv st j k =
    wait_sum (n.wait j k) (asks_for j k e.entry.event) (grants k j e.entry.event) (w.wait j k) (st.waits j k)
    (λ q. let means = asks_means t e.site (w.value e.site) e.entry.event j k st.accepted q in idle t w e n inv st e.site means.2.0 j k means.0 means.2.1 q)
    (asks_or_grants e.entry.event j k)
    (λ g. let means = grants_means t e.site (w.value e.site) e.entry.event j k st.accepted g in
    let asker = grants_known t e.site (w.value e.site) e.entry.event j k st.accepted g in
    waited t w e n inv st asker.0 e.site j k asker.1 means.0 g)

-- from a moment of a run on
turns_on : (t : Topology) (before rest : List WorldEvent) (j k : ℕ) → IsRun t (before ++ rest) → Invariant t (world_of t before)
    → count_of (λ (e : WorldEvent). asks_for j k e.entry.event) rest + bit (wait_after false j k before) ≡ count_of (λ (e : WorldEvent). grants k j e.entry.event) rest + bit (wait_after false j k (before ++ rest))
turns_on t before [] j k run inv = ap (λ z. 0 + bit (wait_after false j k z)) (sym (append-nil before))
turns_on t before (e ∷ rest) j k run inv =
    let same = append_assoc before (e ∷ []) rest in
    let step = one_step t before e rest run in
    let one = turn t (world_of t before) e (world_of t (before ++ e ∷ [])) inv step j k in
    let more = turns_on t (before ++ e ∷ []) rest j k (subst (IsRun t) (sym same) run) (kept t (world_of t before) e (world_of t (before ++ e ∷ [])) inv step) in
    let end = ap (λ z. bit (wait_after false j k z)) same in
    omega arith

-- asks and replies of two processes take turns
pub asks_and_replies : (t : Topology) (events : List WorldEvent) → IsRun t events → AsksAndReplies events
asks_and_replies t events run = λ j k. let all = turns_on t [] events j k run (invariant_first t) in omega arith
