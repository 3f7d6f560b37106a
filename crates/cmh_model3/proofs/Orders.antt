-- The order of the events of a run doesn't matter to its waits.
use Rattle.std.proofs.Common.{◌≡◌, ℕ, List, [], ◌∷◌, ◌++◌, sym, ap, ◌∙◌, length, drop}
use Rattle.cmh_model3.specs.Entries.{WorldEvent}
use Rattle.cmh_model3.specs.State.{empty_state, waits_for}
use Rattle.cmh_model3.specs.Paths.{IsPath}
use Rattle.cmh_model3.specs.Journals.{receipts_of, sendings_of, state_after}
use Rattle.cmh_model3.specs.Runs.{IsRun, entries_of, under_way, state_of}
use Rattle.cmh_model3.specs.Waits.{Waits}
use Rattle.cmh_model3.specs.Stops.{stop}
use Rattle.cmh_model3.specs.Frames.{count, is_reply}
use Rattle.cmh_model3.specs.Laws.{OrdersAgree, NoPhantomInAnyOrder, stop_of}
use Rattle.cmh_model3.proofs.Cuts.{stop_is_run}
use Rattle.cmh_model3.proofs.Deliveries.{each_wait}
use Rattle.cmh_model3.proofs.Runs.{no_phantom}

same_waits : (home : ℕ → ℕ) (events others : List WorldEvent) → IsRun home events → IsRun home others → ((s : ℕ) → entries_of s events ≡ entries_of s others)
    → (j k : ℕ) → Waits events j k → Waits others j k
same_waits home events others run run2 same j k h =
    let was = (each_wait home events run j k).0 h in
    let state : state_of home (home j) others ≡ state_of home (home j) events = ap (state_after home (home j) empty_state) (sym (same (home j))) in
    let queue : under_way (home k) (home j) others ≡ under_way (home k) (home j) events =
    ap (λ l. drop (length (receipts_of (home k) l)) (sendings_of (home j) (entries_of (home k) others))) (sym (same (home j)))
    ∙ ap (λ l. drop (length (receipts_of (home k) (entries_of (home j) events))) (sendings_of (home j) l)) (sym (same (home k))) in
    (each_wait home others run2 j k).1 (ap (λ v. waits_for v j k) state ∙ was.0, λ apart. ap (count (is_reply k j)) queue ∙ was.1 apart)

pub orders_agree : OrdersAgree
orders_agree home events others run run2 same j k = (same_waits home events others run run2 same j k, same_waits home others events run2 run (λ s. sym (same s)) j k)

path_in : (V W : ℕ → ℕ → Type 0) → ((j k : ℕ) → V j k → W j k) → (p : ℕ) (xs : List ℕ) (q : ℕ) → IsPath V p xs q → IsPath W p xs q
path_in V W f p [] q h = h
path_in V W f p (x ∷ xs) q h = (f p x h.0, path_in V W f x xs q h.1)

pub no_phantom_in_any_order : NoPhantomInAnyOrder
no_phantom_in_any_order home before e rest run i h others run2 same =
    let m : ℕ = stop_of home before e in
    let cut = stop_is_run home (before ++ e ∷ rest) run m in
    let cycle = (no_phantom home before e rest run i h).0 in
    let move = same_waits home (stop m (before ++ e ∷ rest)) others cut.0 run2 (λ s. cut.1 s ∙ sym (same s)) in
    (cycle.0, cycle.1, path_in (Waits (stop m (before ++ e ∷ rest))) (Waits others) move i (cycle.0 ∷ cycle.1) i cycle.2)
