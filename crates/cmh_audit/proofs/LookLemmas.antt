-- A look at the next entry of a site, as the merge's loop has it: what it read is given by equations.
use Rattle.std.proofs.Common.{◌≡◌, ℕ, ◌+◌, ◌<◌, ◌≤◌, List, [], ◌∷◌, ◌++◌, length, set, get_or, Option, Some, sym, ap, subst, arith}
use Rattle.std.specs.Prelude.{Contains}
use Rattle.std.proofs.lemmas.List.{get_or_read}
use Rattle.cmh_frames.specs.Topology.{Topology}
use Rattle.cmh_frames.specs.Entries.{Entry}
use Rattle.cmh_journal.specs.Journal.{Journal}
use Rattle.cmh_audit.specs.declared.step.Step.{Step}
use Rattle.cmh_audit.specs.Inner.Places.{OneEach}
use Rattle.cmh_world.specs.Links.{Links}
use Rattle.cmh_audit.specs.Inner.Merging.{AreLawfulLengths, AreLeftAt, IsNextFrame, LacksFrame, MovesFrames, ReceivesFrame, SendsFrames}
use Rattle.cmh_audit.specs.Inner.Orders.{IsOrder}
use Rattle.cmh_audit.specs.Inner.Ready.{Wakes, with_turn}
use Rattle.cmh_audit.proofs.CountLemmas.{limit_here, total-le}
use Rattle.cmh_cycles.proofs.Members.{contains_last}
use Rattle.cmh_audit.proofs.MoveLemmas.{moves_both, received_next}
use Rattle.cmh_audit.proofs.OrderLemmas.{order_more}
use Rattle.cmh_audit.proofs.ReadyLemmas.{Listed, listed_done, listed_parked, listed_took, work, work_took}
use Rattle.cmh_audit.proofs.TryLemmas.{tried_failed, tried_whole}
use Rattle.cmh_audit.proofs.WalkLemmas.{IsFirst, none_left, first_left, left_took}

-- the list has the site whose turn it is at its end
pub turn_is : (turn : Option ℕ) (ready : List ℕ) (i : ℕ) → turn ≡ Some i → with_turn turn ready ≡ ready ++ i ∷ []
turn_is turn ready i is = ap (λ t. with_turn t ready) is

-- the site of the journal at i was taken from the list
module _ {t : Topology} {js : List Journal} {limits counts : List ℕ} {links : Links} {lacks : List (Option ℕ)} {first : List ℕ} {tries : ℕ} (s : Listed t js limits counts links lacks first tries) (ready : List ℕ) (i : ℕ) (popped : first ≡ ready ++ i ∷ []) where
  pub place_in : i < length js
  place_in = s.inside i (subst (λ r. Contains r i) (sym popped) (contains_last ready i))

  listed_at : Listed t js limits counts links lacks (ready ++ i ∷ []) tries
  listed_at = subst (λ r. Listed t js limits counts links lacks r tries) popped s

  -- w is what is left of it, after the entries that were taken
  module _ {walks : List (List Entry)} (left : AreLeftAt js counts walks) (at : ℕ) (j : Journal) (w : List Entry) (read : at ≡ get_or counts i at) (here : j ≡ get_or js i j) (walk : w ≡ get_or walks i w) (are : AreLawfulLengths t js limits) where
    count_is : at ≡ get_or counts i 0
    count_is = get_or_read counts i at (subst (λ n. i < n) (sym s.merging.each) place_in) read 0

    -- no entry is left: that is no try
    pub looked_past : w ≡ [] → Listed t js limits counts links lacks ready tries
    looked_past none =
        let past = none_left js counts walks i at j w left place_in here count_is walk none in
        let same = count_is in
        let within = (limit_here t js limits i j are place_in here).within in
        listed_done t js limits counts links lacks ready tries tries i (omega arith)
        (tried_whole js counts ready tries i j listed_at.tried place_in here (omega (arith, past, same)))
        listed_at (omega (arith, within, past, same))

    module _ (e : Entry) (rest : List Entry) (is : w ≡ e ∷ rest) where
      first_here : IsFirst j at e rest
      first_here = first_left js counts walks i at j w left place_in here count_is walk e rest is

      room_here : get_or counts i 0 < length j.entries
      room_here = subst (λ n. n < length j.entries) count_is first_here.room

      entry_here : e ≡ get_or j.entries (get_or counts i 0) e
      entry_here = subst (λ n. e ≡ get_or j.entries n e) count_is first_here.is

      -- no lawful entry is left
      pub looked_done : get_or limits i 0 ≤ at → Listed t js limits counts links lacks ready (tries + 1)
      looked_done past =
          listed_done t js limits counts links lacks ready tries (tries + 1) i (omega arith)
          (tried_failed js counts ready tries i j listed_at.tried place_in here room_here)
          listed_at (subst (λ n. get_or limits i 0 ≤ n) count_is past)

      -- the next entry got a frame that isn't the next one
      pub looked_parked : (site a : ℕ) → site ≡ j.site → at < get_or limits i 0 → LacksFrame links site e.event a → Listed t js limits counts links (set lacks i (Some a)) ready (tries + 1)
      looked_parked site a site_is room lack =
          listed_parked t js limits counts links lacks ready tries i j a lack.frame e listed_at place_in here
          (subst (λ n. n < get_or limits i 0) count_is room) entry_here lack.got
          (subst (λ q. IsNextFrame links q e.event → ⊥) site_is lack.not_next) room_here

      -- the next entry was taken
      module _ (mid new : Links) (next_lacks : List (Option ℕ)) (next_ready : List ℕ) (site : ℕ) (one : OneEach js) (site_is : site ≡ j.site) (room : at < get_or limits i 0)
          (got : ReceivesFrame links mid site e.event) (sends : SendsFrames mid new site e.sent) (wakes : Wakes js e.sent ready next_ready lacks next_lacks site) where
        room_now : get_or counts i 0 < get_or limits i 0
        room_now = subst (λ n. n < get_or limits i 0) count_is room

        next_now : IsNextFrame links j.site e.event
        next_now = subst (λ q. IsNextFrame links q e.event) site_is (received_next links mid site e.event got)

        moves_now : MovesFrames links new j.site e
        moves_now = subst (λ q. MovesFrames links new q e) site_is (moves_both links mid new site e got sends)

        took_here : Listed t js limits (set counts i (get_or counts i 0 + 1)) new next_lacks (next_ready ++ i ∷ []) (tries + 1)
        took_here =
            listed_took t js limits counts links new lacks next_lacks ready next_ready tries i j e one are listed_at place_in here room_now entry_here next_now moves_now
            (subst (λ q. Wakes js e.sent ready next_ready lacks next_lacks q) site_is wakes)

        pub looked_took : Listed t js limits (set counts i (at + 1)) new next_lacks (next_ready ++ i ∷ []) (tries + 1)
        looked_took = subst (λ n. Listed t js limits (set counts i (n + 1)) new next_lacks (next_ready ++ i ∷ []) (tries + 1)) (sym count_is) took_here

        pub took_left : AreLeftAt js (set counts i (at + 1)) (set walks i rest)
        took_left = left_took js counts walks i at j w left place_in here count_is walk e rest s.merging.each first_here

        pub took_less : work js (set counts i (at + 1)) (next_ready ++ i ∷ []) < work js counts first
        took_less =
            let few = took_here.even in
            let fits = total-le t js limits (set counts i (get_or counts i 0 + 1)) are took_here.merging.each took_here.merging.below in
            subst (λ n. work js (set counts i (n + 1)) (next_ready ++ i ∷ []) < work js counts first) (sym count_is)
            (work_took js counts ready (next_ready ++ i ∷ []) first i s.merging.each fits place_in popped (omega (arith, few)))

        pub took_order : (steps : List Step) → IsOrder t js counts steps → IsOrder t js (set counts i (at + 1)) (steps ++ record { journal = i; entry = at } ∷ [])
        took_order steps o =
            subst (λ n. IsOrder t js (set counts i (n + 1)) (steps ++ record { journal = i; entry = n } ∷ [])) (sym count_is)
            (order_more t js limits counts links new one are s.merging i j place_in here e room_now entry_here next_now moves_now steps o)
