-- Stops, and walks that stand at them.
use Rattle.std.proofs.Common.{◌≡◌, ℕ, zero, suc, ◌+◌, ◌<◌, ◌≤◌, List, [], ◌∷◌, length, take, get_or, set, sym, ap, subst, subst₂, ⊎_elim, ◌∙◌, inl, inr, arith, length-set}
use Rattle.std.proofs.lemmas.Bool.{cases_eq, cases_lt}
use Rattle.std.proofs.lemmas.List.{get_or-set_same, get_or-set_other}
use Rattle.cmh_frames.specs.Journals.{receipts_of, sendings_of}
use Rattle.cmh_journal.specs.Journal.{Journal}
use Rattle.cmh_files.specs.Inner.Counts.{count_at}
use Rattle.cmh_files.specs.Inner.Steps.{Goes, GoesPast, LacksNone, LacksSome, StandAt, StandsAt, nowhere, walk_at}
use Rattle.cmh_files.specs.Stops.{IsConsistent, IsLowest, IsWithin, NoneIsConsistent, Stop, got, journal_at, kept, length_at, sent}
use Rattle.cmh_files.specs.declared.walk.Walk.{Walk}
use Rattle.cmh_files.proofs.WalkLemmas.{goes_on, more_got, none_behind}

-- ---- how much is left

abbrev pub total_left : List Walk → ℕ
total_left [] = 0
total_left (w ∷ ws) = length w.left + total_left ws

pub less_left : (ws : List Walk) (a : ℕ) (new : Walk) → a < length ws → Goes (walk_at ws a) new → total_left (set ws a new) < total_left ws
less_left [] a new l goes = absurd (omega arith)
less_left (w ∷ ws) zero new l goes = let h : length w.left ≡ suc (length new.left) = ap length goes.1.left in omega arith
less_left (w ∷ ws) (suc a) new l goes = let h = less_left ws a new (omega arith) goes in omega (arith, h)

-- ---- walks that stand at a stop

module _ (js : List Journal) (stop : Stop) (walks : List Walk) (at : StandAt js stop walks) where
  pub walk_in : (i : ℕ) → i < length walks → i < length js
  walk_in i l = let e = at.each in omega arith

  pub in_walks : (i : ℕ) → i < length js → i < length walks
  in_walks i l = let e = at.each in omega arith

  -- what was counted is what the stop keeps
  sent_is : (a b : ℕ) → a < length js → b < length js → count_at (walk_at walks a).sent (walk_at walks b).site ≡ sent js stop a b
  sent_is a b la lb = (at.at a la).sent (walk_at walks b).site ∙ ap (λ s. length (sendings_of s (kept js stop a))) (at.at b lb).site

  got_is : (a b : ℕ) → a < length js → b < length js → count_at (walk_at walks b).got (walk_at walks a).site ≡ got js stop a b
  got_is a b la lb = (at.at b lb).got (walk_at walks a).site ∙ ap (λ s. length (receipts_of s (kept js stop b))) (at.at a la).site

  pub is_consistent : ((a : ℕ) → a < length walks → LacksNone walks a) → IsConsistent js stop
  is_consistent none a b la lb = subst₂ (λ x y. x ≤ y) (got_is a b la lb) (sent_is a b la lb) (none a (in_walks a la) b (in_walks b lb))

  -- a sender that lacks a sending is further in each consistent stop
  pub must_rise : (a : ℕ) → a < length js → LacksSome walks a → (other : Stop) → IsConsistent js other → ((i : ℕ) → i < length js → length_at stop i ≤ length_at other i) → length_at stop a < length_at other a
  must_rise a la lacks other consistent above = elim (cases_lt (length_at stop a) (length_at other a)) [
    | inl less ↦ less
    | inr most ↦
        let b = lacks.0 in
        let lb = walk_in b lacks.1 in
        let least = above a la in
        let same : length_at other a ≡ length_at stop a = omega arith in
        let more = more_got (journal_at js a).site (journal_at js b).entries (length_at stop b) (length_at other b) (above b lb) in
        let few : sent js stop a b < got js stop a b = subst₂ (λ x y. x < y) (sent_is a b la lb) (got_is a b la lb) lacks.2 in
        let ends = consistent a b la lb in
        let still : sent js other a b ≡ sent js stop a b = ap (λ n. length (sendings_of (journal_at js b).site (take n (journal_at js a).entries))) same in
        absurd (omega (arith, more, few, ends, still))
  ]

  -- it goes on by one entry
  pub raised : (a : ℕ) (new : Walk) → a < length js → Goes (walk_at walks a) new → StandAt js (set stop a (length_at stop a + 1)) (set walks a new)
  raised a new la goes =
      let in_stop : a < length stop = let e = at.lengths in omega arith in
      record {
        each = length-set walks a new ∙ at.each;
        lengths = length-set stop a (length_at stop a + 1) ∙ at.lengths;
        at = λ i l. ⊎_elim
            (λ (q : i ≡ a).
            subst₂ (λ (n : ℕ) (w : Walk). StandsAt (journal_at js i) n w)
            (ap (λ n. length_at stop n + 1) q ∙ sym (get_or-set_same stop a (length_at stop a + 1) 0 in_stop) ∙ ap (length_at (set stop a (length_at stop a + 1))) (sym q))
            (sym (get_or-set_same walks a new nowhere (in_walks a la)) ∙ ap (λ n. get_or (set walks a new) n nowhere) (sym q))
            (goes_on (journal_at js i) (length_at stop i) (walk_at walks i) new goes.0 (at.at i l) (subst (λ n. GoesPast goes.0 (walk_at walks n) new) (sym q) goes.1)))
            (λ (ne : i ≡ a → ⊥).
            subst₂ (λ (n : ℕ) (w : Walk). StandsAt (journal_at js i) n w)
            (sym (get_or-set_other stop a i (length_at stop a + 1) 0 ne))
            (sym (get_or-set_other walks a i new nowhere ne))
            (at.at i l))
            (cases_eq i a);
      }

-- ---- the search for the lowest

-- the walks stand at a stop that is nowhere above a consistent one
pub record SoFar (first : Stop) (js : List Journal) (stop : Stop) (walks : List Walk) : Type 0 where
  pub at : StandAt js stop walks
  pub above : (i : ℕ) → i < length js → length_at first i ≤ length_at stop i
  pub lowest : (other : Stop) → IsWithin first js other → IsConsistent js other → (i : ℕ) → i < length js → length_at stop i ≤ length_at other i

pub starts : (first : Stop) (js : List Journal) (walks : List Walk) → StandAt js first walks → SoFar first js first walks
starts first js walks at = record {
  at = at;
  above = λ i l. omega arith;
  lowest = λ other within consistent. within.above;
}

module _ (first : Stop) (js : List Journal) (stop : Stop) (walks : List Walk) (s : SoFar first js stop walks) where
  pub rises : (a : ℕ) (new : Walk) → a < length walks → LacksSome walks a → Goes (walk_at walks a) new → SoFar first js (set stop a (length_at stop a + 1)) (set walks a new)
  rises a new l lacks goes =
      let la = walk_in js stop walks s.at a l in
      let in_stop : a < length stop = let e = s.at.lengths in omega arith in
      let same = get_or-set_same stop a (length_at stop a + 1) 0 in_stop in
      record {
        at = raised js stop walks s.at a new la goes;
        above = λ i li. ⊎_elim
            (λ (q : i ≡ a). subst (λ n. length_at first n ≤ length_at (set stop a (length_at stop a + 1)) n) (sym q) (let h = s.above a la in omega (arith, h, same)))
            (λ (ne : i ≡ a → ⊥). let h = s.above i li in let other = get_or-set_other stop a i (length_at stop a + 1) 0 ne in omega (arith, h, other))
            (cases_eq i a);
        lowest = λ other within consistent i li. ⊎_elim
            (λ (q : i ≡ a). subst (λ n. length_at (set stop a (length_at stop a + 1)) n ≤ length_at other n) (sym q) (let h = must_rise js stop walks s.at a la lacks other consistent (s.lowest other within consistent) in omega (arith, h, same)))
            (λ (ne : i ≡ a → ⊥). let h = s.lowest other within consistent i li in let still = get_or-set_other stop a i (length_at stop a + 1) 0 ne in omega (arith, h, still))
            (cases_eq i a);
      }

  -- a sender that lacks a sending and has no entry left
  pub none_left : (a : ℕ) → a < length walks → LacksSome walks a → (walk_at walks a).left ≡ [] → NoneIsConsistent first js
  none_left a l lacks none other within consistent =
      let la = walk_in js stop walks s.at a l in
      let h = must_rise js stop walks s.at a la lacks other consistent (s.lowest other within consistent) in
      let most = none_behind (journal_at js a).entries (length_at stop a) (sym (s.at.at a la).left ∙ none) in
      let below = within.below a la in
      omega (arith, h, most, below)

  pub found : ((a : ℕ) → a < length walks → LacksNone walks a) → IsLowest first js stop
  found none = record {
    within = record {
      each = s.at.lengths;
      above = s.above;
      below = λ i l. (s.at.at i l).within;
    };
    consistent = is_consistent js stop walks s.at none;
    lowest = s.lowest;
  }
