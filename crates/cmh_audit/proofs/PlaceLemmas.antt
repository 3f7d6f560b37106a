-- A table of the places of journals, as it is filled.
use Rattle.std.proofs.Common.{◌≡◌, ◌≢◌, ℕ, zero, suc, ◌+◌, ◌<◌, ◌≤◌, List, length, take, take_all, set, replicate, get_or, Option, Some, None, inl, inr, sym, ap, subst, refl, ◌∙◌, arith}
use Rattle.std.specs.Prelude.{MatchOption}
use Rattle.std.specs.List.{All, AllWithin, HoldsAt}
use Rattle.std.proofs.lemmas.Bool.{cases_eq}
use Rattle.std.proofs.lemmas.List.{get_or-set_same, get_or-set_other}
use Rattle.std.proofs.lemmas.List.Elements.{at_read}
use Rattle.cmh_journal.specs.Journal.{Journal}
use Rattle.cmh_audit.specs.Journals.{NoneAt}
use Rattle.cmh_audit.specs.Inner.Places.{ArePlacesOf}
use Rattle.cmh_audit.proofs.StopLemmas.{none_more}

-- ---- the room

pub room_more : (js : List Journal) (i room more : ℕ) (j : Journal) → i < length js → j ≡ get_or js i j → room ≤ more → j.site < more
    → AllWithin (λ (x : Journal). x.site < room) js 0 i → AllWithin (λ (x : Journal). x.site < more) js 0 (i + 1)
room_more js i room more j l here grows fits all k d low high = elim (cases_eq k i) [
  | inl e ↦ subst (λ n. (get_or js n d).site < more) (sym e) (at_read js (λ (x : Journal). x.site < more) i j l here fits d)
  | inr ne ↦ let h = all k d (omega arith) (omega (arith, ne, high)) in omega (arith, h, grows)
]

pub fits_room : (js : List Journal) (i room : ℕ) (j : Journal) → i < length js → j ≡ get_or js i j → All (λ (x : Journal). x.site < room) js → j.site < room
fits_room js i room j l here all = subst (λ (x : Journal). x.site < room) (sym here) (all i j l)

-- ---- the table

-- the place of the site's journal, which is none of the first n where there is no place
abbrev pub IsPlace : List Journal → ℕ → ℕ → Option ℕ → Type 0
IsPlace js n site place = MatchOption place (NoneAt site (take n js)) (λ i. (i < length js) × HoldsAt (λ (j : Journal). j.site ≡ site) js i)

-- the table has the places of the first n
abbrev pub ArePlaced : List Journal → List (Option ℕ) → ℕ → Type 0
ArePlaced js by_site n = (site : ℕ) → IsPlace js n site (get_or by_site site None)

none_placed : (n k : ℕ) (d : Option ℕ) → get_or (replicate n d) k d ≡ d
none_placed zero k d = refl
none_placed (suc n) zero d = refl
none_placed (suc n) (suc k) d = none_placed n k d

pub placed_start : (js : List Journal) (by_site : List (Option ℕ)) (n : ℕ) → by_site ≡ replicate n None → ArePlaced js by_site 0
placed_start js by_site n is site = subst (IsPlace js 0 site) (sym (ap (λ (l : List (Option ℕ)). get_or l site None) is ∙ none_placed n site None)) tt

pub placed_more : (js : List Journal) (by_site : List (Option ℕ)) (i : ℕ) (j : Journal) → i < length js → j ≡ get_or js i j → j.site < length by_site
    → ArePlaced js by_site i → ArePlaced js (set by_site j.site (Some i)) (i + 1)
placed_more js by_site i j l here fits placed site = elim (cases_eq site j.site) [
  | inl e ↦
      subst (IsPlace js (i + 1) site) (sym (ap (λ n. get_or (set by_site j.site (Some i)) n None) e ∙ get_or-set_same by_site j.site (Some i) None fits))
      (l, at_read js (λ (x : Journal). x.site ≡ site) i j l here (sym e))
  | inr ne ↦
      subst (IsPlace js (i + 1) site) (sym (get_or-set_other by_site j.site site (Some i) None ne)) (keep (get_or by_site site None) (λ e. ne (sym e)) (placed site))
]
  where
    keep : (o : Option ℕ) → j.site ≢ site → IsPlace js i site o → IsPlace js (i + 1) site o
    keep None apart none = none_more site js i j l here apart none
    keep (Some k) apart at = at

pub placed_end : (js : List Journal) (by_site : List (Option ℕ)) (n : ℕ) → length js ≤ n → ArePlaced js by_site n → ArePlacesOf js by_site
placed_end js by_site n all placed site = whole (get_or by_site site None) (placed site)
  where
    whole : (o : Option ℕ) → IsPlace js n site o → MatchOption o (NoneAt site js) (λ i. (i < length js) × HoldsAt (λ (j : Journal). j.site ≡ site) js i)
    whole None none = subst (NoneAt site) (take_all n js all) none
    whole (Some k) at = at
