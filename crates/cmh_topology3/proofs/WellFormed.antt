-- What tidy rows say of their topology.
use Rattle.std.proofs.Common.{inl, inr, ◌≡◌, ℕ, ◌≤◌, true, List, [], ◌∷◌, map, Some, refl, sym, ◌∙◌, subst, ◌==◌}
use Rattle.std.specs.List.{list_any, AllByRecursion}
use Rattle.std.proofs.lemmas.Bool.{cases_Bool, eqb-true, or_cases}
use Rattle.std.proofs.lemmas.List.{length-map}
use Rattle.std.proofs.lemmas.Option.{none-some}
use Rattle.cmh_frames.specs.Number.{IsNumber}
use Rattle.cmh_frames.specs.Rows.{Row}
use Rattle.cmh_frames.specs.Topology.{home_in}
use Rattle.cmh_frames.specs.Inner.Kept.{HasNumbers}
use Rattle.cmh_frames.proofs.Apart.{some_same, not_both, home_first, home_later}
use Rattle.cmh_frames.proofs.Built.{members_at_rise, members_at_few}
use Rattle.cmh_frames.proofs.Homes.{at_home}
use Rattle.cmh_topology3.specs.Inner.Kept.{AreTidy}
use Rattle.cmh_topology3.specs.Limits.{most_members, most_sites}
use Rattle.cmh_topology3.specs.Topology.{IsWellFormed}

-- one of a list of numbers
number_among : (ns : List ℕ) (n : ℕ) → AllByRecursion IsNumber ns → list_any (λ q. q == n) ns ≡ true → IsNumber n
number_among [] n all h = absurd (not_both h refl)
number_among (m ∷ ms) n all h = elim (or_cases (m == n) (list_any (λ q. q == n) ms) h) [
  | inl e ↦ subst IsNumber (eqb-true m n e) all.0
  | inr e ↦ number_among ms n all.1 e
]

-- a process with a home has a number, and so has its home
home_numbers : (rows : List Row) (p s : ℕ) → AllByRecursion HasNumbers rows → home_in rows p ≡ Some s → IsNumber p × IsNumber s
home_numbers [] p s all h = absurd (none-some _ h)
home_numbers (row ∷ rows) p s all h = elim (cases_Bool (list_any (λ q. q == p) row.1)) [
  | inl e ↦ (number_among row.1 p all.0.1 e, subst IsNumber (some_same (sym (home_first row rows p e) ∙ h)) all.0.0)
  | inr e ↦ home_numbers rows p s all.1 (sym (home_later row rows p e) ∙ h)
]

-- the sites of the rows
site_numbers : (rows : List Row) → AllByRecursion HasNumbers rows → AllByRecursion IsNumber (map (λ (row : Row). row.0) rows)
site_numbers [] all = tt
site_numbers (row ∷ rows) all = (all.0.0, site_numbers rows all.1)

-- a topology of tidy rows is as there is one
pub well_formed : (world : List ℕ) (rows : List Row) → AreTidy rows → IsWellFormed (record { world = world; rows = rows })
well_formed world rows tidy = record {
  numbers = λ p s h. home_numbers rows p s tidy.numbers h;
  sites = λ s h. number_among _ s (site_numbers rows tidy.numbers) h;
  members = λ p s. at_home rows s p tidy.apart;
  sites_ascend = tidy.sites_ascend;
  members_ascend = λ s. members_at_rise rows s tidy.members_ascend;
  few_sites = subst (λ n. n ≤ most_sites) (sym (length-map rows (λ (row : Row). row.0))) tidy.few_sites;
  few_members = λ s. members_at_few (most_members) rows s tidy.few_members;
}
