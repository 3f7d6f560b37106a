-- Homes are sites of the topology.
use Rattle.std.proofs.Common.{◌≡◌, ℕ, Bool, true, false, List, [], ◌∷◌, Some, ◌==◌, ◌||◌}
use Rattle.std.specs.Prelude.{if◌then◌else◌, map}
use Rattle.std.specs.List.{list_any}
use Rattle.std.proofs.lemmas.Bool.{eq-eqb, or_left, or_right}
use Rattle.cmh_frames.specs.Topology.{Topology, home, home_in, is_site}

abbrev sites_in : List (ℕ × List ℕ) → List ℕ
sites_in rows = map (λ (row : ℕ × List ℕ). row.0) rows

one_more : (row : ℕ × List ℕ) (rows : List (ℕ × List ℕ)) (p s : ℕ) (here : Bool) → (home_in rows p ≡ Some s → list_any (λ q. q == s) (sites_in rows) ≡ true)
    → (if here then Some row.0 else home_in rows p) ≡ Some s → ((row.0 == s) || list_any (λ q. q == s) (sites_in rows)) ≡ true
one_more row rows p s true more e = let same : row.0 ≡ s = cc in or_left (row.0 == s) _ (eq-eqb row.0 s same)
one_more row rows p s false more e = or_right (row.0 == s) _ (more e)

is_site-home_in : (rows : List (ℕ × List ℕ)) (p s : ℕ) → home_in rows p ≡ Some s → list_any (λ q. q == s) (sites_in rows) ≡ true
is_site-home_in [] p s h = absurd (cc)
is_site-home_in (row ∷ rows) p s h = one_more row rows p s (list_any (λ q. q == p) row.1) (is_site-home_in rows p s) h

pub is_site-home : (t : Topology) (p s : ℕ) → home t p ≡ Some s → is_site t s ≡ true
is_site-home t p s h = is_site-home_in t.rows p s h
