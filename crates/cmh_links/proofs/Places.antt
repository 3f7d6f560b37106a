-- What one place more comes to.
use Rattle.std.proofs.Common.{◌≡◌, ℕ, ◌+◌, ◌≤◌, List, [], ◌∷◌, ◌++◌, length, map, not, refl, ap, ◌∙◌, arith}
use Rattle.std.specs.List.{filter, sum_by}
use Rattle.std.proofs.lemmas.List.{length-append, length-map, map-append}
use Rattle.std.proofs.lemmas.List.Elements.{filter-append}
use Rattle.std.proofs.lemmas.List.Filters.{length-filter_both}
use Rattle.std.proofs.lemmas.List.Sums.{sum_by-append}
use Rattle.cmh_links.specs.declared.opening.Place.{Place}
use Rattle.cmh_links.specs.Threads.{closed_with, connected_in, failed_in, has_closed, is_connected, is_failed, leads_to}

zero_add : (n : ℕ) → 0 + n ≡ n
zero_add n = omega arith

sum-push : (f : Place → ℕ) (places : List Place) (place : Place) → sum_by f (places ++ place ∷ []) ≡ sum_by f places + f place
sum-push f places place = sum_by-append f places (place ∷ []) ∙ ap (λ n. sum_by f places + n) (zero_add (f place))

pub links_push : (places places' : List Place) (place : Place) → places' ≡ places ++ place ∷ [] → map leads_to places' ≡ map leads_to places ++ leads_to place ∷ []
links_push places places' place e = ap (map leads_to) e ∙ map-append leads_to places (place ∷ [])

pub connected_push : (places places' : List Place) (place : Place) → places' ≡ places ++ place ∷ [] → connected_in places' ≡ connected_in places + is_connected place
connected_push places places' place e = ap connected_in e ∙ sum-push is_connected places place

pub failed_push : (places places' : List Place) (place : Place) → places' ≡ places ++ place ∷ [] → failed_in places' ≡ failed_in places + is_failed place
failed_push places places' place e = ap failed_in e ∙ sum-push is_failed places place

closed-append : (number : ℕ) (places : List Place) (place : Place) → closed_with number (places ++ place ∷ []) ≡ closed_with number places ++ closed_with number (place ∷ [])
closed-append number places place =
    ap (map leads_to) (filter-append (has_closed number) places (place ∷ []))
    ∙ map-append leads_to (filter (has_closed number) places) (filter (has_closed number) (place ∷ []))

pub closed_push : (number : ℕ) (places places' : List Place) (place : Place) → places' ≡ places ++ place ∷ []
    → length (closed_with number places') ≡ length (closed_with number places) + length (closed_with number (place ∷ []))
closed_push number places places' place e =
    ap (λ ps. length (closed_with number ps)) e ∙ ap length (closed-append number places place)
    ∙ length-append (closed_with number places) (closed_with number (place ∷ []))

-- no more links are closed than there are
pub closed_few : (number : ℕ) (places : List Place) → length (closed_with number places) ≤ length places
closed_few number places =
    let same = length-map (filter (has_closed number) places) leads_to in
    let both = length-filter_both (has_closed number) (λ place. not (has_closed number place)) (λ _. refl) places in
    omega (arith, same, both)
