-- Whether rows of links fit in a base.
use Rattle.std.proofs.Common.{◌≡◌, ℕ, zero, suc, ◌+◌, ◌-◌, ◌^◌, ◌<◌, ◌≤◌, List, [], ◌∷◌, ◌++◌, IsTrue, leb, length, get_or, map, min, take, sym, ap, ◌∙◌, subst, arith, length-append}
use Rattle.std.specs.List.{AllByRecursion, flat_map}
use Rattle.std.proofs.lemmas.Bool.{le-leb, leb-true}
use Rattle.std.proofs.lemmas.List.{take_more}
use Rattle.byteorder.specs.Endian.{big_bytes}
use Rattle.cmh_model3.specs.Lists.{IsAscending}
use Rattle.cmh_segment3.proofs.RowLists.{AreFirst, row_more}
use Rattle.cmh_segment3.specs.Base.{IsLinkRow, incoming_spelling, link_place, link_row, outgoing_spelling}
use Rattle.cmh_segment3.specs.Inner.OneRow.{one_link_row}
use Rattle.cmh_segment3.specs.Rows.{rows_spelling}
use Rattle.cmh_segment3.specs.declared.links.LinkState.{LinkState}
use Rattle.cmh_bases3.specs.FittingLinks.{FitLinks}

-- ---- one of them

pub link_at : (P : LinkState → Type 0) (xs : List LinkState) (i : ℕ) (d : LinkState) → AllByRecursion P xs → i < length xs → P (get_or xs i d)
link_at P [] i d all inside = absurd (omega (arith, inside))
link_at P (x ∷ xs) zero d all inside = all.0
link_at P (x ∷ xs) (suc i) d all inside = link_at P xs i d all.1 (omega (arith, inside))

above_item : (n : ℕ) (xs : List LinkState) (i : ℕ) (d : LinkState) → AllByRecursion (λ k. n < k) (map link_place xs) → i < length xs → n < link_place (get_or xs i d)
above_item n [] i d above inside = absurd (omega (arith, inside))
above_item n (x ∷ xs) zero d above inside = above.0
above_item n (x ∷ xs) (suc i) d above inside = above_item n xs i d above.1 (omega (arith, inside))

-- of links in order, those before one are at lower places
pub below_at : (xs : List LinkState) (i : ℕ) (d : LinkState) → IsAscending (map link_place xs) → i < length xs → AllByRecursion (λ j. j < link_place (get_or xs i d)) (map link_place (take i xs))
below_at [] i d up inside = absurd (omega (arith, inside))
below_at (x ∷ xs) zero d up inside = tt
below_at (x ∷ xs) (suc i) d up inside =
    let within : i < length xs = omega (arith, inside) in
    (above_item (link_place x) xs i d up.0 within, below_at xs i d up.1 within)

-- one more
pub first_more : (xs : List LinkState) (i least place : ℕ) (x : LinkState) → AreFirst IsLinkRow link_place least (take i xs) → i < length xs → x ≡ get_or xs i x → place ≡ link_place x → IsLinkRow x → least ≤ place
    → AreFirst IsLinkRow link_place (place + 1) (take (i + 1) xs)
first_more xs i least place x first inside is at row low =
    let next = row_more IsLinkRow link_row link_place one_link_row least (take i xs) x first row (omega (arith, at, low)) in
    let longer : take (i + 1) xs ≡ take i xs ++ x ∷ [] = take_more xs i x inside ∙ ap (λ (y : LinkState). take i xs ++ y ∷ []) (sym is) in
    subst (λ (l : List LinkState). AreFirst IsLinkRow link_place (place + 1) l) (sym longer) (subst (λ n. AreFirst IsLinkRow link_place (n + 1) (take i xs ++ x ∷ [])) (sym at) next)

-- ---- all of them

-- each has bytes
as_many : (xs : List LinkState) → length xs ≤ length (flat_map link_row xs)
as_many [] = omega arith
as_many (x ∷ xs) =
    let later = as_many xs in
    let one = length-append (big_bytes 2 x.site) (outgoing_spelling x.out ++ incoming_spelling x.into) in
    let both = length-append (link_row x) (flat_map link_row xs) in
    omega (arith, later, one, both)

module _ (links : List LinkState) (n : ℕ) (is : n ≡ min (length (rows_spelling link_row links)) (2 ^ 64 - 1)) where
  pub short_fit : AllByRecursion IsLinkRow links → IsAscending (map link_place links) → IsTrue (leb n 1073741824) → FitLinks links
  short_fit each up short =
      let low = leb-true n 1073741824 short in
      let many = as_many links in
      let both = length-append (big_bytes 4 (length links)) (flat_map link_row links) in
      record {
        rows = record { few = omega (arith, is, low, many, both); ascending = up; each = each };
        short = omega (arith, is, low);
      }

  pub fit_short : FitLinks links → IsTrue (leb n 1073741824)
  fit_short fit = let low = fit.short in le-leb n 1073741824 (omega (arith, is, low))
