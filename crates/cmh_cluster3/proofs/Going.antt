-- How the sites of a cluster go on.
use Rattle.std.proofs.Common.{◌≡◌, ◌<◌, ◌≤◌, ◌∙◌, ap, arith, length, ℕ, zero, suc, Bool, List, [], ◌∷◌, Option, None, Some, refl, sym, subst}
use Rattle.std.specs.Prelude.{slice_index_or, slice_get, slice_set}
use Rattle.cmh_links3.proofs.Growing.{grows_same, grows_then}
use Rattle.cmh_station3.specs.Files.{Held}
use Rattle.cmh_node3.specs.Nodes.{Node}
use Rattle.std.specs.List.{AllZip}
use Rattle.cmh_cluster3.specs.Sites.{AllGoOn, GoesOn, IsDown}

pub none_some : {X : Type 0} {x : X} → None ≡ Some x → ⊥
none_some h = cc

pub some_same : {X : Type 0} (x y : X) → Some x ≡ Some y → x ≡ y
some_same x y h = cc

-- what stands at a place
pub at_place : {X : Type 0} (xs : List X) (k : ℕ) (x : X) → k < length xs → x ≡ slice_index_or xs k x → slice_get xs k ≡ Some x
at_place [] k x below is = absurd (omega (arith, below))
at_place (y ∷ xs) zero x below is = ap Some (sym is)
at_place (y ∷ xs) (suc k) x below is = at_place xs k x (omega (arith, below)) is

-- nothing stands past the last
past_none : {X : Type 0} (xs : List X) (k : ℕ) → length xs ≤ k → slice_get xs k ≡ None
past_none [] k past = refl
past_none (y ∷ xs) zero past = absurd (omega (arith, past))
past_none (y ∷ xs) (suc k) past = past_none xs k (omega (arith, past))

pub down_past : {X : Type 0} (xs : List (Option X)) (k : ℕ) → length xs ≤ k → IsDown xs k
down_past xs k past site there = none_some (sym (past_none xs k past) ∙ there)

pub down_none : {X : Type 0} (xs : List (Option X)) (k : ℕ) → slice_get xs k ≡ Some None → IsDown xs k
down_none xs k none site there = none_some (some_same None (Some site) (sym none ∙ there))

module _ {File : Type 0} (told : File → Option Held) (has_failed : File → Bool) where
  goes_on_same : (a : Option (Node File)) → GoesOn told has_failed a a
  goes_on_same None = refl
  goes_on_same (Some a) = grows_same told has_failed a a refl

  goes_on_then : (a b c : Option (Node File)) → GoesOn told has_failed a b → GoesOn told has_failed b c → GoesOn told has_failed a c
  goes_on_then None b c first next = subst (λ (x : Option (Node File)). GoesOn told has_failed x c) first next
  goes_on_then (Some a) None c first next = absurd first
  goes_on_then (Some a) (Some b) None first next = absurd next
  goes_on_then (Some a) (Some b) (Some c) first next = grows_then told has_failed a b c first next

  each_same : (xs : List (Option (Node File))) → AllZip (GoesOn told has_failed) xs xs
  each_same [] = tt
  each_same (x ∷ xs) = (goes_on_same x, each_same xs)

  each_then : (xs ys zs : List (Option (Node File))) → AllZip (GoesOn told has_failed) xs ys → AllZip (GoesOn told has_failed) ys zs
      → AllZip (GoesOn told has_failed) xs zs
  each_then [] [] zs first next = next
  each_then [] (y ∷ ys) zs first next = absurd first
  each_then (x ∷ xs) [] zs first next = absurd first
  each_then (x ∷ xs) (y ∷ ys) [] first next = absurd next
  each_then (x ∷ xs) (y ∷ ys) (z ∷ zs) first next = (goes_on_then x y z first.0 next.0, each_then xs ys zs first.1 next.1)

  pub all_same : (xs ys : List (Option (Node File))) → ys ≡ xs → AllGoOn told has_failed xs ys
  all_same xs ys same = record { each = subst (λ (l : List (Option (Node File))). AllZip (GoesOn told has_failed) xs l) (sym same) (each_same xs) }

  pub all_then : (xs ys zs : List (Option (Node File))) → AllGoOn told has_failed xs ys → AllGoOn told has_failed ys zs → AllGoOn told has_failed xs zs
  all_then xs ys zs first next = record { each = each_then xs ys zs first.each next.each }

  each_put : (xs : List (Option (Node File))) (k : ℕ) (a b : Option (Node File)) → slice_get xs k ≡ Some a → GoesOn told has_failed a b
      → AllZip (GoesOn told has_failed) xs (slice_set xs k b)
  each_put [] k a b there goes = absurd (none_some there)
  each_put (x ∷ xs) zero a b there goes = (subst (λ (y : Option (Node File)). GoesOn told has_failed y b) (sym (some_same x a there)) goes, each_same xs)
  each_put (x ∷ xs) (suc k) a b there goes = (goes_on_same x, each_put xs k a b there goes)

  -- one goes on, where the others are as they were
  pub all_put : (xs : List (Option (Node File))) (k : ℕ) (a b : Option (Node File)) → k < length xs → a ≡ slice_index_or xs k a → GoesOn told has_failed a b
      → AllGoOn told has_failed xs (slice_set xs k b)
  all_put xs k a b below is goes = record { each = each_put xs k a b (at_place xs k a below is) goes }
