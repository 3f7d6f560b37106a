-- One step more of what goes through a list.
use Rattle.std.proofs.Common.{◌≡◌, ℕ, ◌+◌, ◌<◌, ◌&&◌, ◌||◌, not, Bool, true, false, List, [], ◌∷◌, ◌++◌, length, get_or, take, drop, refl, sym, ap, ◌∙◌}
use Rattle.std.specs.List.{list_any}
use Rattle.std.proofs.lemmas.List.{take_more, drop_more}
use Rattle.std.proofs.lemmas.List.Folds.{list_any-append}

module _ {X : Type 0} (xs : List X) (i : ℕ) (x : X) (inside : i < length xs) (is : x ≡ get_or xs i x) where
  -- one item more is behind
  pub took : take (i + 1) xs ≡ take i xs ++ x ∷ []
  took = take_more xs i x inside ∙ ap (λ y. take i xs ++ y ∷ []) (sym is)

  -- the next item is ahead
  pub ahead : drop i xs ≡ x ∷ drop (i + 1) xs
  ahead = drop_more xs i x inside ∙ ap (λ y. y ∷ drop (i + 1) xs) (sym is)

  pub any_more : (f : X → Bool) → list_any f (take (i + 1) xs) ≡ (list_any f (take i xs) || f x)
  any_more f = ap (list_any f) took ∙ list_any-append f (take i xs) (x ∷ []) ∙ ap (λ b. list_any f (take i xs) || b) (no_more (f x))
    where
      no_more : (b : Bool) → (b || false) ≡ b
      no_more true = refl
      no_more false = refl

-- ---- truth values

pub add_one : (a s m o : Bool) → ((a && s) || ((a && m) || o)) ≡ ((a && (m || s)) || o)
add_one true true true o = refl
add_one true true false o = refl
add_one true false true o = refl
add_one true false false o = refl
add_one false s m o = refl

pub less_one : (a s m o : Bool) → (not (a && s) && (not (a && m) && o)) ≡ (not (a && (m || s)) && o)
less_one true true true o = refl
less_one true true false o = refl
less_one true false true o = refl
less_one true false false o = refl
less_one false s m o = refl

pub join_one : (a b c : Bool) → (a || (b || c)) ≡ ((b || a) || c)
join_one true true c = refl
join_one true false c = refl
join_one false true c = refl
join_one false false c = refl

pub or_assoc : (a b c : Bool) → ((a || b) || c) ≡ (a || (b || c))
or_assoc true b c = refl
or_assoc false b c = refl

-- what is put in is or was there, whichever is asked first
pub or_swap : (a b : Bool) → (a || b) ≡ (b || a)
or_swap true true = refl
or_swap true false = refl
or_swap false true = refl
or_swap false false = refl

pub or_middle : (a b c : Bool) → ((a || b) || c) ≡ (b || (a || c))
or_middle true true c = refl
or_middle true false c = refl
or_middle false b c = refl
