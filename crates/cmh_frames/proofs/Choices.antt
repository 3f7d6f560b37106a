-- Tests, and what is chosen by them.
use Rattle.std.proofs.Common.{◌≡◌, Bool, true, false, not, ◌&&◌, if◌then◌else◌, refl, sym, subst, true≢false}
use Rattle.std.specs.Prelude.{MatchBool}

pub match_true : (b : Bool) (P Q : Type 0) → b ≡ true → P → MatchBool b P Q
match_true b P Q e p = subst (λ x. MatchBool x P Q) (sym e) p

pub match_false : (b : Bool) (P Q : Type 0) → b ≡ false → Q → MatchBool b P Q
match_false b P Q e q = subst (λ x. MatchBool x P Q) (sym e) q

pub if_same : {A : Type 0} (c : Bool) (x : A) → (if c then x else x) ≡ x
if_same true x = refl
if_same false x = refl

pub same_bool : (x y : Bool) → (x ≡ true → y ≡ true) → (y ≡ true → x ≡ true) → x ≡ y
same_bool true y f g = sym (f refl)
same_bool false true f g = g refl
same_bool false false f g = refl

pub and_yes : (x y : Bool) → y ≡ true → (x && y) ≡ x
and_yes true y h = h
and_yes false y h = refl

-- what holds afterwards has not ended
pub not_ended : (before now : Bool) → now ≡ true → not (before && not now) ≡ true
not_ended true true e = refl
not_ended true false e = absurd (true≢false (sym e))
not_ended false now e = refl
