-- Beginnings of lists, and lists at one connection.
use Rattle.std.proofs.Common.{◌≡◌, ◌≢◌, ℕ, ◌≤◌, List, [], ◌∷◌, ◌++◌, if◌then◌else◌, length, refl, sym, ap, ◌∙◌, subst, inl, inr, arith, append_assoc, length-append}
use Rattle.std.proofs.lemmas.Bool.{cases_eq, eq-eqb, ne_eqb}
use Rattle.std.specs.List.{AllByRecursion}
use Rattle.cmh_runs.specs.Runs.{IsBeginningOf}
use Rattle.cmh_resume3.specs.Link.{Line, at_one}

module _ {X : Type 0} where
  pub begins_longer : (xs ys zs : List X) → IsBeginningOf xs ys → IsBeginningOf xs (ys ++ zs)
  begins_longer xs ys zs b = (b.0 ++ zs, sym (append_assoc xs b.0 zs) ∙ ap (λ l. l ++ zs) b.1)

  pub begins_shorter : (xs ys zs : List X) → IsBeginningOf (xs ++ ys) zs → IsBeginningOf xs zs
  begins_shorter xs ys zs b = (ys ++ b.0, sym (append_assoc xs ys b.0) ∙ b.1)

  pub begins_within : (xs kept held zs : List X) → IsBeginningOf kept held → IsBeginningOf (xs ++ held) zs → IsBeginningOf (xs ++ kept) zs
  begins_within xs kept held zs k b = begins_shorter (xs ++ kept) k.0 zs (subst (λ l. IsBeginningOf l zs) (ap (λ l. xs ++ l) (sym k.1) ∙ sym (append_assoc xs kept k.0)) b)

  -- beginnings of one length are one
  pub same_front : (xs front rest back : List X) → xs ++ rest ≡ front ++ back → length xs ≡ length front → (xs ≡ front) × (rest ≡ back)
  same_front [] [] rest back h l = (refl, h)
  same_front [] (y ∷ ys) rest back h l = absurd (omega (arith, l))
  same_front (x ∷ xs) [] rest back h l = absurd (omega (arith, l))
  same_front (x ∷ xs) (y ∷ ys) rest back h l =
      let same : x ≡ y = cc h in
      let tail : xs ++ rest ≡ ys ++ back = cc h in
      let r = same_front xs ys rest back tail (omega (arith, l)) in
      (ap (λ z. z ∷ xs) same ∙ ap (λ t. y ∷ t) r.0, r.1)

  pub nothing_begins : (kept held : List X) → IsBeginningOf kept held → held ≡ [] → kept ≡ []
  nothing_begins [] held b z = refl
  nothing_begins (x ∷ xs) held b z = absurd (cc (b.1 ∙ z))

  pub none_long : (xs : List X) → length xs ≡ 0 → xs ≡ []
  none_long [] e = refl
  none_long (x ∷ xs) e = absurd (omega (arith, e))

  pub length_grows : (xs ys : List X) → length xs ≤ length (xs ++ ys)
  length_grows xs ys = let both = length-append xs ys in omega arith

  pub all_begin : (P : X → Type 0) (xs ys : List X) → IsBeginningOf xs ys → AllByRecursion P ys → AllByRecursion P xs
  all_begin P xs ys b each = front xs b.0 (subst (AllByRecursion P) (sym b.1) each)
    where
      front : (xs rest : List X) → AllByRecursion P (xs ++ rest) → AllByRecursion P xs
      front [] rest each = tt
      front (x ∷ xs) rest each = (each.0, front xs rest each.1)

  pub all_with_one : (P : X → Type 0) (xs : List X) (x : X) → AllByRecursion P xs → P x → AllByRecursion P (xs ++ x ∷ [])
  all_with_one P [] x each one = (one, tt)
  all_with_one P (y ∷ ys) x each one = (each.0, all_with_one P ys x each.1 one)

  pub one_of_all : (P : X → Type 0) (xs : List X) (x : X) (ys all : List X) → all ≡ xs ++ x ∷ ys → AllByRecursion P all → P x
  one_of_all P xs x ys all e each = at xs (subst (AllByRecursion P) e each)
    where
      at : (xs : List X) → AllByRecursion P (xs ++ x ∷ ys) → P x
      at [] each = each.0
      at (y ∷ xs) each = at xs each.1

  pub each_weaker : (P Q : X → Type 0) (xs : List X) → ((x : X) → P x → Q x) → AllByRecursion P xs → AllByRecursion Q xs
  each_weaker P Q [] f each = tt
  each_weaker P Q (x ∷ xs) f each = (f x each.0, each_weaker P Q xs f each.1)

-- what holds of the line at c, and at each other connection of what was there, holds of all
pub at_each : (P : ℕ → Line → Type 0) (lines : ℕ → Line) (c : ℕ) (line : Line) → ((d : ℕ) → d ≢ c → P d (lines d)) → P c line → (d : ℕ) → P d (at_one lines c line d)
at_each P lines c line others here d = elim (cases_eq d c) [
  | inl at ↦ subst (λ l. P d l) (sym (ap (λ z. if z then line else lines d) (eq-eqb d c at))) (subst (λ e. P e line) (sym at) here)
  | inr far ↦ subst (λ l. P d l) (sym (ap (λ z. if z then line else lines d) (ne_eqb d c far))) (others d far)
]
