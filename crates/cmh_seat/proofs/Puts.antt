-- Bytes that are written one after the other over others.
use Rattle.std.proofs.Common.{◌≡◌, ℕ, suc, zero, ◌+◌, ◌<◌, ◌≤◌, get_or, List, [], ◌∷◌, ◌++◌, length, drop, take, refl, sym, ap, ◌∙◌, arith, length-append}
use Rattle.std.proofs.lemmas.List.{length-drop}
use Rattle.cmh_frames.specs.Wire.{spelled, spelling}
use Rattle.cmh_frames.specs.declared.frame.Frame.{Frame}

-- These bytes go over the first of those before: so many are put, and these are left.
pub record HasPut (before all now : List ℕ) (at : ℕ) (left : List ℕ) : Type 0 where
  pub put : List ℕ
  pub all_are : put ++ left ≡ all
  pub at_is : at ≡ length put
  pub stands : now ≡ put ++ drop at before
  pub fits : length all ≤ length before

pub none_put : (before all : List ℕ) → length all ≤ length before → HasPut before all before 0 all
none_put before all fits = record { put = []; all_are = refl; at_is = refl; stands = refl; fits = fits }

append-assoc : (xs ys zs : List ℕ) → (xs ++ ys) ++ zs ≡ xs ++ (ys ++ zs)
append-assoc [] ys zs = refl
append-assoc (x ∷ xs) ys zs = ap (λ l. x ∷ l) (append-assoc xs ys zs)

append-nil : (xs : List ℕ) → xs ++ [] ≡ xs
append-nil [] = refl
append-nil (x ∷ xs) = ap (λ l. x ∷ l) (append-nil xs)

pub take_over : (xs ys : List ℕ) → take (length xs) (xs ++ ys) ≡ xs
take_over [] ys = refl
take_over (x ∷ xs) ys = ap (λ l. x ∷ l) (take_over xs ys)

drop_none : (n : ℕ) → ◌≡◌ {A = List ℕ} (drop n []) []
drop_none zero = refl
drop_none (suc n) = refl

pub drop_twice : (a b : ℕ) (xs : List ℕ) → drop b (drop a xs) ≡ drop (a + b) xs
drop_twice zero b xs = let e : b ≡ 0 + b = omega arith in ap (λ k. drop k xs) e
drop_twice (suc a) b [] = drop_none b ∙ sym (drop_none (suc a + b))
drop_twice (suc a) b (x ∷ xs) = let e : suc (a + b) ≡ suc a + b = omega arith in drop_twice a b xs ∙ ap (λ k. drop k (x ∷ xs)) e

length_is : (before all now : List ℕ) (at : ℕ) (left : List ℕ) → HasPut before all now at left → length now ≡ length before
length_is before all now at left h =
    let parts = ap length h.all_are in
    let stands = ap length h.stands in
    let fits = h.fits in
    let at_is = h.at_is in
    omega (arith, parts, stands, fits, at_is, length-append h.put left, length-append h.put (drop at before), length-drop at before)

-- there is room for what is left
pub has_room : (before all now : List ℕ) (at : ℕ) (left : List ℕ) → HasPut before all now at left → at + length left ≤ length now
has_room before all now at left h =
    let parts = ap length h.all_are in
    let fits = h.fits in
    let at_is = h.at_is in
    omega (arith, parts, fits, at_is, length-append h.put left, length_is before all now at left h)

drop_seam : (xs ys : List ℕ) → drop (length xs) (xs ++ ys) ≡ ys
drop_seam [] ys = refl
drop_seam (x ∷ xs) ys = drop_seam xs ys

-- the next of them are put
pub put_next : (before all now : List ℕ) (at m : ℕ) (left bs more now' : List ℕ) → HasPut before all now at left → left ≡ bs ++ more → m ≡ length bs
    → now' ≡ take at now ++ (bs ++ drop m (drop at now)) → HasPut before all now' (at + m) more
put_next before all now at m left bs more now' h next len is =
    let first : take at now ≡ h.put =
    ap (λ n. take n now) h.at_is ∙ ap (take (length h.put)) h.stands ∙ take_over h.put (drop at before) in
    let rest : drop at now ≡ drop at before =
    ap (λ n. drop n now) h.at_is ∙ ap (drop (length h.put)) h.stands ∙ drop_seam h.put (drop at before) in
    record {
      put = h.put ++ bs;
      all_are = append-assoc h.put bs more ∙ ap (λ l. h.put ++ l) (sym next) ∙ h.all_are;
      at_is = ap (λ n. n + m) h.at_is ∙ ap (λ n. length h.put + n) len ∙ sym (length-append h.put bs);
      stands = is ∙ ap (λ l. l ++ (bs ++ drop m (drop at now))) first ∙ ap (λ l. h.put ++ (bs ++ drop m l)) rest
          ∙ ap (λ l. h.put ++ (bs ++ l)) (drop_twice at m before) ∙ sym (append-assoc h.put bs (drop (at + m) before));
      fits = h.fits;
    }

-- all of them are put
pub all_put : (before all now : List ℕ) (at : ℕ) → HasPut before all now at [] → now ≡ all ++ drop (length all) before
all_put before all now at h =
    let put_is : h.put ≡ all = sym (append-nil h.put) ∙ h.all_are in
    h.stands ∙ ap (λ l. l ++ drop at before) put_is ∙ ap (λ n. all ++ drop n before) (h.at_is ∙ ap length put_is)

pub all_at : (before all now : List ℕ) (at : ℕ) → HasPut before all now at [] → at ≡ length all
all_at before all now at h = h.at_is ∙ ap length (sym (append-nil h.put) ∙ h.all_are)

-- ---- frames

pub spelled_next : (fs : List Frame) (i : ℕ) (f : Frame) → i < length fs → f ≡ get_or fs i f
    → spelled (drop i fs) ≡ spelling f ++ spelled (drop (i + 1) fs)
spelled_next [] i f h e = absurd (omega (arith, h))
spelled_next (x ∷ fs) zero f h e = ap (λ g. spelling g ++ spelled fs) (sym e)
spelled_next (x ∷ fs) (suc i) f h e =
    let below : i < length fs = omega (arith, h) in
    let later : suc (i + 1) ≡ suc i + 1 = omega arith in
    spelled_next fs i f below e ∙ ap (λ n. spelling f ++ spelled (drop n (x ∷ fs))) later
