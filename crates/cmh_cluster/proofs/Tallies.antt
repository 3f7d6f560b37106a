-- Frames that are counted in a journal that grows.
use Rattle.std.proofs.Common.{◌≡◌, ℕ, ◌+◌, ◌-◌, ◌^◌, ◌==◌, Bool, true, false, min, List, [], ◌∷◌, ◌++◌, length, drop, refl, sym, ap, ◌∙◌, arith, length-append, append-nil}
use Rattle.cmh_frames.proofs.Journals.{receipts_of-append, sendings_of-append}
use Rattle.std.specs.Prelude.{if◌then◌else◌}
use Rattle.cmh_frames.specs.declared.frame.Frame.{Frame}
use Rattle.cmh_frames.specs.Journals.{frame_from, frames_to, receipts_of, sendings_of}
use Rattle.cmh_frames.specs.Runs.{IsBeginningOf}
use Rattle.cmh_frames.specs.Entries.{Entry}

-- one entry more
pub receipt_more : (from : ℕ) (xs : List Entry) (x : Entry) (count new more : ℕ) → count ≡ min (length (receipts_of from xs)) (2 ^ 64 - 1)
    → length (frame_from from x.event) ≡ more → new ≡ min (count + more) (2 ^ 64 - 1) → new ≡ min (length (receipts_of from (xs ++ x ∷ []))) (2 ^ 64 - 1)
receipt_more from xs x count new more so_far is adds =
    let all : length (receipts_of from (xs ++ x ∷ [])) ≡ length (receipts_of from xs) + length (frame_from from x.event) =
    ap length (receipts_of-append from xs (x ∷ [])) ∙ length-append (receipts_of from xs) (receipts_of from (x ∷ []))
    ∙ ap (λ fs. length (receipts_of from xs) + length fs) (append-nil (frame_from from x.event)) in
    omega (arith, so_far, is, adds, all)

pub sending_more : (to : ℕ) (xs : List Entry) (x : Entry) (count new more : ℕ) → count ≡ min (length (sendings_of to xs)) (2 ^ 64 - 1)
    → more ≡ min (length (frames_to to x.sent)) (2 ^ 64 - 1) → new ≡ min (count + more) (2 ^ 64 - 1) → new ≡ min (length (sendings_of to (xs ++ x ∷ []))) (2 ^ 64 - 1)
sending_more to xs x count new more so_far is adds =
    let all : length (sendings_of to (xs ++ x ∷ [])) ≡ length (sendings_of to xs) + length (frames_to to x.sent) =
    ap length (sendings_of-append to xs (x ∷ [])) ∙ length-append (sendings_of to xs) (sendings_of to (x ∷ []))
    ∙ ap (λ fs. length (sendings_of to xs) + length fs) (append-nil (frames_to to x.sent)) in
    omega (arith, so_far, is, adds, all)

-- one frame more
abbrev one_if : Bool → ℕ
one_if true = 1
one_if false = 0

frames_more : (to : ℕ) (xs : List (ℕ × Frame)) (x : ℕ × Frame) → length (frames_to to (xs ++ x ∷ [])) ≡ length (frames_to to xs) + one_if (x.0 == to)
frames_more to [] x = last (x.0 == to)
  where
    last : (c : Bool) → length (if c then x.1 ∷ [] else []) ≡ 0 + one_if c
    last true = refl
    last false = refl
frames_more to (y ∷ ys) x = first (y.0 == to) (frames_more to ys x)
  where
    first : (c : Bool) → length (frames_to to (ys ++ x ∷ [])) ≡ length (frames_to to ys) + one_if (x.0 == to)
        → length (if c then y.1 ∷ frames_to to (ys ++ x ∷ []) else frames_to to (ys ++ x ∷ [])) ≡ length (if c then y.1 ∷ frames_to to ys else frames_to to ys) + one_if (x.0 == to)
    first true h = omega (arith, h)
    first false h = h

pub frame_more : (to : ℕ) (xs : List (ℕ × Frame)) (x : ℕ × Frame) (count new : ℕ) → count ≡ min (length (frames_to to xs)) (2 ^ 64 - 1)
    → (x.0 == to) ≡ true → new ≡ min (count + 1) (2 ^ 64 - 1) → new ≡ min (length (frames_to to (xs ++ x ∷ []))) (2 ^ 64 - 1)
frame_more to xs x count new so_far is adds =
    let all : length (frames_to to (xs ++ x ∷ [])) ≡ length (frames_to to xs) + 1 = frames_more to xs x ∙ ap (λ c. length (frames_to to xs) + one_if c) is in
    omega (arith, so_far, adds, all)

pub frame_elsewhere : (to : ℕ) (xs : List (ℕ × Frame)) (x : ℕ × Frame) (count : ℕ) → count ≡ min (length (frames_to to xs)) (2 ^ 64 - 1)
    → (x.0 == to) ≡ false → count ≡ min (length (frames_to to (xs ++ x ∷ []))) (2 ^ 64 - 1)
frame_elsewhere to xs x count so_far is =
    let all : length (frames_to to (xs ++ x ∷ [])) ≡ length (frames_to to xs) + 0 = frames_more to xs x ∙ ap (λ c. length (frames_to to xs) + one_if c) is in
    omega (arith, so_far, all)

-- after a beginning stands the rest
drop_beginning : (before rest : List Entry) → drop (length before) (before ++ rest) ≡ rest
drop_beginning [] rest = refl
drop_beginning (x ∷ xs) rest = drop_beginning xs rest

behind_is : (before now : List Entry) (looked : ℕ) (begins : IsBeginningOf before now) → looked ≡ length before → drop looked now ≡ begins.0
behind_is before now looked begins is =
    ap (λ n. drop n now) is ∙ ap (λ es. drop (length before) es) (sym begins.1) ∙ drop_beginning before begins.0

module _ (before now : List Entry) (looked frames more : ℕ) (begins : IsBeginningOf before now) (is : looked ≡ length before) where
  pub receipts_more : (from : ℕ) → frames ≡ min (length (receipts_of from before)) (2 ^ 64 - 1)
      → more ≡ min (length (receipts_of from (drop looked now))) (2 ^ 64 - 1)
      → min (frames + more) (2 ^ 64 - 1) ≡ min (length (receipts_of from now)) (2 ^ 64 - 1)
  receipts_more from first counted =
      let part : more ≡ min (length (receipts_of from begins.0)) (2 ^ 64 - 1) =
      counted ∙ ap (λ es. min (length (receipts_of from es)) (2 ^ 64 - 1)) (behind_is before now looked begins is) in
      let all : length (receipts_of from now) ≡ length (receipts_of from before) + length (receipts_of from begins.0) =
      ap (λ es. length (receipts_of from es)) (sym begins.1) ∙ ap length (receipts_of-append from before begins.0)
      ∙ length-append (receipts_of from before) (receipts_of from begins.0) in
      omega (arith, part, all, first)

  pub sendings_more : (to : ℕ) → frames ≡ min (length (sendings_of to before)) (2 ^ 64 - 1)
      → more ≡ min (length (sendings_of to (drop looked now))) (2 ^ 64 - 1)
      → min (frames + more) (2 ^ 64 - 1) ≡ min (length (sendings_of to now)) (2 ^ 64 - 1)
  sendings_more to first counted =
      let part : more ≡ min (length (sendings_of to begins.0)) (2 ^ 64 - 1) =
      counted ∙ ap (λ es. min (length (sendings_of to es)) (2 ^ 64 - 1)) (behind_is before now looked begins is) in
      let all : length (sendings_of to now) ≡ length (sendings_of to before) + length (sendings_of to begins.0) =
      ap (λ es. length (sendings_of to es)) (sym begins.1) ∙ ap length (sendings_of-append to before begins.0)
      ∙ length-append (sendings_of to before) (sendings_of to begins.0) in
      omega (arith, part, all, first)
