use Rattle.std.proofs.Common.{◌≡◌, ◌+◌, ◌<◌, ◌∙◌, ◌++◌, ℕ, Bool, true, false, suc, zero, List, [], ◌∷◌, get_or, length, take, cond, sym, ap, refl, arith}
use Rattle.std.specs.List.{filter}
use Rattle.std.proofs.lemmas.List.{get_or_default}
use Rattle.cmh_bits.specs.Bits.{is_set}
use Rattle.cmh_waits.specs.Rows.{place_in}
use Rattle.cmh_waits.proofs.RowLemmas.{place_at}
use Rattle.cmh_waits.proofs.local_waits.members_of.Goals as goal
use Rattle.cmh_waits.proofs.local_waits.members_of.Goals.{then-has_bit+in_ok-push, else-has_bit}

one_kept : (test : ℕ → Bool) (y : ℕ) (xs ys : List ℕ) (b : Bool) → cond b (y ∷ xs) xs ++ ys ≡ cond b (y ∷ xs ++ ys) (xs ++ ys)
one_kept test y xs ys true = refl
one_kept test y xs ys false = refl

kept_next : (test : ℕ → Bool) (xs : List ℕ) (i : ℕ) → i < length xs → filter test (take (suc i) xs) ≡ filter test (take i xs) ++ cond (test (get_or xs i 0)) (get_or xs i 0 ∷ []) []
kept_next test [] i h = absurd (omega arith)
kept_next test (y ∷ ys) zero h = refl
kept_next test (y ∷ ys) (suc i) h =
    ap (λ zs. cond (test y) (y ∷ zs) zs) (kept_next test ys i (omega arith))
    ∙ sym (one_kept test y (filter test (take i ys)) (cond (test (get_or ys i 0)) (get_or ys i 0 ∷ []) []) (test y))

kept_more : (test : ℕ → Bool) (xs : List ℕ) (i : ℕ) (b : Bool) → i < length xs → b ≡ test (get_or xs i 0) → filter test (take (i + 1) xs) ≡ filter test (take i xs) ++ cond b (get_or xs i 0 ∷ []) []
kept_more test xs i b h is =
    let next : i + 1 ≡ suc i = omega arith in
    ap (λ n. filter test (take n xs)) next ∙ kept_next test xs i h ∙ ap (λ t. filter test (take i xs) ++ cond t (get_or xs i 0 ∷ []) []) (sym is)

nothing_more : (xs : List ℕ) → xs ++ [] ≡ xs
nothing_more [] = refl
nothing_more (x ∷ xs) = ap (λ ys. x ∷ ys) (nothing_more xs)

pub loop-place-preserved : goal.loop-place-preserved
loop-place-preserved c =
    let ms = c.args.members.now in
    let place = c.loop-place.place in
    let below : place < length ms = c.loop-place-test.true in
    let test : ℕ → Bool = λ q. is_set c.args.row (place_in ms q) in
    let tested = c.has_bit.ensures ∙ ap (is_set c.args.row) (sym (place_at ms c.requires.ascending place (get_or ms place 0) below refl)) in
    let next = kept_more test ms place c.has_bit.result below tested in
    elim c.if-has_bit.branch [
      | then-has_bit+in_ok-push w ↦
          ap (λ v. v.items) w.all-is ∙ w.in_ok-push.ensures.items ∙ ap (λ xs. xs ++ w.index-members-place.result ∷ []) c.loop-place.invariant
          ∙ ap (λ x. filter test (take place ms) ++ x ∷ []) (w.index-members-place.is ∙ get_or_default ms place w.index-members-place.result 0 below)
          ∙ sym (next ∙ ap (λ b. filter test (take place ms) ++ cond b (get_or ms place 0 ∷ []) []) w.if-has_bit.true)
      | else-has_bit w ↦
          ap (λ v. v.items) w.all-is ∙ c.loop-place.invariant
          ∙ sym (next ∙ ap (λ b. filter test (take place ms) ++ cond b (get_or ms place 0 ∷ []) []) w.if-has_bit.false ∙ nothing_more (filter test (take place ms)))
    ]
