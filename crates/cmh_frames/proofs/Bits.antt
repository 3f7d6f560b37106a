-- Truth values as numbers, so that facts about them add up.
use Rattle.std.proofs.Common.{◌≡◌, ◌≤◌, ℕ, suc, ◌+◌, Bool, true, false, not, ◌&&◌, ◌||◌, refl, ap, arith}
use Rattle.cmh_frames.specs.Laws.{bit}

-- a bit of 0 is false
pub bit_zero : (x : Bool) → bit x ≡ 0 → x ≡ false
bit_zero true h = absurd (omega arith)
bit_zero false h = refl

-- a bit above 0 is true
pub bit_one : (x : Bool) (n : ℕ) → bit x ≡ suc n → x ≡ true
bit_one true n h = refl
bit_one false n h = absurd (omega arith)

-- a bit is at most 1
pub bit_at_most : (x : Bool) → bit x ≤ 1
bit_at_most true = omega arith
bit_at_most false = omega arith

-- the wait after an event, as a sum: an ask adds it where there was none, and a grant takes it away where there was one
pub wait_sum : (n q g x : Bool) → n ≡ (q || (not g && x)) → (q ≡ true → x ≡ false) → (q ≡ true → g ≡ false) → (g ≡ true → x ≡ true) → bit n + bit g ≡ bit x + bit q
wait_sum n true g x e f h k = let a = ap bit e in let b = ap bit (f refl) in let c = ap bit (h refl) in omega arith
wait_sum n false true x e f h k = let a = ap bit e in let b = ap bit (k refl) in omega arith
wait_sum n false false x e f h k = let a = ap bit e in omega arith
