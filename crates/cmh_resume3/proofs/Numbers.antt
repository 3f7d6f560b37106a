-- Numbers and parts at the front of bytes.
use Rattle.std.proofs.Common.{◌≡◌, ℕ, ◌<◌, List, [], ◌∷◌, ◌++◌, length, drop, refl, ap, arith}
use Rattle.byteorder.specs.Endian.{big_bytes}

-- parts of one length in front of equal bytes are equal
pub same_front : (xs ys : List ℕ) (x y : List ℕ) → length xs ≡ length ys → xs ++ x ≡ ys ++ y → (xs ≡ ys) × (x ≡ y)
same_front [] [] x y len e = (refl, e)
same_front [] (b ∷ ys) x y len e = absurd (omega arith)
same_front (a ∷ xs) [] x y len e = absurd (omega arith)
same_front (a ∷ xs) (b ∷ ys) x y len e =
    let later = same_front xs ys x y (let h : length (a ∷ xs) ≡ length (b ∷ ys) = len in omega arith) (ap (drop 1) e) in
    let first : a ≡ b = cc in
    (let rest = later.0 in cc, later.1)

-- four bytes and what is behind them are not fewer than four
pub four_there : (n : ℕ) (bytes rest : List ℕ) → bytes ≡ big_bytes 4 n ++ rest → length bytes < 4 → ⊥
four_there n bytes rest e few = omega (arith, ap length e)
