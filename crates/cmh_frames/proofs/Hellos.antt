-- What bytes read as a hello is its hello.
use Rattle.std.proofs.Common.{◌≡◌, ℕ, ◌+◌, ◌*◌, ◌/◌, ◌%◌, ◌≤◌, ◌==◌, true, List, [], ◌∷◌, length, take, drop, get_or, ap, sym, ◌∙◌, arith}
use Rattle.std.specs.List.{starts_with}
use Rattle.std.proofs.lemmas.Bool.{and_parts, eqb-true}
use Rattle.byteorder.specs.Endian.{big_bytes, big_number}
use Rattle.cmh_frames.proofs.Spellings.{AreBytes, high, low}

pub hello_read : (bytes : List ℕ) (edition site : ℕ) (tail : List ℕ) → tail ≡ drop 4 bytes → AreBytes bytes → 6 ≤ length bytes → starts_with (λ x y. x == y) bytes (67 ∷ 77 ∷ 72 ∷ []) ≡ true → get_or bytes 3 0 ≡ edition → site ≡ big_number 2 tail → take 6 bytes ≡ 67 ∷ 77 ∷ 72 ∷ edition ∷ big_bytes 2 site
hello_read [] edition site tail tail_is all few mark number second = absurd (omega arith)
hello_read (a ∷ []) edition site tail tail_is all few mark number second = absurd (omega arith)
hello_read (a ∷ b ∷ []) edition site tail tail_is all few mark number second = absurd (omega arith)
hello_read (a ∷ b ∷ c ∷ []) edition site tail tail_is all few mark number second = absurd (omega arith)
hello_read (a ∷ b ∷ c ∷ d ∷ []) edition site tail tail_is all few mark number second = absurd (omega arith)
hello_read (a ∷ b ∷ c ∷ d ∷ e ∷ []) edition site tail tail_is all few mark number second = absurd (omega arith)
hello_read (a ∷ b ∷ c ∷ d ∷ e ∷ f ∷ rest) edition site tail tail_is all few mark number second =
    let first = and_parts _ _ mark in
    let next = and_parts _ _ first.1 in
    let last = and_parts _ _ next.1 in
    let site_is : site ≡ e * 256 + (f * 1 + 0) = second ∙ ap (big_number 2) tail_is in
    let e_is : e ≡ site / 256 % 256 = sym (ap (λ n. n / 256 % 256) site_is ∙ high e f (all 4) (all 5)) in
    let f_is : f ≡ site % 256 = sym (ap (λ n. n % 256) site_is ∙ low e f (all 4) (all 5)) in
    λ i. sym (eqb-true 67 a first.0) i ∷ sym (eqb-true 77 b next.0) i ∷ sym (eqb-true 72 c last.0) i ∷ number i ∷ e_is i ∷ f_is i ∷ []
