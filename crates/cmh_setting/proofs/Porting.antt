-- The ports of the first so many rows.
use Rattle.std.proofs.Common.{◌≡◌, ℕ, suc, zero, ◌+◌, ◌<◌, min, Bool, true, false, ◌&&◌, nat_le, List, [], ◌∷◌, ◌++◌, length, take, get_or, refl, sym, ap, ◌∙◌, arith, length-take}
use Rattle.std.proofs.lemmas.Bool.{and_parts, le-leb, leb-true}
use Rattle.std.proofs.lemmas.List.{take_more}
use Rattle.std.specs.Prelude.{if◌then◌else◌}
use Rattle.cmh_frames.specs.Number.{IsNumber, is_number}
use Rattle.cmh_frames.specs.Rows.{Row}
use Rattle.cmh_setting.specs.Ports.{ported}

ported_append : (rows : List Row) (ports : List ℕ) (row : Row) (port : ℕ) → length rows ≡ length ports
    → ported (rows ++ row ∷ []) (ports ++ port ∷ []) ≡ ported rows ports ++ ported (row ∷ []) (port ∷ [])
ported_append [] [] row port same = refl
ported_append [] (q ∷ ports) row port same = absurd (omega (arith, same))
ported_append (r ∷ rows) [] row port same = absurd (omega (arith, same))
ported_append (r ∷ rows) (q ∷ ports) row port same = first (is_number r.0) (ported_append rows ports row port (omega (arith, same)))
  where
    first : (c : Bool) → ported (rows ++ row ∷ []) (ports ++ port ∷ []) ≡ ported rows ports ++ ported (row ∷ []) (port ∷ [])
        → (if c then (r.0, q) ∷ ported (rows ++ row ∷ []) (ports ++ port ∷ []) else ported (rows ++ row ∷ []) (ports ++ port ∷ []))
        ≡ (if c then (r.0, q) ∷ ported rows ports else ported rows ports) ++ ported (row ∷ []) (port ∷ [])
    first true e = ap (λ pairs. (r.0, q) ∷ pairs) e
    first false e = e

-- one row more
pub ported_more : (rows : List Row) (ports : List ℕ) (n : ℕ) (row : Row) (port : ℕ) → n < length rows → n < length ports
    → ((d : Row) → row ≡ get_or rows n d) → ((d : ℕ) → port ≡ get_or ports n d)
    → ported (take (n + 1) rows) (take (n + 1) ports) ≡ ported (take n rows) (take n ports) ++ ported (row ∷ []) (port ∷ [])
ported_more rows ports n row port below below_ports row_is port_is =
    let taken = length-take n rows in
    let taken_ports = length-take n ports in
    ap (λ xs. ported xs (take (n + 1) ports)) (take_more rows n row below ∙ ap (λ x. take n rows ++ x ∷ []) (sym (row_is row)))
    ∙ ap (λ ys. ported (take n rows ++ row ∷ []) ys) (take_more ports n port below_ports ∙ ap (λ y. take n ports ++ y ∷ []) (sym (port_is port)))
    ∙ ported_append (take n rows) (take n ports) row port (omega arith)

-- a row whose number is a site's, and one whose number is none
abbrev one_if : Bool → ℕ × ℕ → List (ℕ × ℕ)
one_if c pair = if c then pair ∷ [] else []

pub ported_one : (row : Row) (port : ℕ) → IsNumber row.0 → ported (row ∷ []) (port ∷ []) ≡ (row.0, port) ∷ []
ported_one row port n =
    let yes : is_number row.0 ≡ true = λ i. le-leb 1 row.0 n.least i && le-leb row.0 9999 n.most i in
    ap (λ (c : Bool). one_if c (row.0, port)) yes

pub ported_none : (row : Row) (port : ℕ) → (IsNumber row.0 → ⊥) → ported (row ∷ []) (port ∷ []) ≡ []
ported_none row port none = first (is_number row.0) refl
  where
    first : (c : Bool) → is_number row.0 ≡ c → ported (row ∷ []) (port ∷ []) ≡ []
    first true e = let parts = and_parts (nat_le 1 row.0) (nat_le row.0 9999) e in absurd (none (record { least = leb-true 1 row.0 parts.0; most = leb-true row.0 9999 parts.1 }))
    first false e = ap (λ (c : Bool). one_if c (row.0, port)) e

take_none : {X : Type 0} (n : ℕ) → take {A = X} n [] ≡ []
take_none zero = refl
take_none (suc n) = refl

-- as many rows as there are ports, or the other way round
ported_shorter : (rows : List Row) (ports : List ℕ) → ported (take (min (length rows) (length ports)) rows) (take (min (length rows) (length ports)) ports) ≡ ported rows ports
ported_shorter [] ports = ap (λ (xs : List Row). ported xs (take (min 0 (length ports)) ports)) (take_none (min 0 (length ports)))
ported_shorter (r ∷ rows) [] =
    let none : min (length (r ∷ rows)) 0 ≡ 0 = omega arith in
    ap (λ (n : ℕ). ported (take n (r ∷ rows)) (take n [])) none
ported_shorter (r ∷ rows) (q ∷ ports) =
    let n = min (length rows) (length ports) in
    let more : min (length (r ∷ rows)) (length (q ∷ ports)) ≡ suc n = omega arith in
    ap (λ (k : ℕ). ported (take k (r ∷ rows)) (take k (q ∷ ports))) more
    ∙ first (is_number r.0) (ported_shorter rows ports)
  where
    first : (c : Bool) → ported (take (min (length rows) (length ports)) rows) (take (min (length rows) (length ports)) ports) ≡ ported rows ports
        → (if c then (r.0, q) ∷ ported (take (min (length rows) (length ports)) rows) (take (min (length rows) (length ports)) ports) else ported (take (min (length rows) (length ports)) rows) (take (min (length rows) (length ports)) ports))
        ≡ (if c then (r.0, q) ∷ ported rows ports else ported rows ports)
    first true e = ap (λ (pairs : List (ℕ × ℕ)). (r.0, q) ∷ pairs) e
    first false e = e

pub ported_all : (rows : List Row) (ports : List ℕ) (n : ℕ) → n ≡ min (length rows) (length ports) → ported (take n rows) (take n ports) ≡ ported rows ports
ported_all rows ports n is = ap (λ (k : ℕ). ported (take k rows) (take k ports)) is ∙ ported_shorter rows ports
