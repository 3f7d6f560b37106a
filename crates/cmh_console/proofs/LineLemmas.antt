-- The lines of an input.
use Rattle.std.proofs.Common.{◌≡◌, ℕ, ◌+◌, ◌-◌, ◌^◌, ◌<◌, ◌≤◌, ◌==◌, Bool, true, false, List, [], ◌∷◌, Option, None, Some, length, refl, sym, subst, arith, inl, inr}
use Rattle.std.specs.Prelude.{if◌then◌else◌, IfErr, IfSome, IsErrAnd, Result, Ok, Err}
use Rattle.std.specs.Io.BufRead.{first_line, drop_through}
use Rattle.cmh_console.specs.Lines.{IsEndless, IsLineFault}
use Rattle.cmh_console.specs.declared.lines.LineFault.{LineFault}
use Rattle.cmh_console.specs.declared.lines.LineFault.TheVariants.{Input as NoInput, Memory as NoSpace}
use Rattle.cmh_console.specs.Dialogue.{IsDialogueFault, of_line}
use Rattle.cmh_console.specs.declared.dialogue.DialogueFault.{DialogueFault}

shrinks : (b : ℕ) (xs : List ℕ) → length (drop_through b xs) ≤ length xs
shrinks b [] = omega arith
shrinks b (x ∷ xs) = go (x == b) (shrinks b xs)
  where
    go : (t : Bool) → length (drop_through b xs) ≤ length xs → length (if t then xs else drop_through b xs) ≤ length (x ∷ xs)
    go true h = omega arith
    go false h = omega (arith, h)

pub length-drop_through : (b : ℕ) (xs : List ℕ) → 0 < length xs → length (drop_through b xs) + 1 ≤ length xs
length-drop_through b [] some = absurd (omega arith)
length-drop_through b (x ∷ xs) some = go (x == b) (shrinks b xs)
  where
    go : (t : Bool) → length (drop_through b xs) ≤ length xs → length (if t then xs else drop_through b xs) + 1 ≤ length (x ∷ xs)
    go true h = omega arith
    go false h = omega (arith, h)

pub long_some : (bytes : List ℕ) → 1024 < length (first_line bytes) → 0 < length bytes
long_some [] long = absurd (omega (arith, long))
long_some (b ∷ bs) long = omega arith

pub at_some : (o : Option (List ℕ)) (P : List ℕ → Type 0) (bytes : List ℕ) → o ≡ Some bytes → IfSome o P → P bytes
at_some o P bytes e h = subst (λ (x : Option (List ℕ)). IfSome x P) e h

-- n lines of the bytes were read
pub record HasLeft (bytes : List ℕ) (now : Option (List ℕ)) (n : ℕ) : Type 0 where
  pub left : List ℕ
  pub now_is : now ≡ Some left
  pub counted : n + length left ≤ length bytes

module _ (start now : Option (List ℕ)) (n : ℕ) (so_far : (bytes : List ℕ) → start ≡ Some bytes → HasLeft bytes now n) where
  endless_before : IsEndless now → IsEndless start
  endless_before endless = go start so_far
    where
      go : (s : Option (List ℕ)) → ((bytes : List ℕ) → s ≡ Some bytes → HasLeft bytes now n) → IsEndless s
      go None h = tt
      go (Some bytes) h =
          let s = h bytes refl in
          let many : 2 ^ 64 - 1 ≤ length s.left = subst IsEndless s.now_is endless in
          let counted = s.counted in
          omega (arith, many, counted)

  pub endless_input : 2 ^ 64 - 1 ≤ n → IsEndless start
  endless_input many = go start so_far
    where
      go : (s : Option (List ℕ)) → ((bytes : List ℕ) → s ≡ Some bytes → HasLeft bytes now n) → IsEndless s
      go None h = tt
      go (Some bytes) h =
          let counted = (h bytes refl).counted in
          omega (arith, many, counted)

  -- the next line can't be read
  pub unread : (read_failed write_failed : Bool) (fault : LineFault) → IsLineFault now read_failed fault → IsDialogueFault start read_failed write_failed (of_line fault)
  unread read_failed write_failed NoInput (inl failed) = inl failed
  unread read_failed write_failed NoInput (inr endless) = inr (endless_before endless)
  unread read_failed write_failed NoSpace h = tt

  pub unread_err : {X : Type 0} → (read_failed write_failed : Bool) (r : Result X DialogueFault) (lower : LineFault) → IsErrAnd r (λ fault. fault ≡ of_line lower) → IsLineFault now read_failed lower
      → IfErr r (IsDialogueFault start read_failed write_failed)
  unread_err read_failed write_failed (Ok x) lower is h = tt
  unread_err read_failed write_failed (Err fault) lower is h = subst (IsDialogueFault start read_failed write_failed) (sym is) (unread read_failed write_failed lower h)
