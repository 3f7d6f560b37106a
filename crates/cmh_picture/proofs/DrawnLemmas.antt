-- A text for one more mark.
use Rattle.std.proofs.Common.{◌≡◌, ℕ, ◌+◌, ◌<◌, List, [], ◌∷◌, ◌++◌, length, take, get_or, refl, sym, ap, subst, ◌∙◌, append_assoc, append-nil}
use Rattle.std.proofs.lemmas.List.{take_more}
use Rattle.cmh_draw.specs.declared.mark.Mark.{Mark}
use Rattle.cmh_picture.specs.Inner.Adding.{AddsMark, AddsMarks, IsMade}
use Rattle.cmh_picture.specs.Names.{name_of}
use Rattle.cmh_picture.specs.PictureTexts.{HasNames, IsDrawn, first_words, last_words}
use Rattle.cmh_picture.specs.declared.format.Format.{Format}

adds_push : (marks : List Mark) (mark : Mark) (old text new : List ℕ) → AddsMarks marks old text → AddsMark mark text new
    → AddsMarks (marks ++ mark ∷ []) old new
adds_push [] mark old text new are adds = (new, subst (λ (t : List ℕ). AddsMark mark t new) are adds, refl)
adds_push (first ∷ marks) mark old text new are adds =
    (are.0, are.1, adds_push marks mark are.0 text new are.2 adds)

-- after one more turn of a loop
pub adds_next : (ys xs : List Mark) → ys ≡ xs → (i : ℕ) (mark : Mark) (old text new : List ℕ) → i < length ys → mark ≡ get_or ys i mark
    → AddsMarks (take i xs) old text → AddsMark mark text new → AddsMarks (take (i + 1) xs) old new
adds_next ys xs same i mark old text new within is are adds =
    let within_too : i < length xs = subst (λ (l : List Mark). i < length l) same within in
    let is_too : mark ≡ get_or xs i mark = subst (λ (l : List Mark). mark ≡ get_or l i mark) same is in
    subst (λ (marks : List Mark). AddsMarks marks old new) (ap (λ (m : Mark). take i xs ++ m ∷ []) is_too ∙ sym (take_more xs i mark within_too))
    (adds_push (take i xs) mark old text new are adds)

behind : (marks : List Mark) (before text : List ℕ) → HasNames marks text → HasNames marks (before ++ text)
behind [] before text has = tt
behind (mark ∷ marks) before text has =
    (before ++ has.0, has.1, ap (λ (l : List ℕ). before ++ l) has.2 ∙ sym (append_assoc before has.0 (name_of mark ++ has.1)), has.3)

-- what the marks add has their names
names_from : (marks : List Mark) (old drawn : List ℕ) → AddsMarks marks old drawn → (rest : List ℕ) × (drawn ≡ old ++ rest) × HasNames marks rest
names_from [] old drawn are = ([], are ∙ sym (append-nil old), tt)
names_from (mark ∷ marks) old drawn are =
    let adds = are.1 in
    let later = names_from marks are.0 drawn are.2 in (
      adds.before ++ (name_of mark ++ (adds.after ++ later.0)),
      later.1 ∙ ap (λ (l : List ℕ). l ++ later.0) adds.is ∙ append_assoc old (adds.before ++ (name_of mark ++ adds.after)) later.0
          ∙ ap (λ (l : List ℕ). old ++ l) (append_assoc adds.before (name_of mark ++ adds.after) later.0
          ∙ ap (λ (l : List ℕ). adds.before ++ l) (append_assoc (name_of mark) adds.after later.0)),
      (adds.before, adds.after ++ later.0, refl, behind marks adds.after later.0 later.2),
    )

pub drawn_from : (format : Format) (marks : List Mark) (text : List ℕ) → IsMade format marks text → IsDrawn format marks text
drawn_from format marks text made =
    let found = names_from marks (first_words format ++ made.head) made.drawn made.are_added in (
      made.head ++ found.0,
      made.is ∙ ap (λ (l : List ℕ). l ++ last_words format) (found.1 ∙ append_assoc (first_words format) made.head found.0)
          ∙ append_assoc (first_words format) (made.head ++ found.0) (last_words format),
      behind marks made.head found.0 found.2,
    )
