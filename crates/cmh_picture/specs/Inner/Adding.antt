-- A text to which the text of each mark is added: the first words, the rest of a head, a text for each mark, in their order,
-- and the last words.
use Rattle.std.specs.Prelude.{◌≡◌, ℕ, List, [], ◌∷◌, ◌++◌}
use Rattle.cmh_draw.specs.declared.mark.Mark.{Mark}
use Rattle.cmh_picture.specs.Names.{name_of}
use Rattle.cmh_picture.specs.PictureTexts.{first_words, last_words}
use Rattle.cmh_picture.specs.declared.format.Format.{Format}

-- a text with the name of a mark in it was added; what else it says is not promised
pub record AddsMark (mark : Mark) (old new : List ℕ) : Type 0 where
  pub before : List ℕ
  pub after : List ℕ
  pub is : new ≡ old ++ (before ++ (name_of mark ++ after))

-- from one text to another by a text for each mark
abbrev pub AddsMarks : List Mark → List ℕ → List ℕ → Type 0
AddsMarks [] old new = new ≡ old
AddsMarks (mark ∷ marks) old new = (text : List ℕ) × AddsMark mark old text × AddsMarks marks text new

pub record IsMade (format : Format) (marks : List Mark) (text : List ℕ) : Type 0 where
  pub head : List ℕ
  pub drawn : List ℕ
  pub are_added : AddsMarks marks (first_words format ++ head) drawn
  pub is : text ≡ drawn ++ last_words format
