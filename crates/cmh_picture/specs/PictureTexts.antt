-- The text of a picture.
use Rattle.std.specs.Prelude.{◌≡◌, ℕ, List, [], ◌∷◌, ◌++◌, codes, ⊤}
use Rattle.cmh_draw.specs.declared.mark.Mark.{Mark}
use Rattle.cmh_picture.specs.Names.{name_of}
use Rattle.cmh_picture.specs.declared.format.Format.{Format}
use Rattle.cmh_picture.specs.declared.format.Format.TheVariants.{Dot, Svg}

-- with which words a text of the format begins
abbrev pub first_words : Format → List ℕ
first_words Dot = codes "digraph "
first_words Svg = codes "<svg xmlns='http://www.w3.org/2000/svg' "

-- and with which it ends
abbrev pub last_words : Format → List ℕ
last_words Dot = codes "}\n"
last_words Svg = codes "</svg>\n"

-- the name of each mark stands in the text, one after the other; what stands before, between and after is not promised
abbrev pub HasNames : List Mark → List ℕ → Type 0
HasNames [] text = ⊤
HasNames (mark ∷ marks) text =
    (before : List ℕ) × (after : List ℕ) × (text ≡ before ++ (name_of mark ++ after)) × HasNames marks after

-- the format's first words, then the name of each mark, and the format's last words
abbrev pub IsDrawn : Format → List Mark → List ℕ → Type 0
IsDrawn format marks text =
    (drawn : List ℕ) × (text ≡ first_words format ++ (drawn ++ last_words format)) × HasNames marks drawn
