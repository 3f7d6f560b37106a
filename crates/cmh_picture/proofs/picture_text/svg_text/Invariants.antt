use Rattle.std.proofs.Common.{◌++◌, take}
use Rattle.std.specs.Prelude.{string_bytes}
use Rattle.cmh_picture.specs.Inner.Adding.{AddsMarks}
use Rattle.cmh_picture.specs.PictureTexts.{first_words}
use Rattle.cmh_picture.specs.declared.format.Format.TheVariants.{Svg}
use Rattle.cmh_picture.proofs.picture_text.svg_text.Given as goal

abbrev pub invariant-loop-mark : goal.invariant-loop-mark
invariant-loop-mark l =
    AddsMarks (take l.mark-index l.picture.marks.items) (first_words Svg ++ string_bytes l.head) (string_bytes l.text)
