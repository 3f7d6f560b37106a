use Rattle.std.proofs.Common.{◌≡◌, ℕ, List, length, subst, sym, ap, ◌∙◌}
use Rattle.std.specs.Prelude.{string_bytes}
use Rattle.std.proofs.KnownBytes.{Appends-kept}
use Rattle.cmh_draw.specs.declared.mark.Mark.{Mark}
use Rattle.cmh_picture.specs.Draws.{IsFew, IsMany}
use Rattle.cmh_picture.specs.Parts.{marks_in}
use Rattle.cmh_picture.specs.PictureTexts.{IsDrawn}
use Rattle.cmh_picture.proofs.drawing.write_picture.Goals as goal

pub returns-clause-wrote : goal.returns-clause-wrote
returns-clause-wrote g c = record {
  text = string_bytes c.in_ok-text.text;
  few = subst (λ (count : ℕ). IsFew c.args.kind count)
      (c.len.ensures ∙ c.part_of-picture.result.marks.ok.0 ∙ ap (λ (marks : List Mark). length marks) c.part_of-picture.ensures)
      c.if-is_too_large.ensures.few;
  is_drawn = subst (λ (marks : List Mark). IsDrawn c.args.format marks (string_bytes c.in_ok-text.text)) c.part_of-picture.ensures c.in_ok-text.ensures;
  wrote = Appends-kept _ _ _ _ c.in_ok-write_text.ensures.bytes c.flush.ensures.bytes;
}
