use Rattle.std.proofs.Common.{◌≤◌, List, ◌++◌, length, subst, take_all}
use Rattle.std.specs.Prelude.{string_bytes}
use Rattle.cmh_draw.specs.declared.mark.Mark.{Mark}
use Rattle.cmh_picture.specs.Inner.Adding.{AddsMarks}
use Rattle.cmh_picture.specs.PictureTexts.{first_words}
use Rattle.cmh_picture.specs.declared.format.Format.TheVariants.{Svg}
use Rattle.cmh_picture.proofs.DrawnLemmas.{adds_next}
use Rattle.cmh_picture.proofs.picture_text.svg_text.Goals as goal

pub loop-mark-preserved : goal.loop-mark-preserved
loop-mark-preserved c =
    adds_next _ _ c.deref-mark-items.ensures.value c.loop-mark.mark-index c.mark-item.result _ _ _ c.loop-mark-test.true c.mark-item.is
    c.loop-mark.invariant c.in_ok-add_svg.ensures

pub returns : goal.returns
returns c =
    let past = subst (λ (l : List Mark). length l ≤ c.loop-mark.mark-index) c.deref-mark-items.ensures.value c.loop-mark-test.false in
    record {
      head = string_bytes c.in_ok-head.head;
      drawn = string_bytes c.loop-mark.text;
      are_added = subst (λ (marks : List Mark). AddsMarks marks (first_words Svg ++ string_bytes c.in_ok-head.head) (string_bytes c.loop-mark.text))
          (take_all c.loop-mark.mark-index c.args.picture.now.marks.items past) c.loop-mark.invariant;
      is = c.in_ok-push_str.ensures.bytes;
    }
