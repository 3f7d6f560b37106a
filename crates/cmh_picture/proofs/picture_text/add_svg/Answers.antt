use Rattle.std.proofs.Common.{List, ℕ, ◌++◌, ◌∙◌, ap, sym, append_assoc}
use Rattle.std.specs.Prelude.{codes, string_bytes}
use Rattle.cmh_picture.specs.Names.{name_of}
use Rattle.cmh_picture.proofs.picture_text.add_svg.Goals as goal

pub returns : goal.returns
returns c =
    let class = c.class_of-class.result.now in
    let after = codes "</title>" ++ (string_bytes c.in_ok-shape.shape ++ codes "</g>\n") in
    record {
      before = codes "<g class='" ++ (class ++ codes "'><title>");
      after = after;
      is = c.in_ok-write.ensures.bytes
          ∙ ap (λ (t : List ℕ). string_bytes c.args.text.now ++ (codes "<g class='" ++ t))
          (sym (append_assoc class (codes "'><title>") (name_of c.args.mark.now ++ after)));
    }
