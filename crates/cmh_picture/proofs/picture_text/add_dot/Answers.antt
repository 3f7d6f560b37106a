use Rattle.std.proofs.Common.{◌++◌}
use Rattle.std.specs.Prelude.{codes, string_bytes}
use Rattle.cmh_picture.proofs.picture_text.add_dot.Goals as goal

pub returns : goal.returns
returns c = record {
  before = codes "// ";
  after = codes "\n" ++ string_bytes c.in_ok-shape.shape;
  is = c.in_ok-write.ensures.bytes;
}
