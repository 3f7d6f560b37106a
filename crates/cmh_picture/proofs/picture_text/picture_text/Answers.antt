use Rattle.std.specs.Prelude.{string_bytes}
use Rattle.cmh_picture.proofs.DrawnLemmas.{drawn_from}
use Rattle.cmh_picture.proofs.picture_text.picture_text.Goals as goal

pub returns : goal.returns
returns c = drawn_from c.args.format c.args.picture.now.marks.items (string_bytes c.in_ok-text.text) c.in_ok-text.ensures
