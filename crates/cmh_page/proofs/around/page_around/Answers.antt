use Rattle.std.proofs.Common.{◌∙◌, append_assoc, string_bytes, sym}
use Rattle.cmh_page.proofs.around.page_around.Goals as goal

pub returns : goal.returns
returns c = record {
  head = string_bytes c.in_ok-head.head;
  foot = string_bytes c.in_ok-foot.foot;
  text_is = c.in_ok-text.ensures.ok ∙ sym (append_assoc (string_bytes c.in_ok-head.head) c.args.lines.now (string_bytes c.in_ok-foot.foot));
}
