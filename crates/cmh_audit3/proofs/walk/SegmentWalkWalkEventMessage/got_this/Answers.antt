use Rattle.std.proofs.Common.{ap, ◌∙◌, List}
use Rattle.std.specs.Prelude.{slice_get}
use Rattle.cmh_segment3.specs.declared.entry.Entry.{Entry}
use Rattle.cmh_audit3.proofs.Walks.{got_told}
use Rattle.cmh_audit3.proofs.walk.SegmentWalkWalkEventMessage.got_this.Goals as goal

pub returns-in-Some : goal.returns-in-Some
returns-in-Some c = got_told c.args.self.now c.in-Some.entry.now c.got_message.result c.args._from c.args.frame.now (c.in-Some.ensures.value ∙ ap (λ (l : List Entry). slice_get l 0) c.self.view_is) c.got_message.ensures
