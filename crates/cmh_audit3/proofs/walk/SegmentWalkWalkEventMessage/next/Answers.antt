use Rattle.std.proofs.Common.{ap, ◌∙◌, List}
use Rattle.std.specs.Prelude.{slice_get}
use Rattle.cmh_segment3.specs.declared.entry.Entry.{Entry}
use Rattle.cmh_audit3.proofs.Walks.{next_told}
use Rattle.cmh_audit3.proofs.walk.SegmentWalkWalkEventMessage.next.Goals as goal

pub returns-in-Some : goal.returns-in-Some
returns-in-Some c = next_told c.args.self.now c.in-Some.entry.now c.told_of.result (c.in-Some.ensures.value ∙ ap (λ (l : List Entry). slice_get l 0) c.self.view_is) c.told_of.ensures
