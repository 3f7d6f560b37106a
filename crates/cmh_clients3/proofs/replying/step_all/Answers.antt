use Rattle.std.proofs.Common.{rules, ◌≡◌, List, Vec, length, map, sym, ap, subst₂, ◌∙◌, inl, inr}
use Rattle.std.specs.Global.{Global}
use Rattle.cmh_node3.specs.Nodes.{Node}
use Rattle.cmh_talk3.specs.Numbers.{reply_of}
use Rattle.cmh_talk3.specs.declared.reply.EventReply.{EventReply}
use Rattle.cmh_clients3.specs.Replies.{Replied}
use Rattle.cmh_clients3.proofs.Answered.{as_many}
use Rattle.cmh_clients3.proofs.replying.step_all.Goals as goal
use Rattle.cmh_clients3.proofs.replying.step_all.Goals.{in-Ok, in-Err+then-fits_some, in-Err+else-fits_some}

pub put_answers-requires-clause-room : goal.put_answers-requires-clause-room
put_answers-requires-clause-room g c =
    let told = g.F.SegmentFile.told in
    let works = g.F.SegmentFile.has_failed in
    let same : length c.in-Ok.answers.items ≡ length c.args.events.now = as_many told works c.args.node.now c.step_all.new.self c.args.events.now c.in-Ok.answers.items c.in-Ok.ensures.ok in
    search rules

pub returns-clause-replied : goal.returns-clause-replied
returns-clause-replied g c =
    let told = g.F.SegmentFile.told in
    let works = g.F.SegmentFile.has_failed in
    let holds = λ (replies : List EventReply) (b : Node g.row.F.Denot). Replied told works c.args.node.now c.args.events.now replies b in
    let items_of : Vec EventReply Global → List EventReply = λ v. v.items in
    elim c.match-step_all.branch [
      | in-Ok w ↦ subst₂ holds (sym (ap items_of w.replies-is)) (sym w.node-is)
          (inl (record {
            answers = w.in-Ok.answers.items;
            stepped = w.in-Ok.ensures.ok;
            replies_are = w.put_answers.ensures ∙ ap (map reply_of) w.deref.ensures.value;
          }))
      | in-Err+then-fits_some w ↦ subst₂ holds (sym (ap items_of w.replies-is)) (sym w.node-is)
          (inr (inl (record { why = w.in-Err.why; between = c.step_all.new.self; not_together = w.in-Err.ensures.not; in_turn = w.step_in_turn.ensures })))
      | in-Err+else-fits_some w ↦ subst₂ holds (sym (ap items_of w.replies-is)) (sym w.node-is)
          (inr (inr (record { why = w.in-Err.why; not = w.in-Err.ensures.not; replies_are = w.put_same.ensures })))
    ]
