use Rattle.std.proofs.Common.{◌∙◌, ap, arith, sym}
use Rattle.cmh_node3.specs.Nodes.{Node}
use Rattle.cmh_node3.proofs.Epochs.{next_is, next_is_none}
use Rattle.cmh_node3.proofs.node.Node.next_segment.Goals as goal

pub returns-in-Ok-clause-next : goal.returns-in-Ok-clause-next
returns-in-Ok-clause-next g c =
    let is_open = ap (λ (n : Node g.row.F.Denot). n.sealed) (sym c.self.view_is) ∙ c.in-None.is in
    let beginning = c.base-beginning.ensures ∙ ap (λ (n : Node g.row.F.Denot). n.station.base) c.self.view_is in
    let peers = c.deref.ensures.value ∙ ap (λ (n : Node g.row.F.Denot). n.peers) c.self.view_is in
    let before = c.epoch-before.ensures in
    let later = c.if-get.false in
    let epoch = c.get.ensures in
    let own = c.get-2.ensures in
    next_is c.args.self.now c.args.epoch c.epoch-before.result c.base-beginning.result.now c.controller.result.now c.as_slice.result.now c.deref.result.now c.in_ok-base.base
    beginning c.controller.ensures peers c.in_ok-base.ensures.base c.in-Ok.segment is_open (omega (arith, before, later, epoch, own)) before c.in_ok-base.ensures.state c.in-Ok.ensures.ok

pub returns-in-Err-BadBase-clause-not : goal.returns-in-Err-BadBase-clause-not
returns-in-Err-BadBase-clause-not g c =
    let beginning = c.base-beginning.ensures ∙ ap (λ (n : Node g.row.F.Denot). n.station.base) c.self.view_is in
    let peers = c.deref.ensures.value ∙ ap (λ (n : Node g.row.F.Denot). n.peers) c.self.view_is in
    next_is_none c.args.self.now c.args.epoch c.epoch-before.result c.base-beginning.result.now c.controller.result.now c.as_slice.result.now c.deref.result.now c.in_ok-base.base
    beginning c.controller.ensures peers c.in_ok-base.ensures.base (rw c.in-Err-BadBase.field-0-is at c.in-Err-BadBase.ensures.fault)
