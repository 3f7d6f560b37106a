use Rattle.std.proofs.Common.{◌≡◌, ◌-◌, ◌≤◌, ◌∷◌, [], ℕ, length, get_or, take, arith, ◌∙◌, ap, sym, append_assoc}
use Rattle.std.proofs.lemmas.Bool.{eqb-true, eqb-false}
use Rattle.std.specs.VecDeque.{deque_len, deque_capacity}
use Rattle.cmh_shared.specs.declared.link.Link.{Link}
use Rattle.cmh_runs.specs.Journals.{frames_to}
use Rattle.cmh_shared.proofs.Sites.{frames_to_here, frames_to_other}
use Rattle.cmh_shared.proofs.link.Link.queue.Goals as goal
use Rattle.cmh_shared.proofs.link.Link.queue.Goals.{then-is_same, else-is_same}

pub loop-to-preserved : goal.loop-to-preserved
loop-to-preserved g c =
    let d = c.loop-to-item.result in
    let at : get_or c.args.sent.now c.loop-to.to-index d ≡ d = sym c.loop-to-item.is in
    let frame : (get_or c.args.sent.now c.loop-to.to-index d).1 ≡ d.1 = ap (λ (x : ℕ × g.row.F.Denot). x.1) at in
    let to : (get_or c.args.sent.now c.loop-to.to-index d).0 ≡ d.0 = ap (λ (x : ℕ × g.row.F.Denot). x.0) at in
    let i = c.loop-to.to-index in
    let room : length c.args.sent.now ≤ deque_capacity c.args.self.now.backlog - deque_len c.args.self.now.backlog = c.requires in
    elim c.if-is_same.branch [
      | then-is_same w ↦
          let here = frames_to_here c.args.self.now.to c.args.sent.now i d c.loop-to-test.true (to ∙ (eqb-true d.0 c.loop-to.self.to (sym c.is_same.ensures ∙ w.if-is_same.true) ∙ c.loop-to.invariant.to)) in
          let tied = append_assoc c.args.self.now.backlog.items (frames_to c.args.self.now.to (take i c.args.sent.now)) ((get_or c.args.sent.now i d).1 ∷ []) in
          let items = ap (λ (s : Link g.row.F.Denot). s.backlog.items) w.self-is in
          let len = ap (λ (s : Link g.row.F.Denot). deque_len s.backlog) w.self-is in
          let cap = ap (λ (s : Link g.row.F.Denot). deque_capacity s.backlog) w.self-is in
          record {
            to = ap (λ (s : Link g.row.F.Denot). s.to) w.self-is ∙ c.loop-to.invariant.to;
            producer = ap (λ (s : Link g.row.F.Denot). s.producer) w.self-is ∙ c.loop-to.invariant.producer;
            backlog = cc;
            room = omega arith;
          }
      | else-is_same w ↦
          let here = frames_to_other c.args.self.now.to c.args.sent.now i d c.loop-to-test.true (λ e. eqb-false d.0 c.loop-to.self.to (sym c.is_same.ensures ∙ w.if-is_same.false) (sym to ∙ (e ∙ sym c.loop-to.invariant.to))) in
          let len = ap (λ (s : Link g.row.F.Denot). deque_len s.backlog) w.self-is in
          let cap = ap (λ (s : Link g.row.F.Denot). deque_capacity s.backlog) w.self-is in
          record {
            to = ap (λ (s : Link g.row.F.Denot). s.to) w.self-is ∙ c.loop-to.invariant.to;
            producer = ap (λ (s : Link g.row.F.Denot). s.producer) w.self-is ∙ c.loop-to.invariant.producer;
            backlog = ap (λ (s : Link g.row.F.Denot). s.backlog.items) w.self-is ∙ (cc);
            room = omega arith;
          }
    ]

pub returns-clause-room : goal.returns-clause-room
returns-clause-room g c = λ more h.
    let ended : length c.args.sent.now ≤ c.loop-to.to-index = c.loop-to-test.false in
    omega (arith, h, c.loop-to.invariant.room, ended)
