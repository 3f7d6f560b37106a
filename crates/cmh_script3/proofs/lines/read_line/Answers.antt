use Rattle.std.proofs.Common.{ℕ, List, subst, ◌∙◌, inr}
use Rattle.cmh_script3.specs.Lines.{Judges, JudgesAtEnd}
use Rattle.cmh_script3.proofs.LinesSeen.{endless, if_some, seen_more, piece_of, ended, fed}
use Rattle.cmh_script3.proofs.lines.read_line.Goals as goal

pub returns-in-Fed-clause-line : goal.returns-in-Fed-clause-line
returns-in-Fed-clause-line g c = if_some _ _ (λ bytes e.
    let left = piece_of c.loop-turn.input.left c.next_piece.new.self.left c.loop-turn.buffer.items c.next_piece.new.line.items _ _ c.in-Fed.is c.in_ok-next_piece.ensures.piece in
    let judges = subst (λ (line : List ℕ). Judges line c.judged.result) c.deref.ensures.value c.judged.ensures in
    (fed bytes _ _ c.loop-turn.buffer.items _ _ (c.loop-turn.invariant.seen bytes e) c.drop_return.new.line.items c.judged.result left c.drop_return.ensures judges).0)

pub returns-in-Fed-clause-rest : goal.returns-in-Fed-clause-rest
returns-in-Fed-clause-rest g c = if_some _ _ (λ bytes e.
    let left = piece_of c.loop-turn.input.left c.next_piece.new.self.left c.loop-turn.buffer.items c.next_piece.new.line.items _ _ c.in-Fed.is c.in_ok-next_piece.ensures.piece in
    let judges = subst (λ (line : List ℕ). Judges line c.judged.result) c.deref.ensures.value c.judged.ensures in
    (fed bytes _ _ c.loop-turn.buffer.items _ _ (c.loop-turn.invariant.seen bytes e) c.drop_return.new.line.items c.judged.result left c.drop_return.ensures judges).1)

pub returns-in-End-clause-line : goal.returns-in-End-clause-line
returns-in-End-clause-line g c = if_some _ _ (λ bytes e.
    let left = piece_of c.loop-turn.input.left c.next_piece.new.self.left c.loop-turn.buffer.items c.next_piece.new.line.items _ _ c.in-End.is c.in_ok-next_piece.ensures.piece in
    let judges = subst (λ (line : List ℕ). JudgesAtEnd line c.judged_at_end.result) c.deref-in-End.ensures.value c.judged_at_end.ensures in
    (ended bytes _ _ c.loop-turn.buffer.items _ _ (c.loop-turn.invariant.seen bytes e) c.judged_at_end.result left judges).0)

pub returns-in-End-clause-rest : goal.returns-in-End-clause-rest
returns-in-End-clause-rest g c = if_some _ _ (λ bytes e.
    let left = piece_of c.loop-turn.input.left c.next_piece.new.self.left c.loop-turn.buffer.items c.next_piece.new.line.items _ _ c.in-End.is c.in_ok-next_piece.ensures.piece in
    let judges = subst (λ (line : List ℕ). JudgesAtEnd line c.judged_at_end.result) c.deref-in-End.ensures.value c.judged_at_end.ensures in
    (ended bytes _ _ c.loop-turn.buffer.items _ _ (c.loop-turn.invariant.seen bytes e) c.judged_at_end.result left judges).1)

pub loop-turn-preserved : goal.loop-turn-preserved
loop-turn-preserved g c = record {
  working = c.in_ok-next_piece.ensures.ok ∙ c.loop-turn.invariant.working;
  seen = λ bytes e.
      let left = piece_of c.loop-turn.input.left c.next_piece.new.self.left c.loop-turn.buffer.items c.next_piece.new.line.items _ _ c.in-Unfed.is c.in_ok-next_piece.ensures.piece in
      seen_more bytes _ _ c.loop-turn.buffer.items _ _ (c.loop-turn.invariant.seen bytes e) left;
}

pub returns-clause-fault : goal.returns-clause-fault
returns-clause-fault g c = inr (endless _ _ _ _ c.loop-turn.invariant.seen c.loop-turn-test.false)
