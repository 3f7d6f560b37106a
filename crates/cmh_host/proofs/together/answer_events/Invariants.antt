use Rattle.std.proofs.Common.{◌≡◌, ◌++◌, List, length}
use Rattle.cmh_frames.specs.declared.event.Event.{Event}
use Rattle.cmh_talk.specs.Together.{WereAnswered}
use Rattle.cmh_host.proofs.together.answer_events.Given as goal

-- these were answered, and the others are left
abbrev pub invariant-loop-rest : goal.invariant-loop-rest
invariant-loop-rest g l = record {
  done : List Event;
  whole : done ++ l.rest ≡ l.events;
  told : WereAnswered done l.fn.out.written l.out.written;
}

abbrev pub decreases-loop-rest : goal.decreases-loop-rest
decreases-loop-rest g l = length l.rest
