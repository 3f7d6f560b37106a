use Rattle.std.proofs.Common.{ℕ, List, ap, rules, sym, subst, ◌∙◌}
use Rattle.std.specs.Prelude.{IfSome}
use Rattle.cmh_console.specs.Faults.{status_of}
use Rattle.cmh_play.proofs.KeptPlays.{answered_alone}
use Rattle.cmh_play.proofs.Plays.{answered_none}
use Rattle.cmh_play.specs.Play.{Answered}
use Rattle.cmh_commands.proofs.playing.play_into.Goals as goal

pub returns-in-Err-clause-plays : goal.returns-in-Err-clause-plays
returns-in-Err-clause-plays g c = record {
  answered = subst (λ (status : ℕ). IfSome c.args.input.now.left (λ (bytes : List ℕ). Answered bytes
      c.args.out.now.written c.args.out.now.written c.args.out.now.has_failed status))
      (sym (c.name_on.ensures.status ∙ ap status_of c.from.ensures))
      (answered_none c.args.input.now.left c.args.out.now.written c.args.out.now.has_failed c.from-fault.result);
  flushed = λ done. absurd (c.name_on.ensures.fails done);
  silent = λ done. absurd (c.name_on.ensures.fails done);
  fault = λ _. search rules;
}

pub returns-in-Ok-clause-plays : goal.returns-in-Ok-clause-plays
returns-in-Ok-clause-plays g c = record {
  answered = answered_alone _ _ _ _ _ _ _ c.run_play_keeping.ensures.answers;
  flushed = c.run_play_keeping.ensures.flushed;
  silent = c.run_play_keeping.ensures.silent;
  fault = c.run_play_keeping.ensures.fault;
}
