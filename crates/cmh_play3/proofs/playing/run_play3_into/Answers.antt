use Rattle.std.proofs.Common.{ℕ, List, ap, rules, inr, sym, subst, ◌∙◌}
use Rattle.std.specs.Prelude.{IfSome}
use Rattle.cmh_console.specs.Faults.{status_of}
use Rattle.cmh_play3.specs.Play.{Answered}
use Rattle.cmh_play3.proofs.PlayLemmas.{answered_none}
use Rattle.cmh_play3.proofs.playing.run_play3_into.Goals as goal

pub returns-in-Err-clause-plays : goal.returns-in-Err-clause-plays
returns-in-Err-clause-plays g c = record {
  answered = subst (λ (status : ℕ). IfSome c.args.input.now.left (λ (bytes : List ℕ). Answered bytes
      c.args.out.now.written c.args.out.now.written c.args.out.now.has_failed status))
      (sym (c.name_on.ensures.status ∙ ap status_of c.fault_of_file.ensures))
      (answered_none c.args.input.now.left c.args.out.now.written c.args.out.now.has_failed c.in-Err.refused);
  flushed = λ done. absurd (c.name_on.ensures.fails done);
  silent = λ done. absurd (c.name_on.ensures.fails done);
  fault = λ _. inr (search rules);
}
