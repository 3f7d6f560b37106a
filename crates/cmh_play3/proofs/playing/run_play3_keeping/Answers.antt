use Rattle.std.proofs.Common.{ℕ, List, ap, rules, inl, sym, subst, ◌∙◌}
use Rattle.std.specs.Prelude.{IfSome}
use Rattle.cmh_console.specs.Faults.{status_of}
use Rattle.cmh_play3.specs.Play.{Answered}
use Rattle.cmh_play3.proofs.PlayLemmas.{kept_all, kept_plays}
use Rattle.cmh_play3.proofs.playing.run_play3_keeping.Goals as goal

pub keep-requires : goal.keep-requires
keep-requires g c = let played = c.in-Ok.ensures.played in (played.events, played.shows)

pub returns-in-Ok-clause-plays : goal.returns-in-Ok-clause-plays
returns-in-Ok-clause-plays g c = kept_plays _ _ _ _ _ _ _ _ c.in-Ok.ensures.played.holds c.in-Ok.ensures.flushed c.keep.ensures.named

pub returns-in-Ok-clause-kept : goal.returns-in-Ok-clause-kept
returns-in-Ok-clause-kept g c = λ done.
    let played = c.in-Ok.ensures.played in
    kept_all _ _ _ _ _ _ _ played.holds (c.keep.ensures.kept done played.events played.shows)

pub returns-in-Err-clause-plays : goal.returns-in-Err-clause-plays
returns-in-Err-clause-plays g c = record {
  answered = subst (λ (status : ℕ). IfSome c.args.input.now.left (λ (bytes : List ℕ). Answered bytes
      c.args.out.now.written c.play_script.new.out.written c.play_script.new.out.has_failed status))
      (sym (c.name_on.ensures.status ∙ ap status_of c.fault_of.ensures)) c.in-Err.ensures.answers;
  flushed = λ done. absurd (c.name_on.ensures.fails done);
  silent = λ done. absurd (c.name_on.ensures.fails done);
  fault = λ _. inl (search rules);
}
