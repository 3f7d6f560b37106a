use Rattle.std.proofs.Common.{ℕ, List, ◌++◌, subst₂, ap, ◌∙◌}
use Rattle.std.specs.Io.KnownBytes.{Appends}
use Rattle.cmh_journal.specs.Journal.{Journal}
use Rattle.cmh_files.specs.RunAudits.{run_text}
use Rattle.std.proofs.KnownBytes.{Appends-kept, Appends-trans}
use Rattle.cmh_files.proofs.telling.tell_into.Goals as goal

pub steps_of-requires-clause-set : goal.steps_of-requires-clause-set
steps_of-requires-clause-set g c = c.in_ok-audited.ensures.audits.set

pub steps_of-requires-clause-accepted : goal.steps_of-requires-clause-accepted
steps_of-requires-clause-accepted g c = c.in_ok-audited.ensures.audits.verdict_is.accepted

pub returns-clause-wrote : goal.returns-clause-wrote
returns-clause-wrote g c =
    let journals = c.in_ok-audited.audited.journals.items in
    let listed = c.deref-2.ensures.value ∙ c.in_ok-listed.ensures ∙ c.deref.ensures.value in
    let first = c.as_str.ensures.value ∙ c.in_ok-text.ensures in
    let lines = ap (λ (js : List Journal). run_text js c.deref-3.result.now) listed ∙ ap (run_text journals) c.deref-3.ensures.value in
    let both = Appends-trans _ _ _ _ _ c.in_ok-write_text.ensures.bytes c.in_ok-write_text-2.ensures.bytes in
    record {
      world = c.in_ok-audited.audited.world;
      journals = journals;
      cuts = c.in_ok-audited.audited.cuts.items;
      verdict = c.in_ok-audited.audited.verdict;
      audits = c.in_ok-audited.ensures.audits;
      status_is = c.status-status.ensures;
      steps = c.in-Ok.steps.items;
      are_steps = c.in-Ok.ensures;
      wrote = subst₂ (λ (a b : List ℕ). Appends c.args.out.now.written c.flush.new.self.written (a ++ b))
          first lines (Appends-kept _ _ _ _ both c.flush.ensures.bytes);
    }
