use Rattle.std.proofs.Common.{List, subst}
use Rattle.cmh_journal.specs.Journal.{Journal}
use Rattle.cmh_audit.specs.Set.{IsSet}
use Rattle.cmh_audit.specs.Verdicts.{IsVerdictOn}
use Rattle.cmh_files.proofs.Headlines.{headline}
use Rattle.cmh_files.proofs.headline.headline_law.Goals as goal

pub returns : goal.returns
returns c = record {
  headline = λ files journals cuts verdict read set v.
      headline c.args.topology.now c.one_file_law.ensures.one_journal c.beginning_law_of_every_journal.ensures c.stranger_law.ensures.silent
      read.reads files read.are_files (subst (IsSet c.args.topology.now) read.journals_are set)
      c.dark_path_of_every_run.ensures.dark_path c.drained_law_of_every_run.ensures.last_asker c.cut_law_of_every_run.ensures.stops verdict
      (subst (λ (js : List Journal). IsVerdictOn c.args.topology.now js verdict) read.journals_are v);
}
