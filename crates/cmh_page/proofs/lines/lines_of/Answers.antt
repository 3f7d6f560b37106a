use Rattle.std.proofs.Common.{rules}
use Rattle.cmh_page.proofs.lines.lines_of.Goals as goal

pub told_steps-requires-clause-set : goal.told_steps-requires-clause-set
told_steps-requires-clause-set c = c.in_ok-audited.ensures.audits.set

pub text_of-requires-clause-verdict : goal.text_of-requires-clause-verdict
text_of-requires-clause-verdict c = c.in_ok-audited.ensures.audits.verdict_is

pub returns-clause-tells : goal.returns-clause-tells
returns-clause-tells c = record {
  world = c.in_ok-audited.audited.world;
  journals = c.in_ok-audited.audited.journals.items;
  cuts = c.in_ok-audited.audited.cuts.items;
  verdict = c.in_ok-audited.audited.verdict;
  audits = c.in_ok-audited.ensures.audits;
  steps = c.in-Ok.steps.items;
  are_steps = c.in-Ok.ensures;
  few = search rules;
  are_lines = search rules;
}
