use Rattle.std.proofs.Common.{◌∙◌, sym}
use Rattle.std.proofs.lemmas.Bool.{and_parts}
use Rattle.cmh_waits3.specs.Inner.Steps.{has_place}
use Rattle.cmh_waits3.proofs.Members.{if_ok}
use Rattle.cmh_waits3.proofs.Summaries.{marked_leaving}
use Rattle.cmh_waits3.proofs.search.edges_of.Goals as goal

pub edges_at-requires : goal.edges_at-requires
edges_at-requires c = λ k h. c.requires k (and_parts (has_place c.args.reached.words k) (has_place c.leaving.result.words k) (sym (c.both.ensures k) ∙ h)).0

pub returns : goal.returns
returns c = if_ok c.edges_at.result _ _ (λ edges. marked_leaving c.args.waits.now c.args.stamp c.args.origin c.args.reached.words c.leaving.result.words c.both.result.words edges.items c.both.ensures c.leaving.ensures) c.edges_at.ensures
