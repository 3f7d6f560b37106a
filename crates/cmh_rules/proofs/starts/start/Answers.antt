use Rattle.std.proofs.Common.{true≢false, sym, ◌∙◌}
use Rattle.cmh_dependents.specs.Marks.{IsMarked}
use Rattle.cmh_rules.specs.Verdicts.{Reaches}
use Rattle.cmh_rules.proofs.Leaving.{probes_of}
use Rattle.cmh_rules.proofs.starts.start.Goals as goal

pub returns : goal.returns
returns c =
    let v = c.args.waits.now in
    let i = c.args.process in (
      λ depends. true≢false (sym (c.new-reach.ensures.on_cycle.1 depends) ∙ c.if-reach.false),
      probes_of v i (λ q. IsMarked v.members c.new-reach.result.places q) (Reaches v i) c.in_ok-frames.frames.items c.new-reach.ensures.places c.in_ok-frames.ensures,
    )
