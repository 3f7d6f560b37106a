use Rattle.std.proofs.Common.{true≢false, refl, sym, ◌∙◌}
use Rattle.cmh_dependents.specs.Marks.{IsMarked}
use Rattle.cmh_rules.specs.Verdicts.{Reaches}
use Rattle.cmh_rules.proofs.Leaving.{acts_where, probes_of}
use Rattle.cmh_rules.proofs.receipts.on_probe.Goals as goal

-- the origin is among what the receiver reaches
pub returns-then-contains : goal.returns-then-contains
returns-then-contains c = (
  acts_where c.args.waits.now c.args.dependents.now c.args.origin c.args.from c.args.to (sym c.if-not-is_blocked.ensures) (sym c.if-has.ensures) (sym c.if-not-owes.ensures),
  refl,
  (c.new-reach.ensures.places c.args.origin).0 (c.contains.ensures.0 c.if-contains.true),
)

-- it is not among it
pub returns : goal.returns
returns c =
    let v = c.args.waits.now in (
      acts_where v c.args.dependents.now c.args.origin c.args.from c.args.to (sym c.if-not-is_blocked.ensures) (sym c.if-has.ensures) (sym c.if-not-owes.ensures),
      (λ r. true≢false (sym (c.contains.ensures.1 ((c.new-reach.ensures.places c.args.origin).1 r)) ∙ c.if-contains.false)),
      probes_of v c.args.origin (λ q. IsMarked v.members c.new-reach.result.places q) (Reaches v c.args.to) c.in_ok-frames.frames.items c.new-reach.ensures.places c.in_ok-frames.ensures,
    )
