use Rattle.std.proofs.Common.{◌∙◌, ◌||◌, ◌==◌, sym, ap, subst}
use Rattle.std.specs.List.Sorted.{IsStrictlyIncreasing}
use Rattle.cmh_model3.proofs.Counts.{or_swap}
use Rattle.cmh_waits3.specs.Inner.Steps.{has_place}
use Rattle.cmh_waits3.proofs.Summaries.{at_one}
use Rattle.cmh_waits3.proofs.summary.with_process.Goals as goal

pub returns-in-Some : goal.returns-in-Some
returns-in-Some c = λ k.
    let up = subst IsStrictlyIncreasing c.as_slice.ensures.value c.as_slice.ensures.ascending in
    c.with_if.ensures k
    ∙ or_swap (k == c.in-Some.place) (has_place c.args.places.words k)
    ∙ ap (λ b. has_place c.args.places.words k || b) (sym (at_one c.args.members.now up c.in-Some.place c.args.process c.in-Some.ensures.0 c.in-Some.ensures.1 k))
