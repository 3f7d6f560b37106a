use Rattle.std.proofs.Common.{◌∙◌, ◌&&◌, ◌==◌, not, ap}
use Rattle.cmh_model3.proofs.Counts.{and_swap}
use Rattle.cmh_waits3.specs.Inner.Steps.{has_place}
use Rattle.cmh_waits3.proofs.place_set.PlaceSet.without.Goals as goal

pub returns : goal.returns
returns c = λ k.
    c.beyond.ensures k
    ∙ ap (λ b. has_place c.args.self.words k && not b) (c.only.ensures k)
    ∙ and_swap (has_place c.args.self.words k) (not (k == c.args.place))
