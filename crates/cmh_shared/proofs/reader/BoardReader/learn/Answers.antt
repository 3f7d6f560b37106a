use Rattle.std.proofs.Common.{ℕ, List, ap, subst, arith}
use Rattle.cmh_runs.specs.Runs.{IsBeginningOf}
use Rattle.cmh_shared.proofs.Fronts.{fronts}
use Rattle.cmh_shared.proofs.reader.BoardReader.learn.Goals as goal

pub returns-then-self-told-clause-this : goal.returns-then-self-told-clause-this
returns-then-self-told-clause-this c =
    let both = c.learn.new.self.log in
    let this : IsBeginningOf c.self.inside.seen.log both = subst (λ (l : List ℕ). IsBeginningOf l both) (ap (λ s. s.log) c.again-both.ensures) c.learn.ensures.2 in
    rw (c.again.ensures, ← c.self.view_is) (fronts c.self.inside.count c.told.inside.count c.self.inside.seen.log c.told.inside.seen.log both this c.learn.ensures.3 c.self.invariant.0 c.told.invariant (omega arith))

pub returns-clause-that : goal.returns-clause-that
returns-clause-that c =
    let both = c.learn.new.self.log in
    let this : IsBeginningOf c.self.inside.seen.log both = subst (λ (l : List ℕ). IsBeginningOf l both) (ap (λ s. s.log) c.again-both.ensures) c.learn.ensures.2 in
    rw (← c.self.view_is, ← c.told.view_is) (fronts c.told.inside.count c.self.inside.count c.told.inside.seen.log c.self.inside.seen.log both c.learn.ensures.3 this c.told.invariant c.self.invariant.0 (omega arith))
