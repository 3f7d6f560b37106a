use Rattle.std.proofs.Common.{◌≡◌, ℕ, ◌≤◌, List, length, take, ap, ◌∙◌, subst, arith}
use Rattle.cmh_runs.specs.Runs.{IsBeginningOf}
use Rattle.cmh_shared.proofs.Fronts.{beginning_same, fronts, take_whole}
use Rattle.cmh_runs.proofs.Beginnings.{length-beginning}
use Rattle.cmh_shared.proofs.reader.BoardReader.read.Goals as goal

pub returns-clause-some : goal.returns-clause-some
returns-clause-some c =
    let log = c.in-Some.published.seen.log in
    ap (λ (k : ℕ). take k log) c.len-length.ensures.length ∙ take_whole c.in-Some.published.list log (beginning_same _ _ c.in-Some.ensures.some.2)

pub returns-clause-grows : goal.returns-clause-grows
returns-clause-grows c =
    let both = c.learn.new.self.log in
    let list = c.in-Some.published.list in
    let log = c.in-Some.published.seen.log in
    let good : IsBeginningOf list log = beginning_same list log c.in-Some.ensures.some.2 in
    let this : IsBeginningOf c.self.inside.seen.log both = subst (λ (l : List ℕ). IsBeginningOf l both) (ap (λ s. s.log) c.again-both.ensures) c.learn.ensures.2 in
    let is : take c.len-length.result log ≡ list = ap (λ (k : ℕ). take k log) c.len-length.ensures.length ∙ take_whole list log good in
    let long = length-beginning list log good in
    let within : c.len-length.result ≤ length log = omega (arith, c.len-length.ensures.length) in
    let grows : IsBeginningOf (take c.self.inside.count c.self.inside.seen.log) (take c.len-length.result log) = fronts c.self.inside.count c.len-length.result c.self.inside.seen.log log both this c.learn.ensures.3 c.self.invariant.0 within (omega arith) in
    rw (← c.self.view_is) (subst (λ (l : List ℕ). IsBeginningOf (take c.self.inside.count c.self.inside.seen.log) l) is grows)
