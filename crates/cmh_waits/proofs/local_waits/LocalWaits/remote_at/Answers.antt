use Rattle.std.proofs.Common.{◌≡◌, ◌<◌, ℕ, List, [], length, get_or, ap, ◌∙◌, sym, subst, arith}
use Rattle.std.proofs.lemmas.List.{get_or_default}
use Rattle.cmh_waits.specs.Held.{Held}
use Rattle.cmh_waits.proofs.Shown.{remote_at_place}
use Rattle.cmh_waits.proofs.local_waits.LocalWaits.remote_at.Goals as goal

pub returns-in-Some-clause-all : goal.returns-in-Some-clause-all
returns-in-Some-clause-all c = λ within k.
    let w = c.self.inside in
    let v = c.args.self.now in
    let place = c.args.place in
    let same : w.members ≡ v.members = ap (λ (h : Held). h.members) c.self.view_is in
    let here = subst (λ (xs : List ℕ). place < length xs) (sym same) within in
    let are = c.self.invariant.0 in
    let found = c.in-Some.ensures.lookup in
    let list = c.as_slice.ensures.value ∙ found.1 ∙ ap (λ (xs : List (List ℕ)). get_or xs place c.in-Some.list.now) c.deref.ensures.value
    ∙ get_or_default w.remote_waits.items place c.in-Some.list.now [] (omega (arith, here, are.lists_len)) in
    remote_at_place v w.members w.waits.items w.remote_waits.items _ (get_or v.members place 0) c.self.view_is c.self.invariant.2.ascending are place here
    (ap (λ (xs : List ℕ). get_or xs place 0) same) c.as_slice.result.now list k
