use Rattle.std.proofs.Common.{◌≡◌, ◌∷◌, [], ◌∙◌, ap, sym, subst, length, arith}
use Rattle.std.proofs.lemmas.List.{nil_from_length}
use Rattle.std.specs.List.{AllZip}
use Rattle.std.specs.Vec.Iter.{into_iter_items, into_iter_len}
use Rattle.cmh_history3.specs.Inner.Ends.{EndsAs}
use Rattle.cmh_history3.proofs.chain.next_end.Goals as goal

pub returns-in-Some : goal.returns-in-Some
returns-in-Some c = λ t segments later h.
    let items = c.in-Some.ensures.cases.0 in
    let zipped = subst (AllZip (EndsAs t) (segments ∷ later)) items h.each in
    let one = c.in-Some.ensures.cases.1 in
    let all = h.count ∙ ap length items in
    (zipped.0, record { each = zipped.1; count = omega (arith, one, all) })

pub returns-in-None : goal.returns-in-None
returns-in-None c = λ t segments later h.
    let none = nil_from_length (into_iter_items c.args.ends.now) (sym h.count ∙ c.in-None.ensures.cases.0) in
    absurd (subst (AllZip (EndsAs t) (segments ∷ later)) none h.each)
