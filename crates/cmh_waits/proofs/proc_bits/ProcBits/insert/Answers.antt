use Rattle.std.proofs.Common.{◌∙◌, ◌/◌}
use Rattle.std.proofs.lemmas.List.{get_or_default}
use Rattle.cmh_waits.proofs.NumberLemmas.{added, added_are}
use Rattle.cmh_waits.proofs.proc_bits.ProcBits.insert.Goals as goal

pub invariant_of-self-2 : goal.invariant_of-self-2
invariant_of-self-2 c =
    let words = c.lengthen.new.words.items in
    let n = c.get-number.result in
    let room = c.in_ok-lengthen.ensures.room in
    let was = c.index.ensures ∙ get_or_default words (n / 64) c.index.result.now 0 room in
    added_are words n c.index.result.now c.with_bit.result room was c.get-number.ensures.number c.lengthen.ensures.are c.with_bit.ensures

pub returns-clause-ok : goal.returns-clause-ok
returns-clause-ok c =
    let words = c.lengthen.new.words.items in
    let n = c.get-number.result in
    let room = c.in_ok-lengthen.ensures.room in
    let was = c.index.ensures ∙ get_or_default words (n / 64) c.index.result.now 0 room in
    added c.self.inside.words.items words n c.index.result.now c.with_bit.result c.args.process c.args.self.now room was c.lengthen.ensures.same c.get-number.ensures.value c.self.view_is c.with_bit.ensures
