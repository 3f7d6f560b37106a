use Rattle.std.proofs.Common.{◌*◌, ◌+◌, ◌∙◌, ℕ, List, length, get_or, sym, ap, arith}
use Rattle.std.proofs.lemmas.Bool.{and_parts}
use Rattle.cmh_bits.specs.Bits.{is_set}
use Rattle.cmh_cycles.specs.Inner.Leading.{leads}
use Rattle.cmh_bits.proofs.WordLemmas.{has_at}
use Rattle.cmh_cycles.proofs.RowLemmas.{union_more, union_end}
use Rattle.cmh_cycles.proofs.unions.union_of.Goals as goal

pub leading-leading-requires-clause-inside : goal.leading-leading-requires-clause-inside
leading-leading-requires-clause-inside c = λ p small bit.
    let at = c.loop-at.at in
    let has = has_at c.args.row.now at p small ∙ ap (λ (xs : List ℕ). is_set (get_or xs at 0) p) (sym c.words-words.ensures) ∙ bit in
    let in_table = (c.requires.inside (at * 64 + p) has).0 in
    let long = c.requires.twins.long in
    omega (arith, in_table, long)

pub add_some-requires-clause-inside : goal.add_some-requires-clause-inside
add_some-requires-clause-inside c = λ p small leading.
    let at = c.loop-at.at in
    let bit = (and_parts (is_set (get_or c.words-words.result.now at 0) p) (leads c.args.row.now c.args.twins.now (at * 64 + p)) (sym (c.leading-leading.ensures p small) ∙ leading)).0 in
    let has = has_at c.args.row.now at p small ∙ ap (λ (xs : List ℕ). is_set (get_or xs at 0) p) (sym c.words-words.ensures) ∙ bit in
    let row = c.requires.inside (at * 64 + p) has in
    (row.0, row.1 ∙ sym c.loop-at.invariant.same)

pub loop-at-preserved : goal.loop-at-preserved
loop-at-preserved c =
    let at = c.loop-at.at in
    union_more c.args.table.now c.args.twins.now c.args.row.now c.loop-at.union c.add_some.new.union at (get_or c.words-words.result.now at 0) c.leading-leading.result c.loop-at.invariant
    (ap (λ (xs : List ℕ). get_or xs at 0) (sym c.words-words.ensures)) c.add_some.ensures.words c.leading-leading.ensures c.add_some.ensures.places

pub returns-clause-places : goal.returns-clause-places
returns-clause-places c = λ v.
    let past = c.loop-at-test.false in
    let long = ap length c.words-words.ensures in
    union_end c.args.table.now c.args.twins.now c.args.row.now c.loop-at.union c.loop-at.at (omega (arith, past, long)) c.requires.twins (λ k h. (c.requires.inside k h).0) c.loop-at.invariant v
