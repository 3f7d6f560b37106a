use Rattle.std.proofs.Common.{◌+◌, ◌∙◌, [], sym}
use Rattle.std.proofs.lemmas.List.{get_or_default}
use Rattle.cmh_cycles.proofs.RowLemmas.{adding_start, adding_more, adding_end}
use Rattle.cmh_cycles.proofs.unions.add_some.Goals as goal

pub loop-left-init : goal.loop-left-init
loop-left-init c = adding_start c.args.table.now c.args.start c.args.word c.args.union.now

pub loop-left-preserved : goal.loop-left-preserved
loop-left-preserved c =
    let p = c.lowest-place.result in
    let inside = c.requires.inside p c.lowest-place.ensures.within (c.loop-left.invariant.part p c.lowest-place.ensures.set) in
    adding_more c.args.table.now c.args.start c.args.word c.args.union.now c.loop-left.union c.add_all.new.self c.loop-left.left c.without_bit-left.result p c.index-table-start.result c.loop-left.invariant c.lowest-place.ensures.within c.lowest-place.ensures.set
    c.without_bit-left.ensures.bits (sym (c.index-table-start.is ∙ get_or_default c.args.table.now (c.args.start + p) c.index-table-start.result [] inside.0)) c.add_all.ensures.words c.add_all.ensures.numbers

pub returns-clause-places : goal.returns-clause-places
returns-clause-places c = adding_end c.args.table.now c.args.start c.args.word c.args.union.now c.loop-left.union c.loop-left.left c.loop-left-test.false c.loop-left.invariant
