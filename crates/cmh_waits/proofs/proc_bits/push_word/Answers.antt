use Rattle.std.proofs.Common.{◌∙◌, [], ◌∷◌, ◌++◌, ap, subst, sym}
use Rattle.cmh_waits.proofs.NumberLemmas.{IsPushing, pushing_more, pushing_end}
use Rattle.cmh_waits.proofs.proc_bits.push_word.Goals as goal

pub loop-left-preserved : goal.loop-left-preserved
loop-left-preserved c =
    let p = c.lowest-place.result in
    let found = c.lowest-place.ensures in
    let new = c.in_ok-push.ensures.items ∙ ap (λ x. c.loop-left.list.items ++ x ∷ []) c.in-Some.ensures.1 in
    subst (IsPushing c.args.start c.args.word c.without_bit-left.result c.args.list.now.items) (sym new)
    (pushing_more c.args.start c.args.word c.loop-left.left c.without_bit-left.result p c.args.list.now.items c.loop-left.list.items c.loop-left.invariant found.within found.set found.least c.without_bit-left.ensures.bits)

pub returns : goal.returns
returns c = pushing_end c.args.start c.args.word c.loop-left.left c.args.list.now.items c.loop-left.list.items c.loop-left-test.false c.loop-left.invariant
