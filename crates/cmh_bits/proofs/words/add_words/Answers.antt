use Rattle.std.proofs.Common.{◌/◌, ◌%◌, get_or, refl, arith}
use Rattle.std.proofs.lemmas.List.{get_or_default}
use Rattle.cmh_bits.proofs.BitLemmas.{either_bit}
use Rattle.cmh_bits.proofs.WordLemmas.{either, changed_bits, changed_more}
use Rattle.cmh_bits.proofs.words.add_words.Goals as goal

pub loop-at-preserved : goal.loop-at-preserved
loop-at-preserved c =
    let ws = c.loop-at.words in
    let os = c.args.others.now in
    let at = c.loop-at.at in
    let long = c.loop-at.invariant.same in
    let both = c.requires in
    let below = c.loop-at-test.true in
    changed_more either ws c.args.words.now os at (get_or ws at 0) (get_or os at 0) _ c.loop-at.invariant (omega (arith, long, below)) c.requires
    (get_or_default ws at 0 (get_or ws at 0) (omega (arith, long, below))) (get_or_default os at 0 (get_or os at 0) (omega (arith, long, below, both))) (either_bit (get_or ws at 0) (get_or os at 0))

pub returns-clause-numbers : goal.returns-clause-numbers
returns-clause-numbers c = λ k.
    let past = c.loop-at-test.false in
    changed_bits either c.loop-at.words c.args.words.now c.args.others.now c.loop-at.at refl c.loop-at.invariant (omega (arith, past)) c.requires (k / 64) (k % 64)
