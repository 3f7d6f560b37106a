use Rattle.std.proofs.Common.{◌/◌, ◌%◌, refl, arith}
use Rattle.cmh_bits.proofs.WordLemmas.{beyond, changed_bits}
use Rattle.cmh_bits.proofs.words.remove_words.Goals as goal

pub returns-clause-numbers : goal.returns-clause-numbers
returns-clause-numbers c = λ k.
    let past = c.loop-at-test.false in
    changed_bits beyond c.loop-at.words c.args.words.now c.args.others.now c.loop-at.at refl c.loop-at.invariant (omega (arith, past)) c.requires (k / 64) (k % 64)
