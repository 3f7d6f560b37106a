use Rattle.std.proofs.Common.{◌<◌, ℕ, ap, subst, ◌∙◌, arith}
use Rattle.std.specs.Char.{digit_value}
use Rattle.cmh_console.proofs.Numerals.{reads_more}
use Rattle.cmh_console.proofs.words.first_numeral.Goals as goal

pub loop-len-preserved : goal.loop-len-preserved
loop-len-preserved c =
    let digit = c.in-Some.ensures.value in
    reads_more c.args.line.now c.loop-len.len c.loop-len.number c.in-Some.digit (omega (arith, c.loop-len-test.true, c.min-most.ensures)) c.loop-len.invariant
    (subst (λ (b : ℕ). digit_value b < 10) c.from.ensures digit.0) (digit.1 ∙ ap digit_value c.from.ensures)
