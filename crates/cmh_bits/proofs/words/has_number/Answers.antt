use Rattle.std.proofs.Common.{ℕ, ◌∙◌, ◌/◌, ◌%◌, length, sym, ap}
use Rattle.std.proofs.lemmas.Bool.{ltb-true, ltb-false}
use Rattle.std.proofs.lemmas.List.{get_or_default}
use Rattle.cmh_bits.specs.Bits.{is_set}
use Rattle.cmh_bits.proofs.WordLemmas.{none_past}
use Rattle.cmh_bits.proofs.words.has_number.Goals as goal

pub returns-in-Some : goal.returns-in-Some
returns-in-Some c =
    let ws = c.args.words.now in
    let n = c.args.number in
    let found = c.in-Some.ensures.lookup in
    c.has_bit.ensures ∙ ap (λ (w : ℕ). is_set w (n % 64)) (found.1 ∙ get_or_default ws (n / 64) c.in-Some.word.now 0 (ltb-true (n / 64) (length ws) (sym found.0)))

pub returns-in-None : goal.returns-in-None
returns-in-None c =
    let ws = c.args.words.now in
    let n = c.args.number in
    sym (none_past ws n (ltb-false (n / 64) (length ws) (sym c.in-None.ensures.lookup.0)))
