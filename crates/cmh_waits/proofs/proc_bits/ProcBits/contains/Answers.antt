use Rattle.std.proofs.Common.{◌∙◌, ◌/◌, ◌%◌, ◌<◌, ◌≤◌, sym, ap, ℕ, List, length, get_or, subst}
use Rattle.std.proofs.lemmas.Bool.{ltb-true, ltb-false}
use Rattle.std.proofs.lemmas.List.{get_or_default}
use Rattle.cmh_waits.specs.Numbers.{numbers_in}
use Rattle.cmh_bits.specs.Bits.{is_set}
use Rattle.cmh_waits.specs.Rows.{is_in}
use Rattle.cmh_bits.proofs.WordLemmas.{none_past}
use Rattle.cmh_waits.proofs.NumberLemmas.{in_numbers}
use Rattle.cmh_waits.proofs.proc_bits.ProcBits.contains.Goals as goal

pub returns-in-Some : goal.returns-in-Some
returns-in-Some c =
    let ws = c.self.inside.words.items in
    let n = c.get-number.result in
    let found = c.in-Some.ensures.lookup in
    let within = subst (λ (xs : List ℕ). n / 64 < length xs) c.deref.ensures.value (ltb-true (n / 64) (length c.deref.result.now) (sym found.0)) in
    c.has_bit.ensures
    ∙ ap (λ (w : ℕ). is_set w (n % 64)) (found.1 ∙ ap (λ (xs : List ℕ). get_or xs (n / 64) c.in-Some.word.now) c.deref.ensures.value ∙ get_or_default ws (n / 64) c.in-Some.word.now 0 within)
    ∙ sym (in_numbers ws n)
    ∙ ap (is_in (numbers_in ws)) c.get-number.ensures.value
    ∙ ap (λ (xs : List ℕ). is_in xs c.args.process) c.self.view_is

pub returns-in-None : goal.returns-in-None
returns-in-None c =
    let ws = c.self.inside.words.items in
    let n = c.get-number.result in
    let past = subst (λ (xs : List ℕ). length xs ≤ n / 64) c.deref.ensures.value (ltb-false (n / 64) (length c.deref.result.now) (sym c.in-None.ensures.lookup.0)) in
    sym (none_past ws n past)
    ∙ sym (in_numbers ws n)
    ∙ ap (is_in (numbers_in ws)) c.get-number.ensures.value
    ∙ ap (λ (xs : List ℕ). is_in xs c.args.process) c.self.view_is
