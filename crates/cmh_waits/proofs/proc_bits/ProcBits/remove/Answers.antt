use Rattle.std.proofs.Common.{◌≡◌, ◌∙◌, ◌==◌, ◌/◌, ◌<◌, ◌≤◌, length, arith, not, ap, subst, ℕ, List}
use Rattle.std.specs.List.{filter}
use Rattle.std.proofs.lemmas.List.{get_or_default}
use Rattle.cmh_waits.specs.Numbers.{numbers_in}
use Rattle.cmh_waits.proofs.NumberLemmas.{not_there, taken}
use Rattle.cmh_waits.proofs.proc_bits.ProcBits.remove.Goals as goal

pub returns-then-number-len : goal.returns-then-number-len
returns-then-number-len c =
    let words = c.self.inside.words.items in
    let n = c.get-number.result in
    let len = c.len.ensures in
    let below = c.if-number-len.true in
    let within : n / 64 < length words = let own = c.self.inside.words.ok.0 in omega (arith, len, below, own) in
    let was = c.index.ensures ∙ get_or_default words (n / 64) c.index.result.now 0 within in
    taken words n c.index.result.now c.without_bit.result within was c.without_bit.ensures.bits
    ∙ ap (λ (x : ℕ). filter (λ q. not (q == x)) (numbers_in words)) c.get-number.ensures.value
    ∙ ap (λ (xs : List ℕ). filter (λ q. not (q == c.args.process)) xs) c.self.view_is

pub returns-else-number-len : goal.returns-else-number-len
returns-else-number-len c =
    let words = c.self.inside.words.items in
    let n = c.get-number.result in
    let past : length words ≤ n / 64 = let own = c.self.inside.words.ok.0 in let len = c.len.ensures in let above = c.if-number-len.false in omega (arith, len, own, above) in
    subst (λ (xs : List ℕ). xs ≡ filter (λ q. not (q == c.args.process)) xs) c.self.view_is
    (not_there words n past ∙ ap (λ (x : ℕ). filter (λ q. not (q == x)) (numbers_in words)) c.get-number.ensures.value)
