use Rattle.std.proofs.Common.{◌∙◌, ◌*◌, ◌+◌, ◌<◌, length, sym, subst, arith}
use Rattle.std.specs.List.{range_with_len}
use Rattle.std.specs.List.Sorted.{IsStrictlyIncreasing}
use Rattle.std.proofs.lemmas.List.{get_or_default}
use Rattle.std.proofs.lemmas.List.Kept.{IsStrictlyIncreasing-filter}
use Rattle.cmh_bits.specs.Bits.{has_number}
use Rattle.cmh_waits.proofs.NumberLemmas.{has_at, range_increasing, word_more}
use Rattle.cmh_waits.proofs.proc_bits.ProcBits.to_vec.Goals as goal

pub push_word-requires : goal.push_word-requires
push_word-requires c = λ p small set.
    let words = c.self.inside.words.items in
    let at = c.loop-at.at in
    let below : at < length words = let own = c.self.inside.words.ok.0 in let len = c.len-at-end.ensures in let test = c.loop-at-test.true in omega (arith, own, len, test) in
    let word = c.index.ensures ∙ get_or_default words at c.index.result.now 0 below in
    c.self.invariant.numbers (at * 64 + p) (has_at words at c.index.result.now word p small ∙ set)

pub loop-at-preserved : goal.loop-at-preserved
loop-at-preserved c =
    let words = c.self.inside.words.items in
    let at = c.loop-at.at in
    let below : at < length words = let own = c.self.inside.words.ok.0 in let len = c.len-at-end.ensures in let test = c.loop-at-test.true in omega (arith, own, len, test) in
    let word = c.index.ensures ∙ get_or_default words at c.index.result.now 0 below in
    word_more words at c.index.result.now word c.loop-at.list.items c.push_word.new.list.items c.loop-at.invariant c.in_ok-push_word.ensures

pub returns-clause-ascending : goal.returns-clause-ascending
returns-clause-ascending c =
    subst IsStrictlyIncreasing (sym c.loop-at.invariant) (IsStrictlyIncreasing-filter (has_number c.self.inside.words.items) (range_with_len 0 (c.loop-at.at * 64)) (range_increasing 0 (c.loop-at.at * 64)))
