use Rattle.std.proofs.Common.{◌<◌, ℕ, List, length, map, Vec, sym, ap, subst₂, ◌∙◌, arith, ◌+◌}
use Rattle.std.proofs.lemmas.List.{length-map, length_push}
use Rattle.std.specs.Global.{Global}
use Rattle.cmh_files.specs.Readings.{IsReadTwice}
use Rattle.cmh_files.specs.Stops.{journal_at, length_at}
use Rattle.cmh_files.proofs.ReadLemmas.{file_is, read_more}
use Rattle.cmh_files.proofs.reading.read_twice.Goals as goal

pub returns-in_default : goal.returns-in_default
returns-in_default c = λ before journals r.
    let i = c.loop-i.i in
    let items : Vec ℕ Global → List ℕ = λ f. f.items in
    let in_second : i < length c.args.second.now = let h = c.loop-i-test.true in omega (arith, h) in
    let in_first : i < length c.args.first.now = let h = c.if-first-second.false in omega (arith, h, in_second) in
    let first_is = file_is c.args.first.now i c.index-first-i.result in_first c.index-first-i.is ∙ sym c.deref.ensures.value in
    let second_is = file_is c.args.second.now i c.index-second-i.result in_second c.index-second-i.is ∙ sym c.deref-in-loop-i.ensures.value in
    c.in_default.ensures (length_at before i) (journal_at journals i)
    (subst₂ (λ (a b : List ℕ). IsReadTwice a b (length_at before i) (journal_at journals i)) first_is second_is (r.read i (let n = length-map c.args.second.now items in omega (arith, n, in_second))))

pub loop-i-preserved : goal.loop-i-preserved
loop-i-preserved c =
    let i = c.loop-i.i in
    let items : Vec ℕ Global → List ℕ = λ f. f.items in
    let in_second : i < length c.args.second.now = let h = c.loop-i-test.true in omega (arith, h) in
    let in_first : i < length c.args.first.now = let h = c.if-first-second.false in omega (arith, h, in_second) in
    let first_is = file_is c.args.first.now i c.index-first-i.result in_first c.index-first-i.is ∙ sym c.deref.ensures.value in
    let second_is = file_is c.args.second.now i c.index-second-i.result in_second c.index-second-i.is ∙ sym c.deref-in-loop-i.ensures.value in
    let lb = c.loop-i.invariant.lengths in
    let lj = c.loop-i.invariant.each in
    record {
      lengths = ap length c.in_ok-push.ensures.items ∙ length_push c.loop-i.before.items c.in-Some.reading.before ∙ ap (λ n. n + 1) lb;
      each = ap length c.in_ok-push-2.ensures.items ∙ length_push c.loop-i.journals.items c.in-Some.reading.journal ∙ ap (λ n. n + 1) lj;
      read = read_more (map items c.args.first.now) (map items c.args.second.now) i c.loop-i.before.items c.push.new.self.items c.loop-i.journals.items c.push-in-loop-i.new.self.items c.in-Some.reading.before c.in-Some.reading.journal
          c.in_ok-push.ensures.items c.in_ok-push-2.ensures.items lb lj c.loop-i.invariant.read
          (subst₂ (λ (a b : List ℕ). IsReadTwice a b c.in-Some.reading.before c.in-Some.reading.journal) (sym first_is) (sym second_is) c.in-Some.ensures);
    }
