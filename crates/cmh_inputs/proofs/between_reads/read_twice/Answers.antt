use Rattle.std.proofs.Common.{◌≡◌, ◌<◌, ℕ, List, length, map, Vec, sym, ap, subst, subst₂, ◌∙◌, arith, ◌+◌}
use Rattle.std.proofs.lemmas.List.{length-map, length_push}
use Rattle.std.proofs.lemmas.Option.{MatchOption-at_none, MatchOption-at_some}
use Rattle.std.specs.Global.{Global}
use Rattle.cmh_segment3.specs.declared.segment.Segment.{Segment}
use Rattle.cmh_audit3.specs.Set.{IsSet, fault_of}
use Rattle.cmh_inputs.specs.BetweenReads.{IsReadTwice, count_at, segment_at}
use Rattle.cmh_inputs.specs.declared.between_reads.Reading.{Reading}
use Rattle.cmh_inputs.proofs.Places.{file_is, read_more, same_segments}
use Rattle.cmh_inputs.proofs.between_reads.read_twice.Goals as goal

abbrev items : Vec ℕ Global → List ℕ
items file = file.items

-- the file was not read so
abbrev None_read : List ℕ → List ℕ → Type 0
None_read first second = (before : ℕ) (segment : Segment) → IsReadTwice first second before segment → ⊥

-- it was
abbrev Read : List ℕ → List ℕ → Reading → Type 0
Read first second reading = IsReadTwice first second reading.before reading.segment

pub returns-in_default : goal.returns-in_default
returns-in_default c = λ before segments r.
    let i = c.loop-i.i in
    let in_second : i < length c.args.second.now = let h = c.loop-i-test.true in omega (arith, h) in
    let in_first : i < length c.args.first.now = let h = c.if-first-second.false in omega (arith, h, in_second) in
    let first_is = file_is c.args.first.now i c.index-first-i.result in_first c.index-first-i.is ∙ sym c.deref.ensures.value in
    let second_is = file_is c.args.second.now i c.index-second-i.result in_second c.index-second-i.is ∙ sym c.deref-in-loop-i.ensures.value in
    MatchOption-at_none (None_read c.deref.result.now c.deref-in-loop-i.result.now) (Read c.deref.result.now c.deref-in-loop-i.result.now) c.in_default.is c.in_ok-reading.ensures
    (count_at before i) (segment_at segments i)
    (subst₂ (λ (a b : List ℕ). IsReadTwice a b (count_at before i) (segment_at segments i)) first_is second_is (r.read i (let n = length-map c.args.second.now items in omega (arith, n, in_second))))

pub loop-i-preserved : goal.loop-i-preserved
loop-i-preserved c =
    let i = c.loop-i.i in
    let in_second : i < length c.args.second.now = let h = c.loop-i-test.true in omega (arith, h) in
    let in_first : i < length c.args.first.now = let h = c.if-first-second.false in omega (arith, h, in_second) in
    let first_is = file_is c.args.first.now i c.index-first-i.result in_first c.index-first-i.is ∙ sym c.deref.ensures.value in
    let second_is = file_is c.args.second.now i c.index-second-i.result in_second c.index-second-i.is ∙ sym c.deref-in-loop-i.ensures.value in
    let lb = c.loop-i.invariant.counts in
    let lg = c.loop-i.invariant.each in
    let now = MatchOption-at_some (None_read c.deref.result.now c.deref-in-loop-i.result.now) (Read c.deref.result.now c.deref-in-loop-i.result.now) c.in-Some.reading c.in-Some.is c.in_ok-reading.ensures in
    record {
      counts = ap length c.in_ok-push.ensures.items ∙ length_push c.loop-i.before.items c.in-Some.reading.before ∙ ap (λ n. n + 1) lb;
      each = ap length c.in_ok-push-2.ensures.items ∙ length_push c.loop-i.segments.items c.in-Some.reading.segment ∙ ap (λ n. n + 1) lg;
      read = read_more (map items c.args.first.now) (map items c.args.second.now) i c.loop-i.before.items c.push.new.self.items c.loop-i.segments.items c.push-in-loop-i.new.self.items c.in-Some.reading.before c.in-Some.reading.segment
          c.in_ok-push.ensures.items c.in_ok-push-2.ensures.items lb lg c.loop-i.invariant.read
          (subst₂ (λ (a b : List ℕ). IsReadTwice a b c.in-Some.reading.before c.in-Some.reading.segment) (sym first_is) (sym second_is) now);
    }

pub returns-in-Ok : goal.returns-in-Ok
returns-in-Ok c =
    let seconds = length-map c.args.second.now items in
    let firsts = length-map c.args.first.now items in
    let same = c.if-first-second.false in
    let past = c.loop-i-test.false in
    let end = c.loop-i.auto.i-end in
    let lb = c.loop-i.invariant.counts in
    let lg = c.loop-i.invariant.each in
    record {
      firsts = omega (arith, firsts, seconds, same);
      counts = omega (arith, seconds, lb, past, end);
      each = omega (arith, seconds, lg, past, end);
      read = λ k l. c.loop-i.invariant.read k (omega (arith, l, seconds, past, end));
      set = subst (IsSet c.args.topology.now) c.deref-2.ensures.value c.in-Ok.ensures.ok;
    }

pub returns-in-Err : goal.returns-in-Err
returns-in-Err c = λ before segments r.
    let seconds = length-map c.args.second.now items in
    let past = c.loop-i-test.false in
    let end = c.loop-i.auto.i-end in
    let lb = c.loop-i.invariant.counts in
    let lg = c.loop-i.invariant.each in
    let own_counts : length c.loop-i.before.items ≡ length (map items c.args.second.now) = omega (arith, seconds, lb, past, end) in
    let own_segments : length c.loop-i.segments.items ≡ length (map items c.args.second.now) = omega (arith, seconds, lg, past, end) in
    let same = same_segments (map items c.args.first.now) (map items c.args.second.now) before c.loop-i.before.items segments c.loop-i.segments.items r.counts own_counts r.each own_segments r.read
    (λ k l. c.loop-i.invariant.read k (omega (arith, l, seconds, past, end))) in
    let here = ap (fault_of c.args.topology.now) (same ∙ sym c.deref-2.ensures.value) in
    let fault = c.in-Err.ensures.fault in
    let none = r.set in
    absurd (cc (here, fault, none))
