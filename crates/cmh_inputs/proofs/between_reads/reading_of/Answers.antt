use Rattle.std.proofs.Common.{◌-◌, ℕ, List, length, take, drop, sym, ap, subst, ◌∙◌}
use Rattle.std.proofs.lemmas.Bool.Decides.{Decides-eqb}
use Rattle.std.proofs.lemmas.Option.{MatchOption-at_none, MatchOption-at_some}
use Rattle.std.proofs.lemmas.Slice.Eq.{starts_is}
use Rattle.cmh_runs.specs.Runs.{IsBeginningOf}
use Rattle.cmh_segment3.specs.declared.segment.Segment.{Segment}
use Rattle.cmh_segment3.specs.Segment.{IsSegmentOf}
use Rattle.cmh_inputs.proofs.SegmentFiles.{same_segment}
use Rattle.cmh_inputs.proofs.between_reads.reading_of.Goals as goal

-- the bytes are of no segment
abbrev None_there : List ℕ → Type 0
None_there bytes = (segment : Segment) (left : ℕ) → IsSegmentOf segment left bytes → ⊥

-- they are of this one
abbrev There : List ℕ → Segment × ℕ → Type 0
There bytes read = IsSegmentOf read.0 read.1 bytes

pub returns-in_default : goal.returns-in_default
returns-in_default c = λ before segment r.
    MatchOption-at_none (None_there c.args.first.now) (There c.args.first.now) c.in_default.is c.in_ok-earlier.ensures r.earlier r.first_tail r.first_is

pub returns-then-not-starts_with : goal.returns-then-not-starts_with
returns-then-not-starts_with c = λ before segment r.
    let own : IsSegmentOf c.in-Some.earlier c.in-Some.tail c.args.first.now =
    MatchOption-at_some (None_there c.args.first.now) (There c.args.first.now) (c.in-Some.earlier, c.in-Some.tail) c.in-Some.is c.in_ok-earlier.ensures in
    let same = same_segment c.args.first.now r.earlier c.in-Some.earlier r.first_tail c.in-Some.tail r.first_is own in
    let front = c.split_at.result.0.now in
    let grew : IsBeginningOf front c.args.second.now =
    subst (λ (l : List ℕ). IsBeginningOf l c.args.second.now)
    (ap (λ (n : ℕ). take (length c.args.first.now - n) c.args.first.now) same.left ∙ sym c.split_at.ensures.front) r.grew in
    let begins = (starts_is Decides-eqb c.args.second.now front c.starts_with.result c.starts_with.ensures.value).1 grew.0 (sym grew.1) in
    let not = c.if-not-starts_with.true in
    cc

pub returns-in_default-2 : goal.returns-in_default-2
returns-in_default-2 c = λ before segment r.
    MatchOption-at_none (None_there c.args.second.now) (There c.args.second.now) c.in_default-2.is c.in_ok-segment.ensures segment r.second_tail r.second_is

pub returns : goal.returns
returns c =
    let front = c.split_at.result.0.now in
    let starts = (starts_is Decides-eqb c.args.second.now front c.starts_with.result c.starts_with.ensures.value).0 (let yes = c.if-not-starts_with.false in cc) in
    record {
      earlier = c.in-Some.earlier;
      first_tail = c.in-Some.tail;
      second_tail = c.in-Some-2.field-0-1;
      first_is = MatchOption-at_some (None_there c.args.first.now) (There c.args.first.now) (c.in-Some.earlier, c.in-Some.tail) c.in-Some.is c.in_ok-earlier.ensures;
      second_is = MatchOption-at_some (None_there c.args.second.now) (There c.args.second.now) (c.in-Some-2.segment, c.in-Some-2.field-0-1) c.in-Some-2.is c.in_ok-segment.ensures;
      grew = subst (λ (l : List ℕ). IsBeginningOf l c.args.second.now) c.split_at.ensures.front (drop (length front) c.args.second.now, sym starts);
      before_is = ap length c.as_slice-before.ensures;
    }
