use Rattle.std.proofs.Common.{◌≡◌, ℕ, List, Vec, sym, subst, subst₂, inr, refl, arith}
use Rattle.std.proofs.lemmas.List.{length-map}
use Rattle.std.proofs.lemmas.Option.{MatchOption-at_none, MatchOption-at_some}
use Rattle.std.proofs.lemmas.Result.{IfOk-weaker}
use Rattle.std.specs.Global.{Global}
use Rattle.cmh_model3.specs.Entries.{WorldEvent}
use Rattle.cmh_topology3.specs.Topology.{Topology}
use Rattle.cmh_segment3.specs.declared.segment.Segment.{Segment}
use Rattle.cmh_segment3.specs.Segment.{IsSegmentOf}
use Rattle.cmh_files.specs.Readings.{file_at}
use Rattle.cmh_inputs.specs.BetweenReads.{AreReadTwice, LiesBetween, segment_at}
use Rattle.cmh_inputs.specs.Inner.Taken.{AreCutTo, TakesFurthest}
use Rattle.cmh_inputs.specs.declared.between_reads.Readings.{Readings}
use Rattle.cmh_inputs.proofs.Cutting.{items}
use Rattle.cmh_inputs.proofs.Keeping.{are_kept, none_lies, none_read}
use Rattle.cmh_inputs.proofs.kept.segments_kept.Goals as goal

-- the files can't be read so
abbrev None_read : Topology → List (Vec ℕ Global) → List (Vec ℕ Global) → Type 0
None_read t first second = (before : List ℕ) (segments : List Segment) → AreReadTwice t (items first) (items second) before segments → ⊥

-- they were
abbrev Read : Topology → List (Vec ℕ Global) → List (Vec ℕ Global) → Readings → Type 0
Read t first second read = AreReadTwice t (items first) (items second) read.before.items read.segments.items

abbrev None_between : Topology → Readings → Type 0
None_between t read = (events : List WorldEvent) → LiesBetween t read.before.items read.segments.items events → ⊥

abbrev Taken : Topology → Readings → Vec ℕ Global → Type 0
Taken t read taken = TakesFurthest t read.before.items read.segments.items taken.items

-- ---- with the lists that were lent

own_read : (t : Topology) (first second lent_first lent_second : List (Vec ℕ Global)) (read : Readings) → lent_first ≡ first → lent_second ≡ second → Read t lent_first lent_second read → Read t first second read
own_read t first second lent_first lent_second read first_is second_is r = subst₂ (λ (a b : List (Vec ℕ Global)). Read t a b read) first_is second_is r

own_none : (t : Topology) (first second lent_first lent_second : List (Vec ℕ Global)) → lent_first ≡ first → lent_second ≡ second → None_read t lent_first lent_second → None_read t first second
own_none t first second lent_first lent_second first_is second_is none = subst₂ (λ (a b : List (Vec ℕ Global)). None_read t a b) first_is second_is none

pub returns-in_default : goal.returns-in_default
returns-in_default c =
    let t = c.args.topology.now in
    let first = c.args.first.items in
    let second = c.args.second.items in
    let none = MatchOption-at_none (None_read t c.deref.result.now c.deref-2.result.now) (Read t c.deref.result.now c.deref-2.result.now) c.in_default.is c.in_ok-read.ensures in
    inr (none_read t (items first) (items second) (own_none t first second c.deref.result.now c.deref-2.result.now c.deref.ensures.value c.deref-2.ensures.value none), refl)

pub returns-in_default-2 : goal.returns-in_default-2
returns-in_default-2 c =
    let t = c.args.topology.now in
    let first = c.args.first.items in
    let second = c.args.second.items in
    let read = c.in-Some.read in
    let own : Read t first second read = own_read t first second c.deref.result.now c.deref-2.result.now read c.deref.ensures.value c.deref-2.ensures.value
    (MatchOption-at_some (None_read t c.deref.result.now c.deref-2.result.now) (Read t c.deref.result.now c.deref-2.result.now) read c.in-Some.is c.in_ok-read.ensures) in
    let none = MatchOption-at_none (None_between t read) (Taken t read) c.in_default-2.is c.in_ok-taken.ensures in
    inr (none_lies t (items first) (items second) read.before.items read.segments.items own none, refl)

pub cut-requires-clause-files : goal.cut-requires-clause-files
cut-requires-clause-files c = λ i l.
    let t = c.args.topology.now in
    let first = c.args.first.items in
    let second = c.args.second.items in
    let read = c.in-Some.read in
    let own : Read t first second read = own_read t first second c.deref.result.now c.deref-2.result.now read c.deref.ensures.value c.deref-2.ensures.value
    (MatchOption-at_some (None_read t c.deref.result.now c.deref-2.result.now) (Read t c.deref.result.now c.deref-2.result.now) read c.in-Some.is c.in_ok-read.ensures) in
    let count = length-map second (λ (file : Vec ℕ Global). file.items) in
    let one = own.read i (omega (arith, count, l)) in
    (one.second_tail, subst (λ (gs : List Segment). IsSegmentOf (segment_at gs i) one.second_tail (file_at (items second) i)) (sym c.deref-3.ensures.value) one.second_is)

pub returns : goal.returns
returns c =
    let t = c.args.topology.now in
    let first = c.args.first.items in
    let second = c.args.second.items in
    let read = c.in-Some.read in
    let taken = c.in-Some-2.taken in
    let own : Read t first second read = own_read t first second c.deref.result.now c.deref-2.result.now read c.deref.ensures.value c.deref-2.ensures.value
    (MatchOption-at_some (None_read t c.deref.result.now c.deref-2.result.now) (Read t c.deref.result.now c.deref-2.result.now) read c.in-Some.is c.in_ok-read.ensures) in
    let takes = MatchOption-at_some (None_between t read) (Taken t read) taken c.in-Some-2.is c.in_ok-taken.ensures in
    IfOk-weaker c.cut.result _ _
    (λ kept cut. are_kept t (items first) (items second) read.before.items read.segments.items taken.items (items kept.items) own takes
    (subst₂ (λ (gs : List Segment) (ns : List ℕ). AreCutTo gs ns (items second) (items kept.items)) c.deref-3.ensures.value c.deref-4.ensures.value cut)) c.cut.ensures
