use Rattle.std.proofs.Common.{◌≡◌, ◌↔◌, ◌≤◌, ℕ, true, false, Contains, length, sym, ap, ◌∙◌, subst, arith}
use Rattle.std.specs.List.Sorted.{IsStrictlyIncreasing}
use Rattle.std.proofs.lemmas.Option.{get_or_from_slice_get, slice_get_within}
use Rattle.cmh_frames.specs.Relation.{has}
use Rattle.cmh_waits.specs.Held.{is_member}
use Rattle.cmh_bits.specs.Bits.{is_set}
use Rattle.cmh_bits.proofs.BitLemmas.{no_bit, none_below}
use Rattle.cmh_waits.proofs.RowLemmas.{in_at}
use Rattle.cmh_rules.proofs.Leaving.{apart, past_end, probes_of_leaving, without_end, without_member, without_none}
use Rattle.cmh_rules.proofs.edges.probes_along.Goals as goal

pub loop-left-init : goal.loop-left-init
loop-left-init c = rw c.new-frames.ensures.items (without_none c.args.waits.now c.args.origin c.args.reach.leaving)

-- there is no such member, and so none left
pub returns-in_default : goal.returns-in_default
returns-in_default c =
    let v = c.args.waits.now in
    let origin = c.args.origin in
    let leaving = c.args.reach.leaving in
    let place = c.lowest-place.result in
    let frames = c.loop-left.frames.items in
    let outside : length v.members ≤ place = past_end v.members place (sym c.member.ensures ∙ c.in_default.is) in
    probes_of_leaving v origin c.args.reach.places leaving frames c.requires
    (without_end v origin leaving c.loop-left.left frames c.loop-left.invariant (λ k below. none_below c.loop-left.left place c.lowest-place.ensures.least k (omega (arith, below, outside))))

-- the processes are members, and the targets are of other sites
pub push_probes-requires : goal.push_probes-requires
push_probes-requires c = λ to found.
    let v = c.args.waits.now in
    let place = c.lowest-place.result in
    let got = sym c.member.ensures ∙ c.in-Some.is in
    let inside = slice_get_within v.members place c.in-Some.process got in
    apart v c.in-Some.process to (in_at v.members place c.in-Some.process inside (get_or_from_slice_get v.members place c.in-Some.process 0 got)) ((c.remote_at.ensures.all inside to).0 found).1

pub loop-left-preserved : goal.loop-left-preserved
loop-left-preserved c =
    let v = c.args.waits.now in
    let origin = c.args.origin in
    let leaving = c.args.reach.leaving in
    let place = c.lowest-place.result in
    let frames = c.loop-left.frames.items in
    let targets = c.remote_at.result.now in
    let up = subst IsStrictlyIncreasing c.members.ensures.value c.members.ensures.ascending in
    let process = c.in-Some.process in
    let got = sym c.member.ensures ∙ c.in-Some.is in
    let inside = slice_get_within v.members place process got in
    let is = get_or_from_slice_get v.members place process 0 got in
    let each = subst (λ p. (k : ℕ) → Contains targets k ↔ ((has v.waits p k ≡ true) × (is_member v k ≡ false))) is (c.remote_at.ensures.all inside) in
    rw c.in_ok-push_probes.ensures
    (without_member v origin leaving c.loop-left.left frames c.loop-left.invariant place c.without_bit-left.result c.lowest-place.ensures.set (none_below c.loop-left.left place c.lowest-place.ensures.least) c.without_bit-left.ensures.bits process targets up inside is c.remote_at.ensures.ascending each)

pub returns : goal.returns
returns c =
    let v = c.args.waits.now in
    let origin = c.args.origin in
    let leaving = c.args.reach.leaving in
    let frames = c.loop-left.frames.items in
    let done : c.loop-left.left ≡ 0 = c.loop-left-test.false in
    probes_of_leaving v origin c.args.reach.places leaving frames c.requires
    (without_end v origin leaving c.loop-left.left frames c.loop-left.invariant (λ k below. ap (λ n. is_set n k) done ∙ no_bit k))
