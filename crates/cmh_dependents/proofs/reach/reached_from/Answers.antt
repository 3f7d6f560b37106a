use Rattle.std.proofs.Common.{◌≤◌, ℕ, List, length, get_or, refl, subst, arith}
use Rattle.std.specs.List.Sorted.{IsStrictlyIncreasing}
use Rattle.cmh_bits.proofs.BitLemmas.{no_bit}
use Rattle.cmh_waits.proofs.RowLemmas.{in_at}
use Rattle.cmh_dependents.proofs.Awaited.{all_leave, all_looked_at, leave_on, look_on, none_leave, none_looked_at}
use Rattle.cmh_bits.proofs.BitLemmas.{one_bit}
use Rattle.cmh_dependents.proofs.Searching.{begin_search, search_on, search_ends, effort_less}
use Rattle.cmh_dependents.proofs.reach.reached_from.Goals as goal

pub loop-work-init : goal.loop-work-init
loop-work-init c =
    let v = c.args.waits.now in
    let up = subst IsStrictlyIncreasing c.members.ensures.value c.members.ensures.ascending in
    let few = subst (λ (xs : List ℕ). length xs ≤ 64) c.members.ensures.value c.members.ensures.few in
    record {
      searching = begin_search v (get_or v.members c.args.start 0) c.args.start _ up c.requires refl (λ k. one_bit c.args.start k (omega (arith, few, c.requires)));
      looked = none_looked_at v _ no_bit;
      leaving = none_leave v _ no_bit;
    }

pub loop-work-preserved : goal.loop-work-preserved
loop-work-preserved c =
    let v = c.args.waits.now in
    let s = c.loop-work.invariant.searching in
    let place = c.lowest-place.result in
    record {
      searching = search_on v (get_or v.members c.args.start 0) c.loop-work.reached c.loop-work.work place c.row-row.result c.beyond-fresh.result c.without_bit.result s c.lowest-place.ensures.set
          c.row-row.ensures c.beyond-fresh.ensures c.without_bit.ensures.bits c.either-work.result c.either-reached.result c.either-work.ensures.bits c.either-reached.ensures.bits;
      looked = look_on v c.loop-work.reached c.loop-work.work c.loop-work.awaited place c.row-row.result c.beyond-fresh.result c.without_bit.result c.loop-work.invariant.looked (s.in_work place c.lowest-place.ensures.set)
          c.row-row.ensures c.beyond-fresh.ensures c.without_bit.ensures.bits c.either-work.result c.either-reached.result c.either-awaited.result
          c.either-work.ensures.bits c.either-reached.ensures.bits c.either-awaited.ensures.bits;
      leaving = leave_on v c.loop-work.reached c.loop-work.work c.loop-work.leaving place c.beyond-fresh.result c.without_bit.result c.loop-work.invariant.leaving (s.in_work place c.lowest-place.ensures.set)
          c.without_bit.ensures.bits c.either-work.result c.either-reached.result c.with_leaving-leaving.result
          c.either-work.ensures.bits c.either-reached.ensures.bits c.with_leaving-leaving.ensures.others c.with_leaving-leaving.ensures.here;
    }

pub loop-work-smaller : goal.loop-work-smaller
loop-work-smaller c =
    let v = c.args.waits.now in
    effort_less v (get_or v.members c.args.start 0) c.loop-work.reached c.loop-work.work c.lowest-place.result c.row-row.result c.beyond-fresh.result c.without_bit.result c.loop-work.invariant.searching c.lowest-place.ensures.set
    c.row-row.ensures c.beyond-fresh.ensures c.without_bit.ensures.bits c.either-work.result c.either-reached.result c.either-work.ensures.bits c.either-reached.ensures.bits
    (c.without_bit.ensures.less c.lowest-place.ensures.set) c.either-reached.ensures.no_less c.either-reached.type_inv c.either-work.type_inv

pub returns-clause-reached : goal.returns-clause-reached
returns-clause-reached c =
    let v = c.args.waits.now in
    let from = get_or v.members c.args.start 0 in
    search_ends v from c.loop-work.reached c.loop-work.work (in_at v.members c.args.start from c.requires refl) c.loop-work-test.false no_bit c.loop-work.invariant.searching

pub returns-clause-awaited : goal.returns-clause-awaited
returns-clause-awaited c =
    all_looked_at c.args.waits.now c.loop-work.reached c.loop-work.work c.loop-work.awaited c.loop-work-test.false no_bit c.loop-work.invariant.looked

pub returns-clause-leaving : goal.returns-clause-leaving
returns-clause-leaving c =
    all_leave c.args.waits.now c.loop-work.reached c.loop-work.work c.loop-work.leaving c.loop-work-test.false no_bit c.loop-work.invariant.leaving
