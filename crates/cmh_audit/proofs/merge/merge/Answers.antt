use Rattle.std.proofs.Common.{◌≡◌, ◌+◌, ℕ, List, [], ◌∷◌, set, drop, length, replicate, Some, subst, subst₂, sym, ap, ◌∙◌, arith, length-append, rules}
use Rattle.cmh_journal.specs.Journal.{Journal}
use Rattle.cmh_audit.specs.declared.step.Step.{Step}
use Rattle.cmh_audit.specs.Inner.Places.{OneEach}
use Rattle.cmh_audit.specs.Inner.Merging.{AreLeftAt}
use Rattle.cmh_audit.specs.Inner.Ready.{ArePlaces, Wakes, with_turn}
use Rattle.std.specs.Prelude.{IfNone}
use Rattle.cmh_audit.proofs.CountLemmas.{length-limits}
use Rattle.cmh_audit.proofs.LookLemmas.{place_in, looked_past, looked_done, looked_parked, looked_took, turn_is, took_left, took_less, took_order}
use Rattle.cmh_audit.proofs.OrderLemmas.{IsKept, kept_start, kept_took}
use Rattle.cmh_audit.proofs.ReadyLemmas.{Listed, listed_start, listed_end, listed_tries}
use Rattle.cmh_audit.proofs.WalkLemmas.{behind_it, left_start, some_left}
use Rattle.cmh_audit.proofs.merge.merge.Goals as goal

pub loop-turn-init : goal.loop-turn-init
loop-turn-init c =
    let js = c.args.journals.now in
    let zeros : c.in_ok-taken.taken.items ≡ replicate (length c.args.journals.now) 0 = search rules in
    let ready = with_turn c.last_of-turn.result c.last_of-turn.new.ready.items in
    let places = subst (λ r. ArePlaces r (length js)) (sym c.last_of-turn.ensures.list) c.in_ok-schedule.ensures.ready in
    let L : List ℕ → Type 0 = λ counts. Listed c.args.topology.now js c.args.limits.now counts c.new-links.result c.in_ok-schedule.schedule.lacks.items ready 0 in
    let A : List ℕ → Type 0 = λ counts. AreLeftAt js counts c.in_ok-walks.walks.items in
    let O : List ℕ → List Step → Type 0 = λ counts steps. IsKept c.args.keeps_order c.args.topology.now js counts steps in
    record {
      listed = subst L (sym zeros) (listed_start c.args.topology.now js c.args.limits.now c.new-links.result c.in_ok-schedule.schedule.lacks.items ready c.new-links.ensures c.in_ok-schedule.ensures.lacks places);
      last = c.last_of-turn.ensures.none;
      left = subst A (sym zeros) (left_start js c.in_ok-walks.walks.items c.in_ok-walks.ensures);
      kept = subst₂ O (sym zeros) (sym c.new-steps.ensures.items) (kept_start c.args.keeps_order c.args.topology.now js);
    }

-- ---- places in range

pub bounds-journals-i : goal.bounds-journals-i
bounds-journals-i c = place_in c.loop-turn.invariant.listed c.loop-turn.schedule.ready.items c.in-Some.i (turn_is c.loop-turn.turn c.loop-turn.schedule.ready.items c.in-Some.i c.in-Some.is)

pub offset_bounds-journals-i : goal.offset_bounds-journals-i
offset_bounds-journals-i c = let h = place_in c.loop-turn.invariant.listed c.loop-turn.schedule.ready.items c.in-Some.i (turn_is c.loop-turn.turn c.loop-turn.schedule.ready.items c.in-Some.i c.in-Some.is) in let few = c.requires.few in omega (arith, h, few)

pub index-at-requires : goal.index-at-requires
index-at-requires c = let h = place_in c.loop-turn.invariant.listed c.loop-turn.schedule.ready.items c.in-Some.i (turn_is c.loop-turn.turn c.loop-turn.schedule.ready.items c.in-Some.i c.in-Some.is) in let n = c.loop-turn.invariant.listed.merging.each in let w = c.loop-turn.taken.ok.0 in omega (arith, h, n, w)

pub index-requires : goal.index-requires
index-requires c = let h = place_in c.loop-turn.invariant.listed c.loop-turn.schedule.ready.items c.in-Some.i (turn_is c.loop-turn.turn c.loop-turn.schedule.ready.items c.in-Some.i c.in-Some.is) in let n = c.loop-turn.invariant.left.one_each in let w = c.loop-turn.walks.ok.0 in omega (arith, h, n, w)

pub bounds-limits-i : goal.bounds-limits-i
bounds-limits-i c =
    let h = place_in c.loop-turn.invariant.listed c.loop-turn.schedule.ready.items c.in-Some.i (turn_is c.loop-turn.turn c.loop-turn.schedule.ready.items c.in-Some.i c.in-Some.is) in
    let n = length-limits c.args.topology.now c.args.journals.now c.args.limits.now c.requires.lawful in
    omega (arith, h, n)

pub offset_bounds-limits-i : goal.offset_bounds-limits-i
offset_bounds-limits-i c = let h = place_in c.loop-turn.invariant.listed c.loop-turn.schedule.ready.items c.in-Some.i (turn_is c.loop-turn.turn c.loop-turn.schedule.ready.items c.in-Some.i c.in-Some.is) in let few = c.requires.few in omega (arith, h, few)

pub index_mut-requires : goal.index_mut-requires
index_mut-requires c = let h = place_in c.loop-turn.invariant.listed c.loop-turn.schedule.ready.items c.in-Some.i (turn_is c.loop-turn.turn c.loop-turn.schedule.ready.items c.in-Some.i c.in-Some.is) in let n = c.loop-turn.invariant.listed.long in let w = c.loop-turn.schedule.lacks.ok.0 in omega (arith, h, n, w)

pub index_mut-requires-in-Some : goal.index_mut-requires-in-Some
index_mut-requires-in-Some c = let h = place_in c.loop-turn.invariant.listed c.loop-turn.schedule.ready.items c.in-Some.i (turn_is c.loop-turn.turn c.loop-turn.schedule.ready.items c.in-Some.i c.in-Some.is) in let n = c.loop-turn.invariant.listed.merging.each in let w = c.loop-turn.taken.ok.0 in omega (arith, h, n, w)

pub index_mut-requires-in-Some-2 : goal.index_mut-requires-in-Some-2
index_mut-requires-in-Some-2 c = let h = place_in c.loop-turn.invariant.listed c.loop-turn.schedule.ready.items c.in-Some.i (turn_is c.loop-turn.turn c.loop-turn.schedule.ready.items c.in-Some.i c.in-Some.is) in let n = c.loop-turn.invariant.left.one_each in let w = c.loop-turn.walks.ok.0 in omega (arith, h, n, w)

pub overflow_add-tries : goal.overflow_add-tries
overflow_add-tries c =
    let b = listed_tries c.requires.lawful c.loop-turn.invariant.listed in
    let n = ap length (turn_is c.loop-turn.turn c.loop-turn.schedule.ready.items c.in-Some.i c.in-Some.is) ∙ length-append c.loop-turn.schedule.ready.items (c.in-Some.i ∷ []) in
    let s = c.requires.small in
    omega (arith, b, n, s)

pub send_all-requires-clause-long : goal.send_all-requires-clause-long
send_all-requires-clause-long c = c.loop-turn.invariant.listed.long ∙ sym (ap length c.in_ok-places.ensures)

pub send_all-requires-clause-once : goal.send_all-requires-clause-once
send_all-requires-clause-once c = subst OneEach (sym c.in_ok-places.ensures) c.requires.once

pub drop_first-requires : goal.drop_first-requires
drop_first-requires c = some_left c.loop-turn.walks.items c.in-Some.i c.index_mut-in-Some-2.result.now c.index.result.now (let h = place_in c.loop-turn.invariant.listed c.loop-turn.schedule.ready.items c.in-Some.i (turn_is c.loop-turn.turn c.loop-turn.schedule.ready.items c.in-Some.i c.in-Some.is) in let n = c.loop-turn.invariant.left.one_each in omega (arith, h, n)) c.index_mut-in-Some-2.ensures.value c.index.ensures c.in-Some-first.entry c.in-Some-first.ensures

-- ---- a look

pub loop-turn-preserved-in_default-first : goal.loop-turn-preserved-in_default-first
loop-turn-preserved-in_default-first c =
    let next = c.last_of-turn-in_default-first.ensures in
    record {
      listed = subst (λ r. Listed c.args.topology.now c.args.journals.now c.args.limits.now c.loop-turn.taken.items c.loop-turn.links c.loop-turn.schedule.lacks.items r c.loop-turn.tries) (sym next.list)
          (looked_past c.loop-turn.invariant.listed c.loop-turn.schedule.ready.items c.in-Some.i (turn_is c.loop-turn.turn c.loop-turn.schedule.ready.items c.in-Some.i c.in-Some.is) c.loop-turn.invariant.left c.index-at.result.now c.index-journals-i.result c.index.result.now c.index-at.ensures c.index-journals-i.is c.index.ensures c.requires.lawful c.in_default-first.ensures);
      last = next.none;
      left = c.loop-turn.invariant.left;
      kept = c.loop-turn.invariant.kept;
    }

pub loop-turn-preserved-then-at-limits : goal.loop-turn-preserved-then-at-limits
loop-turn-preserved-then-at-limits c =
    let next = c.last_of-turn-then-at-limits.ensures in
    record {
      listed = subst (λ r. Listed c.args.topology.now c.args.journals.now c.args.limits.now c.loop-turn.taken.items c.loop-turn.links c.loop-turn.schedule.lacks.items r (c.loop-turn.tries + 1)) (sym next.list)
          (looked_done c.loop-turn.invariant.listed c.loop-turn.schedule.ready.items c.in-Some.i (turn_is c.loop-turn.turn c.loop-turn.schedule.ready.items c.in-Some.i c.in-Some.is) c.loop-turn.invariant.left c.index-at.result.now c.index-journals-i.result c.index.result.now c.index-at.ensures c.index-journals-i.is c.index.ensures c.requires.lawful
          c.in-Some-first.entry (drop 1 c.index.result.now) c.in-Some-first.ensures c.if-at-limits.true);
      last = next.none;
      left = c.loop-turn.invariant.left;
      kept = c.loop-turn.invariant.kept;
    }

pub loop-turn-preserved-in-Some-receive : goal.loop-turn-preserved-in-Some-receive
loop-turn-preserved-in-Some-receive c =
    let next = c.last_of-turn-in-Some-receive.ensures in
    let lacks = set c.loop-turn.schedule.lacks.items c.in-Some.i (Some c.in-Some-receive.from) in
    record {
      listed = subst₂ (λ links r. Listed c.args.topology.now c.args.journals.now c.args.limits.now c.loop-turn.taken.items links lacks r (c.loop-turn.tries + 1)) (sym c.in-Some-receive.ensures.0) (sym next.list)
          (looked_parked c.loop-turn.invariant.listed c.loop-turn.schedule.ready.items c.in-Some.i (turn_is c.loop-turn.turn c.loop-turn.schedule.ready.items c.in-Some.i c.in-Some.is) c.loop-turn.invariant.left c.index-at.result.now c.index-journals-i.result c.index.result.now c.index-at.ensures c.index-journals-i.is c.index.ensures c.requires.lawful
          c.in-Some-first.entry (drop 1 c.index.result.now) c.in-Some-first.ensures c.site-site.result c.in-Some-receive.from c.site-site.ensures c.if-at-limits.false c.in-Some-receive.ensures.1);
      last = next.none;
      left = c.loop-turn.invariant.left;
      kept = c.loop-turn.invariant.kept;
    }

pub loop-turn-preserved : goal.loop-turn-preserved
loop-turn-preserved c =
    let counts = set c.loop-turn.taken.items c.in-Some.i (c.index-at.result.now + 1) in
    let W : List Journal → Type 0 = λ js. Wakes js c.in-Some-first.entry.sent c.loop-turn.schedule.ready.items c.send_all.new.schedule.ready.items c.loop-turn.schedule.lacks.items c.send_all.new.schedule.lacks.items c.site-site.result in
    let woken = subst W c.in_ok-places.ensures c.in_ok-send_all.ensures.wakes in
    record {
      listed = looked_took c.loop-turn.invariant.listed c.loop-turn.schedule.ready.items c.in-Some.i (turn_is c.loop-turn.turn c.loop-turn.schedule.ready.items c.in-Some.i c.in-Some.is) c.loop-turn.invariant.left c.index-at.result.now c.index-journals-i.result c.index.result.now c.index-at.ensures c.index-journals-i.is c.index.ensures c.requires.lawful
          c.in-Some-first.entry (drop 1 c.index.result.now) c.in-Some-first.ensures c.receive.new.links c.send_all.new.links c.send_all.new.schedule.lacks.items c.send_all.new.schedule.ready.items c.site-site.result c.requires.once c.site-site.ensures c.if-at-limits.false c.in_default-receive.ensures c.in_ok-send_all.ensures.sends woken;
      last = tt;
      left = subst (λ rest. AreLeftAt c.args.journals.now counts (set c.loop-turn.walks.items c.in-Some.i rest)) (behind_it c.loop-turn.walks.items c.in-Some.i c.index_mut-in-Some-2.result.now c.index.result.now (let h = place_in c.loop-turn.invariant.listed c.loop-turn.schedule.ready.items c.in-Some.i (turn_is c.loop-turn.turn c.loop-turn.schedule.ready.items c.in-Some.i c.in-Some.is) in let n = c.loop-turn.invariant.left.one_each in omega (arith, h, n)) c.index_mut-in-Some-2.ensures.value c.index.ensures c.in-Some-first.entry c.in-Some-first.ensures c.drop_first.new.self c.drop_first.ensures)
          (took_left c.loop-turn.invariant.listed c.loop-turn.schedule.ready.items c.in-Some.i (turn_is c.loop-turn.turn c.loop-turn.schedule.ready.items c.in-Some.i c.in-Some.is) c.loop-turn.invariant.left c.index-at.result.now c.index-journals-i.result c.index.result.now c.index-at.ensures c.index-journals-i.is c.index.ensures c.requires.lawful
          c.in-Some-first.entry (drop 1 c.index.result.now) c.in-Some-first.ensures c.receive.new.links c.send_all.new.links c.send_all.new.schedule.lacks.items c.send_all.new.schedule.ready.items c.site-site.result c.requires.once c.site-site.ensures c.if-at-limits.false c.in_default-receive.ensures c.in_ok-send_all.ensures.sends woken);
      kept = kept_took c.args.keeps_order c.args.topology.now c.args.journals.now c.loop-turn.taken.items counts c.loop-turn.steps.items c.keep.new.steps.items (record { journal = c.in-Some.i; entry = c.index-at.result.now }) c.in_ok-keep.ensures
          (took_order c.loop-turn.invariant.listed c.loop-turn.schedule.ready.items c.in-Some.i (turn_is c.loop-turn.turn c.loop-turn.schedule.ready.items c.in-Some.i c.in-Some.is) c.loop-turn.invariant.left c.index-at.result.now c.index-journals-i.result c.index.result.now c.index-at.ensures c.index-journals-i.is c.index.ensures c.requires.lawful
          c.in-Some-first.entry (drop 1 c.index.result.now) c.in-Some-first.ensures c.receive.new.links c.send_all.new.links c.send_all.new.schedule.lacks.items c.send_all.new.schedule.ready.items c.site-site.result c.requires.once c.site-site.ensures c.if-at-limits.false c.in_default-receive.ensures c.in_ok-send_all.ensures.sends woken c.loop-turn.steps.items) c.loop-turn.invariant.kept;
    }

pub loop-turn-smaller : goal.loop-turn-smaller
loop-turn-smaller c =
    let W : List Journal → Type 0 = λ js. Wakes js c.in-Some-first.entry.sent c.loop-turn.schedule.ready.items c.send_all.new.schedule.ready.items c.loop-turn.schedule.lacks.items c.send_all.new.schedule.lacks.items c.site-site.result in
    let woken = subst W c.in_ok-places.ensures c.in_ok-send_all.ensures.wakes in
    took_less c.loop-turn.invariant.listed c.loop-turn.schedule.ready.items c.in-Some.i (turn_is c.loop-turn.turn c.loop-turn.schedule.ready.items c.in-Some.i c.in-Some.is) c.loop-turn.invariant.left c.index-at.result.now c.index-journals-i.result c.index.result.now c.index-at.ensures c.index-journals-i.is c.index.ensures c.requires.lawful
    c.in-Some-first.entry (drop 1 c.index.result.now) c.in-Some-first.ensures c.receive.new.links c.send_all.new.links c.send_all.new.schedule.lacks.items c.send_all.new.schedule.ready.items c.site-site.result c.requires.once c.site-site.ensures c.if-at-limits.false c.in_default-receive.ensures c.in_ok-send_all.ensures.sends woken

-- ---- the end

pub returns-clause-stuck : goal.returns-clause-stuck
returns-clause-stuck c =
    let empty = subst (λ turn. IfNone turn (c.loop-turn.schedule.ready.items ≡ [])) c.in_default.is c.loop-turn.invariant.last in
    let none : with_turn c.loop-turn.turn c.loop-turn.schedule.ready.items ≡ [] = ap (λ turn. with_turn turn c.loop-turn.schedule.ready.items) c.in_default.is ∙ empty in
    listed_end c.requires.once c.requires.lawful
    (subst (λ r. Listed c.args.topology.now c.args.journals.now c.args.limits.now c.loop-turn.taken.items c.loop-turn.links c.loop-turn.schedule.lacks.items r c.loop-turn.tries) none c.loop-turn.invariant.listed)

pub returns-clause-tries : goal.returns-clause-tries
returns-clause-tries c = let b = listed_tries c.requires.lawful c.loop-turn.invariant.listed in omega (arith, b)
