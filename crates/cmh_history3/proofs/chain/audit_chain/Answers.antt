use Rattle.std.proofs.Common.{rules, vec_len, ◌≡◌, ◌∙◌, ◌+◌, ◌∷◌, List, arith, drop, get_or, length, refl, subst, sym, take, take_all}
use Rattle.std.proofs.lemmas.Bool.{true≢false}
use Rattle.cmh_controller3.specs.Controller.{Controller}
use Rattle.cmh_merge.specs.Queues.{waiting}
use Rattle.cmh_topology3.specs.Topology.{sites_of}
use Rattle.cmh_segment3.specs.declared.segment.Segment.{Segment}
use Rattle.cmh_history3.specs.EpochSet.{AreOfEpoch}
use Rattle.cmh_history3.specs.Chains.{AreOneRun, IsReadEpoch}
use Rattle.cmh_history3.specs.Findings.{IsApart, IsRefused}
use Rattle.cmh_history3.specs.Follows.{FollowAll}
use Rattle.cmh_history3.specs.Inner.Leading.{LeadOn}
use Rattle.cmh_history3.specs.Says.{SayEnd}
use Rattle.cmh_history3.proofs.Ending.{all_left, next_left}
use Rattle.cmh_history3.proofs.Leading.{ends_here, ends_run, goes_on, later_all, next_there, none_of, of_its_epoch, one_further, one_run, runs_before, some_of}
use Rattle.cmh_history3.proofs.chain.audit_chain.Goals as goal

pub loop-place-init : goal.loop-place-init
loop-place-init g c =
    let split = c.in-Some.ensures.cases.0 in
    let first = c.in-Some._first.now in
    let count : vec_len c.in_ok-ends_of.field-0 ≡ length c.in_ok-ends_of.field-0.items = (search rules) in
    record {
      first = first;
      split = split;
      segments = first;
      there = rw split refl;
      before = tt;
      leads = λ rest h. h;
      judged = all_left c.args.topology.now c.args.epochs.now first c.in-Some.more.now split c.into_iter-ends.ensures.rest (c.into_iter-ends.ensures.len ∙ count) c.in_ok-ends_of.ensures;
    }

pub follows-requires-clause-set : goal.follows-requires-clause-set
follows-requires-clause-set g c =
    let read = IsReadEpoch c.args.topology.now in
    let at = c.loop-place.invariant in
    let next = subst read (sym c.as_slice-next.ensures)
    (later_all read c.args.epochs.now at.first c.in-Some.more.now c.loop-place.place c.index-more-place.result at.split c.loop-place-test.true c.index-more-place.is c.requires) in
    next.set.of_world

pub follows-requires-clause-epoch : goal.follows-requires-clause-epoch
follows-requires-clause-epoch g c =
    let read = IsReadEpoch c.args.topology.now in
    let at = c.loop-place.invariant in
    let next = subst read (sym c.as_slice-next.ensures)
    (later_all read c.args.epochs.now at.first c.in-Some.more.now c.loop-place.place c.index-more-place.result at.split c.loop-place-test.true c.index-more-place.is c.requires) in
    subst (λ e. AreOfEpoch e c.as_slice-next.result.now) (sym c.epoch_of.ensures) (of_its_epoch c.args.topology.now c.as_slice-next.result.now next.set)

pub loop-place-preserved : goal.loop-place-preserved
loop-place-preserved g c =
    let t = c.args.topology.now in
    let at = c.loop-place.invariant in
    let more = c.in-Some.more.now in
    let place = c.loop-place.place in
    let next = c.as_slice-next.result.now in
    let cs = c.in-Some-next_end.end.controllers.items in
    let queues = c.in-Some-next_end.end.under_way in
    let found = c.next_end.ensures t at.segments (drop place more) at.judged in
    let end = some_of _ c.next_end.result c.in-Some-next_end.end c.in-Some-next_end.is found.0.ends in
    let follow = subst (λ e. FollowAll t cs queues e next) c.epoch_of.ensures
    (subst (λ (l : List Controller). FollowAll t l queues c.epoch_of.result next) c.deref.ensures.value (c.in_ok-follows.ensures.follow c.if-not-branch.false)) in
    let is = subst (λ (g : List Segment). g ≡ get_or more place g) (sym c.as_slice-next.ensures) c.index-more-place.is in
    let on = goes_on t at.segments next cs queues c.turn_law.ensures end (follow at.segments end) in
    let all = ends_here t at.first (take place more) at.segments at.leads (ends_run t at.segments cs queues end) in
    let lt = c.loop-place-test.true in
    record {
      first = at.first;
      split = at.split;
      segments = next;
      there = rw at.split (next_there at.first next more place lt is);
      before = rw at.split (runs_before t at.first more place (one_run t at.first (take place more) c.chain_law.ensures.chain all));
      leads = one_further t at.first at.segments next more place lt is on at.leads;
      judged = next_left t next more place lt is found.1;
    }

pub returns-in_default-next_end : goal.returns-in_default-next_end
returns-in_default-next_end g c =
    let t = c.args.topology.now in
    let at = c.loop-place.invariant in
    record {
      segments = at.segments;
      there = at.there;
      before = at.before;
      none = none_of _ c.next_end.result c.in_default-next_end.is (c.next_end.ensures t at.segments (drop c.loop-place.place c.in-Some.more.now) at.judged).0.none;
    }

pub returns-then-not-branch : goal.returns-then-not-branch
returns-then-not-branch g c =
    let t = c.args.topology.now in
    let at = c.loop-place.invariant in
    let place = c.loop-place.place in
    let more = c.in-Some.more.now in
    let next = c.as_slice-next.result.now in
    let cs = c.in-Some-next_end.end.controllers.items in
    let queues = c.in-Some-next_end.end.under_way in
    let found = c.next_end.ensures t at.segments (drop place more) at.judged in
    let end = some_of _ c.next_end.result c.in-Some-next_end.end c.in-Some-next_end.is found.0.ends in
    let is = subst (λ (g : List Segment). g ≡ get_or more place g) (sym c.as_slice-next.ensures) c.index-more-place.is in
    let all = ends_here t at.first (take place more) at.segments at.leads (ends_run t at.segments cs queues end) in
    record {
      front = place;
      is_next = refl;
      segments = at.segments;
      last = at.there;
      next = next;
      there = rw at.split (next_there at.first next more place c.loop-place-test.true is);
      before = rw at.split (runs_before t at.first more place (one_run t at.first (take place more) c.chain_law.ensures.chain all));
      controllers = cs;
      queues = queues;
      end = end;
      unsaid = λ said.
          let of_epoch = subst (λ e. SayEnd (sites_of t) cs (waiting queues) e next) (sym c.epoch_of.ensures) said in
          let of_those = subst (λ (l : List Controller). SayEnd (sites_of t) l (waiting queues) c.epoch_of.result next) (sym c.deref.ensures.value) of_epoch in
          true≢false (sym (c.in_ok-follows.ensures.says.1 of_those) ∙ c.if-not-branch.true);
    }

pub returns-in_default-next_end-2 : goal.returns-in_default-next_end-2
returns-in_default-next_end-2 g c =
    let t = c.args.topology.now in
    let at = c.loop-place.invariant in
    let more = c.in-Some.more.now in
    let end = c.loop-place.auto.place-end in
    let past = c.loop-place-test.false in
    let last : c.loop-place.place ≡ length more = omega (arith, end, past) in
    subst (λ k. IsRefused t c.args.epochs.now k) last (record {
      segments = at.segments;
      there = at.there;
      before = at.before;
      none = none_of _ c.next_end-2.result c.in_default-next_end-2.is (c.next_end-2.ensures t at.segments (drop c.loop-place.place more) at.judged).0.none;
    })

pub returns : goal.returns
returns g c =
    let t = c.args.topology.now in
    let at = c.loop-place.invariant in
    let more = c.in-Some.more.now in
    let found = c.next_end-2.ensures t at.segments (drop c.loop-place.place more) at.judged in
    let end = some_of _ c.next_end-2.result c.in-Some-next_end-2._end c.in-Some-next_end-2.is found.0.ends in
    let last = ends_run t at.segments c.in-Some-next_end-2._end.controllers.items c.in-Some-next_end-2._end.under_way end in
    let all = subst (λ (l : List (List Segment)). LeadOn t at.first l) (take_all c.loop-place.place more c.loop-place-test.false) (ends_here t at.first (take c.loop-place.place more) at.segments at.leads last) in
    subst (AreOneRun t) (sym at.split) (one_run t at.first more c.chain_law.ensures.chain all)
