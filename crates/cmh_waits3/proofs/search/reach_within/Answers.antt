use Rattle.std.proofs.Common.{◌∙◌, get_or, length, nat_lt, refl, sym, subst, arith}
use Rattle.std.proofs.lemmas.Bool.{and_parts, eqb-true, ltb-true}
use Rattle.cmh_model3.specs.State.{counts}
use Rattle.cmh_waits3.specs.Held.{state_of}
use Rattle.std.specs.List.Sorted.{IsStrictlyIncreasing}
use Rattle.cmh_waits3.proofs.Lists.{at_in}
use Rattle.cmh_waits3.proofs.Searching.{awaited_ends, begin_search, effort_less, search_ends, search_on}
use Rattle.cmh_waits3.proofs.search.reach_within.Goals as goal

pub in_words-reached-requires : goal.in_words-reached-requires
in_words-reached-requires c = λ small k h.
    let few = c.requires.small small in
    let inside = c.requires.start in
    let is = eqb-true k c.args.start (sym (c.only.ensures k) ∙ h) in
    omega (arith, few, inside, is)

pub in_words-led-requires : goal.in_words-led-requires
in_words-led-requires c = λ small k h.
    let few = c.requires.small small in
    let v = c.args.waits.now in
    let step = sym (c.led_to.ensures k) ∙ h in
    let below = ltb-true k (length v.members) (and_parts (nat_lt k (length v.members)) (counts (state_of v) c.args.stamp c.args.origin (get_or v.members c.in-Some.place 0) (get_or v.members k 0)) step).0 in
    omega (arith, few, below)

pub loop-place-init : goal.loop-place-init
loop-place-init c =
    let v = c.args.waits.now in
    let up = subst IsStrictlyIncreasing c.members.ensures.value c.members.ensures.ascending in
    begin_search v c.args.stamp c.args.origin (get_or v.members c.args.start 0) c.args.start c.in_words-reached.result.words c.empty-awaited.result.words up c.requires.start refl
    (λ k. c.in_words-reached.ensures k ∙ c.only.ensures k) c.empty-awaited.ensures

pub loop-place-preserved : goal.loop-place-preserved
loop-place-preserved c =
    let v = c.args.waits.now in
    search_on v c.args.stamp c.args.origin (get_or v.members c.args.start 0) c.loop-place.reached.words c.loop-place.work.words c.loop-place.awaited.words c.in-Some.place
    c.in_words-led.result.words c.beyond-fresh.result.words c.without.result.words c.either-work.result.words c.either-reached.result.words c.either-awaited.result.words
    c.loop-place.invariant c.in-Some.ensures.some.0 c.in-Some.ensures.some.1 (λ k. c.in_words-led.ensures k ∙ c.led_to.ensures k) c.beyond-fresh.ensures c.without.ensures c.either-work.ensures c.either-reached.ensures c.either-awaited.ensures

pub loop-place-smaller : goal.loop-place-smaller
loop-place-smaller c =
    let v = c.args.waits.now in
    effort_less v c.args.stamp c.args.origin (get_or v.members c.args.start 0) c.loop-place.reached.words c.loop-place.work.words c.loop-place.awaited.words c.in-Some.place
    c.in_words-led.result.words c.beyond-fresh.result.words c.without.result.words c.either-work.result.words c.either-reached.result.words c.either-awaited.result.words
    c.loop-place.invariant c.in-Some.ensures.some.0 c.in-Some.ensures.some.1 (λ k. c.in_words-led.ensures k ∙ c.led_to.ensures k) c.beyond-fresh.ensures c.without.ensures c.either-work.ensures c.either-reached.ensures c.either-awaited.ensures

pub returns-clause-reached : goal.returns-clause-reached
returns-clause-reached c =
    let v = c.args.waits.now in
    let from = get_or v.members c.args.start 0 in
    let up = subst IsStrictlyIncreasing c.members.ensures.value c.members.ensures.ascending in
    search_ends v c.args.stamp c.args.origin from c.loop-place.reached.words c.loop-place.work.words c.loop-place.awaited.words c.loop-place.invariant c.in_default.ensures.some up (at_in v.members c.args.start from c.requires.start refl)

pub returns-clause-awaited : goal.returns-clause-awaited
returns-clause-awaited c =
    let v = c.args.waits.now in
    awaited_ends v c.args.stamp c.args.origin (get_or v.members c.args.start 0) c.loop-place.reached.words c.loop-place.work.words c.loop-place.awaited.words c.loop-place.invariant c.in_default.ensures.some
