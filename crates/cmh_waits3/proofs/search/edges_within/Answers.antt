use Rattle.std.proofs.Common.{ℕ, List, sym, subst, arith}
use Rattle.std.specs.List.Sorted.{IsStrictlyIncreasing}
use Rattle.cmh_waits3.specs.Inner.Steps.{has_place}
use Rattle.cmh_waits3.proofs.Counting.{count_without}
use Rattle.cmh_waits3.proofs.Edges.{AreEdgesWithout, still_marked, without_begin, without_end, without_more}
use Rattle.cmh_waits3.proofs.search.edges_within.Goals as goal

pub loop-place-init : goal.loop-place-init
loop-place-init c =
    let marked = c.args.reached.words in
    subst (λ (es : List (ℕ × ℕ)). AreEdgesWithout c.args.waits.now c.args.stamp c.args.origin marked c.in_words-left.result.words es) (sym c.in_ok-edges.ensures.items) (without_begin c.args.waits.now c.args.stamp c.args.origin marked c.in_words-left.result.words c.in_words-left.ensures)

pub in_words-left-requires : goal.in_words-left-requires
in_words-left-requires c = λ small k h.
    let few = c.requires.small small in
    let inside = c.requires.inside k h in
    omega (arith, few, inside)

pub push_edges-requires : goal.push_edges-requires
push_edges-requires c = c.requires.inside c.in-Some.place (still_marked c.args.waits.now c.args.stamp c.args.origin c.args.reached.words c.loop-place.left.words c.loop-place.edges.items c.loop-place.invariant c.in-Some.place c.in-Some.ensures.some.1)

pub loop-place-preserved : goal.loop-place-preserved
loop-place-preserved c =
    let v = c.args.waits.now in
    let n = c.args.stamp in
    let i = c.args.origin in
    let marked = c.args.reached.words in
    let left = c.loop-place.left.words in
    let place = c.in-Some.place in
    let set = c.in-Some.ensures.some.1 in
    let up = subst IsStrictlyIncreasing c.members.ensures.value c.members.ensures.ascending in
    let inside = c.requires.inside place (still_marked v n i marked left c.loop-place.edges.items c.loop-place.invariant place set) in
    let more = c.in_ok-push_edges.ensures in
    subst (λ (es : List (ℕ × ℕ)). AreEdgesWithout v n i marked c.without-left.result.words es) (sym more.1)
    (without_more v n i marked left c.loop-place.edges.items c.loop-place.invariant up place inside set c.in-Some.ensures.least c.without-left.result.words c.without-left.ensures more.0 more.2)

pub loop-place-smaller : goal.loop-place-smaller
loop-place-smaller c =
    let less = count_without (has_place c.loop-place.left.words) (has_place c.without-left.result.words) c.in-Some.place 256 c.in-Some.ensures.some.0 c.in-Some.ensures.some.1 c.without-left.ensures in
    omega (arith, less)

pub returns : goal.returns
returns c = without_end c.args.waits.now c.args.stamp c.args.origin c.args.reached.words c.loop-place.left.words c.loop-place.edges.items c.loop-place.invariant c.requires.inside c.in_default.ensures.some
