use Rattle.std.proofs.Common.{◌≡◌, ◌<◌, ◌+◌, ℕ, List, [], length, set, sym, ap, subst, ◌∙◌, arith}
use Rattle.std.proofs.lemmas.Bool.{MatchBool-at_true, MatchBool-at_false}
use Rattle.std.proofs.lemmas.List.{get_or_read}
use Rattle.cmh_files.specs.Inner.Steps.{Goes, LacksSome, nowhere}
use Rattle.cmh_files.specs.declared.walk.Walk.{Walk}
use Rattle.cmh_files.proofs.CommonStops.{SoFar, less_left, none_left, rises, walk_in}
use Rattle.cmh_files.proofs.lowest.lowest_stop.Goals as goal

pub returns-then-not-branch : goal.returns-then-not-branch
returns-then-not-branch c =
    let walks = c.loop-sender.walks.items in
    let lacks : (c.in-Some.sender < length walks) × LacksSome walks c.in-Some.sender = subst (λ (ws : List Walk). (c.in-Some.sender < length ws) × LacksSome ws c.in-Some.sender) c.deref.ensures.value c.in-Some.ensures in
    let here = get_or_read walks c.in-Some.sender c.index_mut.result.now lacks.0 c.index_mut.ensures.value nowhere in
    let ended = MatchBool-at_false (Goes c.index_mut.result.now c.step.new.self) ((c.index_mut.result.now.left ≡ []) × (c.step.new.self ≡ c.index_mut.result.now)) c.if-not-branch.true c.in_ok-step.ensures in
    none_left c.args.first.now c.args.journals.now c.loop-sender.stop.items walks c.loop-sender.invariant c.in-Some.sender lacks.0 lacks.1
    (ap (λ (w : Walk). w.left) (sym here) ∙ ended.0)

pub overflow_add-index_mut : goal.overflow_add-index_mut
overflow_add-index_mut c =
    let walks = c.loop-sender.walks.items in
    let lacks : (c.in-Some.sender < length walks) × LacksSome walks c.in-Some.sender = subst (λ (ws : List Walk). (c.in-Some.sender < length ws) × LacksSome ws c.in-Some.sender) c.deref.ensures.value c.in-Some.ensures in
    let s = c.loop-sender.invariant in
    let inside = walk_in c.args.journals.now c.loop-sender.stop.items walks s.at c.in-Some.sender lacks.0 in
    let in_stop : c.in-Some.sender < length c.loop-sender.stop.items = let e = s.at.lengths in omega arith in
    let here = get_or_read c.loop-sender.stop.items c.in-Some.sender c.index_mut-in-Some.result.now in_stop c.index_mut-in-Some.ensures.value 0 in
    let at = s.at.at c.in-Some.sender inside in
    let within = at.within in
    let limited = at.limited in
    omega (arith, here, within, limited)

pub loop-sender-smaller : goal.loop-sender-smaller
loop-sender-smaller c =
    let walks = c.loop-sender.walks.items in
    let lacks : (c.in-Some.sender < length walks) × LacksSome walks c.in-Some.sender = subst (λ (ws : List Walk). (c.in-Some.sender < length ws) × LacksSome ws c.in-Some.sender) c.deref.ensures.value c.in-Some.ensures in
    let here = get_or_read walks c.in-Some.sender c.index_mut.result.now lacks.0 c.index_mut.ensures.value nowhere in
    let went = MatchBool-at_true (Goes c.index_mut.result.now c.step.new.self) ((c.index_mut.result.now.left ≡ []) × (c.step.new.self ≡ c.index_mut.result.now)) c.if-not-branch.false c.in_ok-step.ensures in
    less_left walks c.in-Some.sender c.step.new.self lacks.0 (subst (λ (w : Walk). Goes w c.step.new.self) here went)

pub loop-sender-preserved : goal.loop-sender-preserved
loop-sender-preserved c =
    let walks = c.loop-sender.walks.items in
    let stop = c.loop-sender.stop.items in
    let lacks : (c.in-Some.sender < length walks) × LacksSome walks c.in-Some.sender = subst (λ (ws : List Walk). (c.in-Some.sender < length ws) × LacksSome ws c.in-Some.sender) c.deref.ensures.value c.in-Some.ensures in
    let s = c.loop-sender.invariant in
    let inside = walk_in c.args.journals.now stop walks s.at c.in-Some.sender lacks.0 in
    let in_stop : c.in-Some.sender < length stop = let e = s.at.lengths in omega arith in
    let now = get_or_read stop c.in-Some.sender c.index_mut-in-Some.result.now in_stop c.index_mut-in-Some.ensures.value 0 in
    let here = get_or_read walks c.in-Some.sender c.index_mut.result.now lacks.0 c.index_mut.ensures.value nowhere in
    let went = MatchBool-at_true (Goes c.index_mut.result.now c.step.new.self) ((c.index_mut.result.now.left ≡ []) × (c.step.new.self ≡ c.index_mut.result.now)) c.if-not-branch.false c.in_ok-step.ensures in
    subst (λ (n : ℕ). SoFar c.args.first.now c.args.journals.now (set stop c.in-Some.sender (n + 1)) (set walks c.in-Some.sender c.step.new.self)) (sym now)
    (rises c.args.first.now c.args.journals.now stop walks s c.in-Some.sender c.step.new.self lacks.0 lacks.1 (subst (λ (w : Walk). Goes w c.step.new.self) here went))
