use Rattle.std.proofs.Common.{◌≡◌, ◌≢◌, ℕ, Option, Some, None, Bool, slice_get, refl, sym, ap, subst, ◌∙◌, ◌++◌}
use Rattle.std.specs.Prelude.{MatchBool}
use Rattle.cmh_merge.specs.Queues.{if_some_at, waiting}
use Rattle.cmh_merge.proofs.Takings.{stuck_at, takes_got, takes_own}
use Rattle.cmh_merge.proofs.taking.receive_next.Goals as goal

some_is : {X : Type 0} (o : Option X) (x y : X) → o ≡ Some x → o ≡ Some y → x ≡ y
some_is o x y p q = let h : Some x ≡ Some y = sym p ∙ q in cc

none_is : {X : Type 0} (o : Option X) (x : X) → o ≡ None → o ≡ Some x → ⊥
none_is o x p q = let h : None ≡ Some x = sym p ∙ q in cc

pub returns-then-not-got_this : goal.returns-then-not-got_this
returns-then-not-got_this g c =
    let n = c.in-Got.ensures in
    let answer = c.got_this.ensures n.0 n.1 n.2 n.3 n.4 in
    let other : n.2 ≢ c.in-Some.frame = subst (λ (r : Bool). MatchBool r (n.2 ≡ c.in-Some.frame) (n.2 ≢ c.in-Some.frame)) c.if-not-got_this.true answer in (
      stuck_at g.W.Walk.got c.args.site (g.W.Walk.left c.args.walk.now) c.args.queues.now n.0 n.1 c.in-Got.from n.2 n.3 n.4
          (λ h. other (some_is (slice_get (waiting c.args.queues.now c.in-Got.from c.args.site) 0) n.2 c.in-Some.frame h (sym c.front.ensures ∙ c.in-Some.is))),
      refl,
    )

pub returns-in-Own : goal.returns-in-Own
returns-in-Own g c = let n = c.in-Own.ensures in takes_own g.W.Walk.got c.args.site (g.W.Walk.left c.args.walk.now) c.args.queues.now n.0 n.1 n.2 n.3

pub returns-in-None : goal.returns-in-None
returns-in-None g c =
    let n = c.in-Got.ensures in (
      stuck_at g.W.Walk.got c.args.site (g.W.Walk.left c.args.walk.now) c.args.queues.now n.0 n.1 c.in-Got.from n.2 n.3 n.4
          (λ h. none_is (slice_get (waiting c.args.queues.now c.in-Got.from c.args.site) 0) n.2 (sym c.front.ensures ∙ c.in-None.is) h),
      refl,
    )

pub returns-else-not-got_this : goal.returns-else-not-got_this
returns-else-not-got_this g c =
    let n = c.in-Got.ensures in
    let answer = c.got_this.ensures n.0 n.1 n.2 n.3 n.4 in
    let same : n.2 ≡ c.in-Some.frame = subst (λ (r : Bool). MatchBool r (n.2 ≡ c.in-Some.frame) (n.2 ≢ c.in-Some.frame)) c.if-not-got_this.false answer in
    let first : c.receive.result ≡ Some n.2 = c.receive.ensures.first ∙ sym c.front.ensures ∙ c.in-Some.is ∙ ap (λ f. Some f) (sym same) in
    takes_got g.W.Walk.got c.args.site (g.W.Walk.left c.args.walk.now) c.args.queues.now n.0 n.1 c.in-Got.from n.2 c.receive.new.self n.3 n.4
    (subst (λ o. (a b : ℕ) → waiting c.args.queues.now a b ≡ if_some_at c.in-Got.from c.args.site o a b ++ waiting c.receive.new.self a b) first c.receive.ensures.moved)
