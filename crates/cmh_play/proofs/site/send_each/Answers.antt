use Rattle.std.proofs.Common.{◌&&◌, ◌∷◌, [], ◌++◌, ◌==◌, take, sym, ap, ◌∙◌}
use Rattle.std.specs.Prelude.{if◌then◌else◌}
use Rattle.std.proofs.lemmas.List.{take_all, take_more}
use Rattle.cmh_play.specs.Links.{with_last, link_after}
use Rattle.cmh_play.proofs.Sendings.{link_after-none, link_after-more}
use Rattle.cmh_play.proofs.site.send_each.Goals as goal

pub loop-to-init : goal.loop-to-init
loop-to-init c = λ a b. link_after-none c.args.links.now c.args.from a b

pub loop-to-preserved : goal.loop-to-preserved
loop-to-preserved c = λ a b.
    let s = c.args.from in
    let to = c.loop-to-item.result.0 in
    let frame = c.loop-to-item.result.1 in
    let before = c.loop-to.invariant in
    c.in_ok-send.ensures.ok a b
    ∙ (λ i. if (s == a) && (to == b) then with_last (before s to i) frame else before a b i)
    ∙ link_after-more c.args.links.now s (take c.loop-to.to-index c.args.sent.now) to frame a b
    ∙ ap (λ xs. link_after c.args.links.now s xs a b)
    (ap (λ x. take c.loop-to.to-index c.args.sent.now ++ x ∷ []) c.loop-to-item.is ∙ sym (take_more c.args.sent.now c.loop-to.to-index c.loop-to-item.result c.loop-to-test.true))

pub returns : goal.returns
returns c = λ a b. c.loop-to.invariant a b ∙ ap (λ xs. link_after c.args.links.now c.args.from xs a b) (take_all _ _ c.loop-to-test.false)
