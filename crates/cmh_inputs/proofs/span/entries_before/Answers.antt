use Rattle.std.proofs.Common.{◌≡◌, ◌+◌, ◌∷◌, List, length, drop, sym, ap, ◌∙◌, arith}
use Rattle.std.proofs.lemmas.List.{drop_all, drop_more}
use Rattle.cmh_audit3.specs.Stops.{before_stop}
use Rattle.cmh_audit3.specs.declared.stops.Stop.{Stop}
use Rattle.cmh_inputs.proofs.Sites.{stops_here, stops_later}
use Rattle.cmh_inputs.proofs.span.entries_before.Goals as goal

pub returns-then-eq : goal.returns-then-eq
returns-then-eq c =
    let i = c.loop-stop.stop-index in
    let stops = c.args.stops.now in
    let stop = c.stop-item.result in
    let s = c.args.segment.now.header.site in
    let es = c.args.segment.now.entries in
    let left : drop i stops ≡ stop ∷ drop (i + 1) stops = drop_more stops i stop c.loop-stop-test.true ∙ ap (λ (x : Stop). x ∷ drop (i + 1) stops) (sym c.stop-item.is) in
    let here = stops_here stop (drop (i + 1) stops) s es (sym c.eq.ensures ∙ c.if-eq.true) in
    let so_far = ap length (ap (λ (l : List Stop). before_stop l s es) (sym left) ∙ c.loop-stop.invariant) in
    let least = c.min.ensures in
    let before = c.saturating_sub.ensures in
    let all = ap length c.as_slice-all.ensures in
    omega (arith, here, so_far, least, before, all)

pub loop-stop-preserved : goal.loop-stop-preserved
loop-stop-preserved c =
    let i = c.loop-stop.stop-index in
    let stops = c.args.stops.now in
    let stop = c.stop-item.result in
    let s = c.args.segment.now.header.site in
    let es = c.args.segment.now.entries in
    let left : drop i stops ≡ stop ∷ drop (i + 1) stops = drop_more stops i stop c.loop-stop-test.true ∙ ap (λ (x : Stop). x ∷ drop (i + 1) stops) (sym c.stop-item.is) in
    sym (stops_later stop (drop (i + 1) stops) s es (sym c.eq.ensures ∙ c.if-eq.false)) ∙ ap (λ (l : List Stop). before_stop l s es) (sym left) ∙ c.loop-stop.invariant

pub returns : goal.returns
returns c =
    let stops = c.args.stops.now in
    let s = c.args.segment.now.header.site in
    let es = c.args.segment.now.entries in
    ap length c.as_slice-all.ensures ∙ ap (λ (l : List Stop). length (before_stop l s es)) (sym (drop_all c.loop-stop.stop-index stops c.loop-stop-test.false)) ∙ ap length c.loop-stop.invariant
