use Rattle.std.proofs.Common.{List, Vec, Option, None, Some, ap, sym, ◌∙◌, append-nil, ℕ}
use Rattle.std.specs.Global.{Global}
use Rattle.cmh_audit3.specs.declared.stops.Stop.{Stop}
use Rattle.cmh_audit3.specs.Inner.Survey.{stop_at}
use Rattle.cmh_audit3.proofs.Places.{lefts_in, stops_grow}
use Rattle.cmh_audit3.proofs.stops.stops_of.Goals as goal
use Rattle.cmh_audit3.proofs.stops.stops_of.Goals.{in-Some+in_ok-push, in_default}

pub loop-site-preserved : goal.loop-site-preserved
loop-site-preserved c =
    let items_of : Vec Stop Global → List Stop = λ v. v.items in
    let f : ℕ → Option Stop = stop_at c.args.segments.now c.args.limits.now (lefts_in c.args.walks.now) in
    let old = c.loop-site.stops.items in
    elim c.match-stop_at.branch [
      | in-Some+in_ok-push w ↦ ap items_of w.stops-is ∙ w.in_ok-push.ensures.items ∙ stops_grow f c.args.sites.now c.loop-site.site-index c.site-item.result old (Some w.in-Some.stop) c.loop-site-test.true c.site-item.is w.in-Some.ensures c.loop-site.invariant
      | in_default w ↦ ap items_of w.stops-is ∙ sym (append-nil old) ∙ stops_grow f c.args.sites.now c.loop-site.site-index c.site-item.result old None c.loop-site-test.true c.site-item.is w.in_default.ensures c.loop-site.invariant
    ]
