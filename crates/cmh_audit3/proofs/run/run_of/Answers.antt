use Rattle.std.proofs.Common.{◌<◌, ◌≤◌, ◌+◌, ◌++◌, ◌∷◌, [], List, ℕ, Vec, length, get_or, ap, sym, ◌∙◌, subst}
use Rattle.std.specs.Global.{Global}
use Rattle.cmh_model3.specs.Entries.{Entry, WorldEvent}
use Rattle.cmh_audit3.proofs.Runs.{Gone, all_gone, begins_gone, goes_on, some_left}
use Rattle.cmh_audit3.proofs.run.run_of.Goals as goal
use Rattle.cmh_audit3.proofs.run.run_of.Goals.{in-Some+in_ok-push, in_default}

pub loop-site-init : goal.loop-site-init
loop-site-init c =
    subst (λ (run : List WorldEvent). Gone c.args.segments.items c.args.order.now 0 c.in_ok-queues.queues run) (sym c.new-run.ensures.items)
    (begins_gone c.args.segments.items c.args.order.now c.in_ok-queues.queues c.in_ok-queues.ensures)

pub returns-clause-run : goal.returns-clause-run
returns-clause-run c t o =
    let past = subst (λ (l : List ℕ). length l ≤ c.loop-site.site-index) c.as_slice-sites.ensures c.loop-site-test.false in
    (all_gone c.args.segments.items c.args.order.now c.loop-site.site-index c.loop-site.queues c.loop-site.run.items past c.loop-site.invariant t o).0

pub returns-clause-journals : goal.returns-clause-journals
returns-clause-journals c t o =
    let past = subst (λ (l : List ℕ). length l ≤ c.loop-site.site-index) c.as_slice-sites.ensures c.loop-site-test.false in
    (all_gone c.args.segments.items c.args.order.now c.loop-site.site-index c.loop-site.queues c.loop-site.run.items past c.loop-site.invariant t o).1

pub loop-site-preserved : goal.loop-site-preserved
loop-site-preserved c =
    let gs = c.args.segments.items in
    let order = c.args.order.now in
    let i = c.loop-site.site-index in
    let site = c.site-item.result in
    let old = c.loop-site.queues in
    let new = c.take.new.self in
    let run = c.loop-site.run.items in
    let items_of : Vec WorldEvent Global → List WorldEvent = λ v. v.items in
    let within = subst (λ (l : List ℕ). i < length l) c.as_slice-sites.ensures c.loop-site-test.true in
    let is = c.site-item.is ∙ ap (λ (l : List ℕ). get_or l i site) c.as_slice-sites.ensures in
    elim c.match-take.branch [
      | in-Some+in_ok-push w ↦
          subst (λ (r : List WorldEvent). Gone gs order (i + 1) new r)
          (sym (ap items_of w.run-is ∙ w.in_ok-push.ensures.items ∙ ap (λ (e : Entry). run ++ record { site = site; entry = e } ∷ []) w.into_step.ensures))
          (goes_on gs order i site old new run within is c.loop-site.invariant w.in-Some.entry w.in-Some.ensures.moved)
      | in_default w ↦
          subst (λ (r : List WorldEvent). Gone gs order (i + 1) new r) (sym (ap items_of w.run-is))
          (some_left gs order i site old new run within is c.loop-site.invariant w.in_default.ensures.first)
    ]
