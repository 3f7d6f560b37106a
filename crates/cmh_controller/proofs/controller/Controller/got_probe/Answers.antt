use Rattle.std.proofs.Common.{ℕ, true, refl, ◌≡◌, ◌++◌, IsSome, List, None, map, sym, subst, ◌∙◌, ap}
use Rattle.std.specs.List.{AllByRecursion}
use Rattle.cmh_frames.specs.declared.frame.Frame.{Frame}
use Rattle.cmh_frames.specs.declared.frame.Frame.TheVariants.{Probe}
use Rattle.cmh_frames.specs.Topology.{At, home}
use Rattle.cmh_frames.specs.declared.event.Event.TheVariants.{Got}
use Rattle.cmh_frames.specs.Rules.{Sends}
use Rattle.cmh_controller.specs.declared.prepared.Prepared.{Prepared}
use Rattle.cmh_controller.specs.Controller.{Controller, state_of}
use Rattle.cmh_controller.specs.Steps.{CanTake, Prepares}
use Rattle.cmh_controller.specs.Destinations.{addressed, receiver_of}
use Rattle.cmh_controller.proofs.OfSite.{member_here}
use Rattle.cmh_controller.proofs.Probing.{receivers_known, receipt_declared, receipt_forward}
use Rattle.cmh_controller.proofs.TakingBack.{IsBack, probe_back, probe_stands}
use Rattle.cmh_controller.proofs.controller.Controller.got_probe.Goals as goal

-- what is prepared for a probe is so for one that is equal
for_probe : (old : Controller) (a : ℕ) (prepared : Prepared) (new : Controller) (x y : ℕ × ℕ × ℕ) → x ≡ y → Prepares old (Got a (Probe x)) prepared new → Prepares old (Got a (Probe y)) prepared new
for_probe old a prepared new x y same is = subst (λ (z : ℕ × ℕ × ℕ). Prepares old (Got a (Probe z)) prepared new) same is

pub on_probe-requires : goal.on_probe-requires
on_probe-requires c =
    let p = c.probe.inside in
    let accepted = subst (λ (x : ℕ × ℕ × ℕ). CanTake c.args.self.now (Got c.args.sender (Probe x))) (sym c.probe.view_is) c.requires.accepted in
    let here = subst (λ (v : Controller). At v.topology p.to v.site) (sym c.self.view_is) accepted.2 in
    member_here c.self.inside.topology c.self.inside.site c.self.inside.waits p.to c.self.invariant here

pub send_each-requires : goal.send_each-requires
send_each-requires c =
    let p = c.probe.inside in
    let verdict = rw c.in-Forward.is at c.in_ok-on_probe.ensures in
    subst (λ (fs : List Frame). AllByRecursion (λ frame. IsSome (home c.self.inside.topology (receiver_of frame))) fs) (sym c.deref.ensures.value)
    (receivers_known c.self.inside.topology c.self.inside.site c.self.inside.waits c.self.invariant p.origin p.to c.in-Forward.frames.items verdict.2)

pub returns-in_ok-found-in-Declared-clause-ok : goal.returns-in_ok-found-in-Declared-clause-ok
returns-in_ok-found-in-Declared-clause-ok c =
    let p = c.probe.inside in
    let accepted = subst (λ (x : ℕ × ℕ × ℕ). CanTake c.args.self.now (Got c.args.sender (Probe x))) (sym c.probe.view_is) c.requires.accepted in
    let inside = c.self.inside in
    let old = c.args.self.now in
    let found = c.in_ok-found-in-Declared.found in
    let verdict = rw c.in-Declared.is at c.in_ok-on_probe.ensures in
    let ensures = c.in_ok-found-in-Declared.ensures in
    for_probe _ _ _ _ _ _ c.probe.view_is (record {
      accepted = accepted;
      sends =
          subst (λ (v : Controller). Sends v.topology v.site v.state (Got c.args.sender (Probe (p.origin, p.from, p.to))) c.new.result found) c.self.view_is
          (receipt_declared inside.topology inside.site inside.waits c.self.invariant inside.dependents inside.declared c.args.sender p.origin p.from p.to _ _ verdict.0 verdict.2 (c.new.ensures ∙ c.requires.spare) ensures.new);
      stands = probe_stands inside.topology inside.site inside.waits inside.dependents _ inside.declared _ old c.args.sender p.origin p.from p.to found c.self.view_is verdict.0 ensures.dependents ensures.declared;
      back = subst (λ (v : Controller). IsBack v (Got c.args.sender (Probe (p.origin, p.from, p.to))) true found) c.self.view_is
          (probe_back inside.topology inside.site (state_of inside.waits inside.dependents inside.declared) c.args.sender p.origin p.from p.to found verdict.0 ensures.back);
    })

pub returns-in_ok-add-in-Forward-clause-ok : goal.returns-in_ok-add-in-Forward-clause-ok
returns-in_ok-add-in-Forward-clause-ok c =
    let p = c.probe.inside in
    let accepted = subst (λ (x : ℕ × ℕ × ℕ). CanTake c.args.self.now (Got c.args.sender (Probe x))) (sym c.probe.view_is) c.requires.accepted in
    let inside = c.self.inside in
    let old = c.args.self.now in
    let verdict = rw c.in-Forward.is at c.in_ok-on_probe.ensures in
    let added = subst (λ (fs : List Frame). c.send_each.new.sent.items ≡ c.args.spare.items ++ map (addressed inside.topology) fs) c.deref.ensures.value c.in_ok-send_each-in-Forward.ensures in
    let sent = c.new-in-Forward.ensures ∙ added ∙ ap (λ fs. fs ++ map (addressed inside.topology) c.in-Forward.frames.items) c.requires.spare in
    for_probe _ _ _ _ _ _ c.probe.view_is (record {
      accepted = accepted;
      sends =
          subst (λ (v : Controller). Sends v.topology v.site v.state (Got c.args.sender (Probe (p.origin, p.from, p.to))) c.new-in-Forward.result None) c.self.view_is
          (receipt_forward inside.topology inside.site inside.waits c.self.invariant inside.dependents inside.declared c.args.sender p.origin p.from p.to c.in-Forward.frames.items _ verdict.0 verdict.1 verdict.2 sent);
      stands = probe_stands inside.topology inside.site inside.waits inside.dependents _ inside.declared _ old c.args.sender p.origin p.from p.to None c.self.view_is verdict.0 c.in_ok-add-in-Forward.ensures.ok refl;
      back = subst (λ (v : Controller). IsBack v (Got c.args.sender (Probe (p.origin, p.from, p.to))) true None) c.self.view_is
          (probe_back inside.topology inside.site (state_of inside.waits inside.dependents inside.declared) c.args.sender p.origin p.from p.to None verdict.0 refl);
    })
