use Rattle.std.proofs.Common.{◌≡◌, ℕ, true, false, List, IsSome, None, refl, sym, subst, ◌∙◌, ap}
use Rattle.cmh_frames.specs.Edition.{starts_at_ask}
use Rattle.cmh_frames.specs.Topology.{Topology, home}
use Rattle.cmh_frames.specs.declared.event.Event.TheVariants.{Ask}
use Rattle.cmh_frames.specs.Rules.{AreTargets, Sends}
use Rattle.cmh_frames.specs.Relation.{has, has_some}
use Rattle.cmh_frames.proofs.Members.{none_is_asker}
use Rattle.cmh_waits.specs.Held.{Held, asked, before_ask}
use Rattle.cmh_controller.specs.Controller.{Controller, IsOfSite}
use Rattle.cmh_controller.specs.Beginnings.{Begins}
use Rattle.cmh_controller.proofs.OfSite.{asked_site}
use Rattle.cmh_controller.proofs.TakingBack.{IsBack, ask_back, ask_stands, only_targets}
use Rattle.cmh_controller.proofs.Probing.{ask_begins, ask_alone}
use Rattle.cmh_controller.proofs.controller.Controller.ask.Goals as goal
use Rattle.cmh_controller.proofs.controller.Controller.ask.Goals.{then-starts_at_ask+in-Ok, else-starts_at_ask}

pub ask-requires-clause-others : goal.ask-requires-clause-others
ask-requires-clause-others c = none_is_asker (λ k. IsSome (home c.args.self.now.topology k)) c.args.asker c.args.targets.now c.requires.accepted.2.known

-- what the site holds is of its topology still
still_of_site : (t u : Topology) (s : ℕ) (held left : Held) (asker : ℕ) (targets : List ℕ) → t ≡ u → IsOfSite t s held → AreTargets u asker targets → left ≡ asked held asker targets → IsOfSite t s left
still_of_site t u s held left asker targets same site are is = rw is (asked_site t s held asker targets site (subst (λ v. AreTargets v asker targets) (sym same) are))

pub begin-begun-requires-clause-of_site : goal.begin-begun-requires-clause-of_site
begin-begun-requires-clause-of_site c = still_of_site c.self.inside.topology _ c.self.inside.site c.self.inside.waits c.ask.new.self c.args.asker c.args.targets.now (ap (λ (v : Controller). v.topology) c.self.view_is) c.self.invariant c.requires.accepted.2 c.in_ok-ask.ensures.ok

pub take_back-requires-clause-asked : goal.take_back-requires-clause-asked
take_back-requires-clause-asked c = λ k waits.
    let active = subst (λ (v : Controller). has_some v.state.waits c.args.asker ≡ false) (sym c.self.view_is) c.requires.accepted.1 in
    only_targets c.self.inside.waits.waits c.args.asker c.args.targets.now k active (subst (λ (h : Held). has h.waits c.args.asker k ≡ true) c.in_ok-ask.ensures.ok waits)

pub invariant_of-self-in-Ok : goal.invariant_of-self-in-Ok
invariant_of-self-in-Ok c = still_of_site c.self.inside.topology _ c.self.inside.site c.self.inside.waits c.ask.new.self c.args.asker c.args.targets.now (ap (λ (v : Controller). v.topology) c.self.view_is) c.self.invariant c.requires.accepted.2 c.in_ok-ask.ensures.ok

pub invariant_of-self-else-starts_at_ask : goal.invariant_of-self-else-starts_at_ask
invariant_of-self-else-starts_at_ask c = still_of_site c.self.inside.topology _ c.self.inside.site c.self.inside.waits c.ask.new.self c.args.asker c.args.targets.now (ap (λ (v : Controller). v.topology) c.self.view_is) c.self.invariant c.requires.accepted.2 c.in_ok-ask.ensures.ok

pub returns-clause-ok : goal.returns-clause-ok
returns-clause-ok c =
    let inside = c.self.inside in
    let asker = c.args.asker in
    let targets = c.args.targets.now in
    let event = Ask asker targets in
    let edition = c.starts_at_ask.ensures ∙ ap starts_at_ask c.edition.ensures in
    let waits = ap (λ (h : Held). h.waits) c.in_ok-ask.ensures.ok in
    let undone = ap (λ (h : Held). before_ask h asker targets) (sym c.in_ok-ask.ensures.ok) ∙ c.in_ok-ask.ensures.undone in
    elim c.if-starts_at_ask.branch [
      | then-starts_at_ask+in-Ok w ↦
          let begins = subst (λ sent. Begins inside.topology inside.site c.ask.new.self.waits inside.declared asker sent w.begin-begun.new.sent.items w.in-Ok.found) c.in_ok-sent.ensures w.in-Ok.ensures.begins in
          rw (c.new.ensures, w.sent-is, w.declared-is, w.self-is) (record {
            accepted = c.requires.accepted;
            sends =
                subst (λ (v : Controller). Sends v.topology v.site v.state event w.begin-begun.new.sent.items w.in-Ok.found) c.self.view_is
                (ask_begins inside.topology inside.site inside.waits c.self.invariant c.ask.new.self inside.dependents inside.declared asker targets _ _ (sym edition ∙ w.if-starts_at_ask.true) waits begins);
            stands = ask_stands inside.topology inside.site inside.waits c.ask.new.self inside.dependents inside.declared _ c.args.self.now asker targets w.in-Ok.found c.self.view_is c.self.invariant c.in_ok-ask.ensures.ok w.in-Ok.ensures.declared;
            back = subst (λ (v : Controller). IsBack v event false w.in-Ok.found) c.self.view_is
                (ask_back inside.topology inside.site inside.waits inside.dependents inside.declared asker targets w.in-Ok.found c.self.invariant undone w.in-Ok.ensures.back);
          })
      | else-starts_at_ask w ↦
          rw (c.new.ensures, w.sent-is, w.declared-is, w.self-is) (record {
            accepted = c.requires.accepted;
            sends =
                subst (λ (v : Controller). Sends v.topology v.site v.state event c.in_ok-sent.sent.items None) c.self.view_is
                (ask_alone inside.topology inside.site inside.waits c.self.invariant inside.dependents inside.declared asker targets _ _ (sym edition ∙ w.if-starts_at_ask.false) c.in_ok-sent.ensures refl);
            stands = ask_stands inside.topology inside.site inside.waits c.ask.new.self inside.dependents inside.declared _ c.args.self.now asker targets None c.self.view_is c.self.invariant c.in_ok-ask.ensures.ok refl;
            back = subst (λ (v : Controller). IsBack v event false None) c.self.view_is
                (ask_back inside.topology inside.site inside.waits inside.dependents inside.declared asker targets None c.self.invariant undone refl);
          })
    ]
