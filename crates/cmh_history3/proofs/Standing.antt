-- Each site's segment begins in the state that the world has for it.
use Rattle.std.proofs.Common.{◌≡◌, ℕ, ◌==◌, true, false, true≢false, List, [], ◌∷◌, if◌then◌else◌, inl, inr, refl, sym, ap, ◌∙◌, subst}
use Rattle.std.proofs.lemmas.Bool.{cases_eq, eq-eqb, ne_eqb, or_left, or_parts, or_right}
use Rattle.cmh_frames.specs.Rows.{repeats}
use Rattle.cmh_controller3.specs.Controller.{Controller}
use Rattle.cmh_model3.specs.State.{State}
use Rattle.cmh_topology3.specs.Topology.{Topology}
use Rattle.cmh_segment3.specs.declared.segment.Segment.{Segment}
use Rattle.cmh_segment3.specs.States.{state_in}
use Rattle.cmh_audit3.specs.Set.{has_site, sites_in}
use Rattle.cmh_audit3.specs.Standing.{StandIn, StandsAt}
use Rattle.cmh_history3.specs.Worlds.{StandAtBases, state_at}

stand_as : (t : Topology) (states : ℕ → State) (gs : List Segment) (cs : List Controller) → repeats (sites_in gs) ≡ false → ((s : ℕ) → has_site (sites_in gs) s ≡ true → states s ≡ state_at gs s)
    → StandAtBases t gs cs → StandIn t states gs cs
stand_as t states [] [] once are all = tt
stand_as t states [] (c ∷ cs) once are all = absurd all
stand_as t states (g ∷ gs) [] once are all = absurd all
stand_as t states (g ∷ gs) (c ∷ cs) once are all =
    let s = g.header.site in
    let parts = or_parts (has_site (sites_in gs) s) (repeats (sites_in gs)) once in
    let same = eq-eqb s s refl in
    let here : states s ≡ state_in g.header.epoch g.base =
    are s (or_left (s == s) (has_site (sites_in gs) s) same) ∙ ap (λ z. if z then state_in g.header.epoch g.base else state_at gs s) same in (
      subst (λ v. StandsAt t s v c) (sym here) all.0,
      stand_as t states gs cs parts.1 (λ q there.
          let far : (s == q) ≡ false = elim (cases_eq s q) [
            | inl e ↦ absurd (true≢false (sym there ∙ ap (has_site (sites_in gs)) (sym e) ∙ parts.0))
            | inr apart ↦ ne_eqb s q apart
          ] in
          are q (or_right (s == q) (has_site (sites_in gs) q) there) ∙ ap (λ z. if z then state_in g.header.epoch g.base else state_at gs q) far) all.1,
    )

pub stand_in : (t : Topology) (gs : List Segment) (cs : List Controller) → repeats (sites_in gs) ≡ false → StandAtBases t gs cs → StandIn t (state_at gs) gs cs
stand_in t gs cs once all = stand_as t (state_at gs) gs cs once (λ s _. refl) all
