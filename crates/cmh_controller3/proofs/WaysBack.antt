-- The way back from a step that was carried out.
use Rattle.std.proofs.Common.{◌≡◌, ℕ, true, List, Option, refl, sym, ap, ◌∙◌, subst}
use Rattle.std.proofs.lemmas.Bool.{or_left}
use Rattle.cmh_model3.specs.declared.event.Event.{Event}
use Rattle.cmh_model3.specs.declared.event.Event.TheVariants.{Ask, Reply, Withdraw, Got, Turn}
use Rattle.cmh_model3.specs.declared.frame.Frame.TheVariants.{Request, Reply as Reply_frame, Withdraw as Withdraw_frame, Probe}
use Rattle.cmh_model3.specs.declared.frame.Message.{Message}
use Rattle.cmh_model3.specs.Laws.{JournalFacts}
use Rattle.cmh_model3.specs.Rules.{Accepts, Sends, after, targets_away}
use Rattle.cmh_model3.specs.State.{State}
use Rattle.cmh_topology3.specs.Topology.{Topology, site_of}
use Rattle.cmh_controller3.specs.Controller.{Controller, home_of, state_of}
use Rattle.cmh_controller3.specs.Inner.Between.{StandsBetween}
use Rattle.cmh_controller3.specs.Inner.SecondHalves.{CanEnd, PutsBack, ended_state}
use Rattle.cmh_controller3.specs.Steps.{Prepares, Remembers, prepared_state, process_in}
use Rattle.cmh_controller3.specs.WaysBack.{FitsRows, IsAfter, LeadsBack, rows_back}
use Rattle.cmh_controller3.specs.declared.prepared.Before.{Before}
use Rattle.cmh_controller3.specs.declared.prepared.Prepared.{Prepared}
use Rattle.cmh_controller3.specs.declared.way_back.WayBack.{WayBack}
use Rattle.cmh_controller3.proofs.Halves.{at_mid, here_too, leaves_again}

-- who has prepared an event stands between the halves
pub stands : (old : Controller) (event : Event) (p : Prepared) (mid : Controller) → Prepares old event p mid → StandsBetween old event p.before p.outcome.declared mid
stands old event p mid prepares = record {
  accepted = prepares.accepted;
  sends = (p.outcome.sent, prepares.sends);
  topology = prepares.topology;
  site = prepares.site;
  state = prepares.state;
  facts = prepares.facts;
  before = prepares.before;
}

-- ---- before the second half

pub can_end : (old : Controller) (event : Event) (p : Prepared) (mid : Controller) → Prepares old event p mid → CanEnd mid event
can_end old (Ask j ks) p mid prepares = tt
can_end old (Reply k j) p mid prepares = at_mid old (Reply k j) p mid prepares (λ home s v. Accepts home s v (Reply k j)) prepares.accepted
can_end old (Withdraw j ks) p mid prepares = (
  at_mid old (Withdraw j ks) p mid prepares (λ home s v. Accepts home s v (Withdraw j ks)) prepares.accepted,
  at_mid old (Withdraw j ks) p mid prepares (λ home s v. (k : ℕ) → targets_away home s j ks j k ≡ true → v.leaving j k ≡ true)
      (λ k h. or_left (targets_away (home_of old) old.site j ks j k) ((state_of old).leaving j k) h),
)
can_end old (Turn n) p mid prepares = tt
can_end old (Got a n (Request j k)) p mid prepares = tt
can_end old (Got a n (Reply_frame k j)) p mid prepares =
    at_mid old (Got a n (Reply_frame k j)) p mid prepares (λ home s v. Accepts home s v (Got a n (Reply_frame k j))) prepares.accepted
can_end old (Got a n (Withdraw_frame j k)) p mid prepares =
    at_mid old (Got a n (Withdraw_frame j k)) p mid prepares (λ home s v. Accepts home s v (Got a n (Withdraw_frame j k))) prepares.accepted
can_end old (Got a n (Probe i l j k)) p mid prepares = tt

-- the second half leads where the rules do
ends : (home : ℕ → ℕ) (s : ℕ) (v : State) (event : Event) (sent : List (ℕ × Message)) (d : Option ℕ) → Sends home s v event sent d
    → ended_state home s (prepared_state home s v event d) event ≡ after home s v event d
ends home s v (Ask j ks) sent d sends = refl
ends home s v (Reply k j) sent d sends = ap (after home s v (Reply k j)) (sym sends.1)
ends home s v (Withdraw j ks) sent d sends = leaves_again home s v j ks d ∙ ap (after home s v (Withdraw j ks)) (sym sends.1)
ends home s v (Turn n) sent d sends = ap (after home s v (Turn n)) (sym sends.1)
ends home s v (Got a n (Request j k)) sent d sends = refl
ends home s v (Got a n (Reply_frame k j)) sent d sends = ap (after home s v (Got a n (Reply_frame k j))) (sym sends.1)
ends home s v (Got a n (Withdraw_frame j k)) sent d sends = ap (after home s v (Got a n (Withdraw_frame j k))) (sym sends.1)
ends home s v (Got a n (Probe i l j k)) sent d sends = refl

module _ (old : Controller) (event : Event) (p : Prepared) (mid : Controller) (prepares : Prepares old event p mid) where
  abbrev who : Option ℕ
  who = process_in p.outcome.declared

  abbrev between : State
  between = prepared_state (home_of old) old.site (state_of old) event who

  -- what holds of the controller there holds of the state there
  from_mid : (P : (ℕ → ℕ) → ℕ → State → Type 0) → P (home_of mid) mid.site (state_of mid) → P (home_of old) old.site between
  from_mid P h =
      subst (λ (t : Topology). P (site_of t) old.site between) prepares.topology
      (subst (λ (x : ℕ). P (home_of mid) x between) prepares.site (subst (λ (v : State). P (home_of mid) mid.site v) prepares.state h))

  pub leads_back : JournalFacts (home_of mid) mid.site (state_of mid) → (way : WayBack) → way.before ≡ p.before → way.declared ≡ p.outcome.declared → PutsBack mid event way.rows → LeadsBack old event who way
  leads_back facts way before declared puts = record {
    accepted = prepares.accepted;
    sends = (p.outcome.sent, prepares.sends);
    facts = prepares.facts;
    between = from_mid (λ home s v. JournalFacts home s v) facts;
    fits = from_mid (λ home s v. FitsRows home s way.rows) puts.fits;
    rows =
        ap (rows_back (home_of old) old.site way.rows) (sym (ends (home_of old) old.site (state_of old) event p.outcome.sent who prepares.sends))
        ∙ from_mid (λ home s v. rows_back home s way.rows (ended_state home s v event) ≡ v) puts.back;
    before = subst (λ (b : Before). Remembers (state_of old) event b) (sym before) prepares.before;
    process = ap process_in declared;
  }

-- ---- after it

module _ (old : Controller) (event : Event) (d : Option ℕ) (way : WayBack) (leads : LeadsBack old event d way) (now : Controller) (is : IsAfter old event d now) where
  pub fits_here : FitsRows (home_of now) now.site way.rows
  fits_here = here_too old now is.topology is.site (λ home s. FitsRows home s way.rows) leads.fits

  pub rows_here : rows_back (home_of now) now.site way.rows (state_of now) ≡ prepared_state (home_of old) old.site (state_of old) event d
  rows_here =
      ap (rows_back (home_of now) now.site way.rows) is.state
      ∙ here_too old now is.topology is.site (λ home s. rows_back home s way.rows (after (home_of old) old.site (state_of old) event d) ≡ prepared_state (home_of old) old.site (state_of old) event d) leads.rows

  pub facts_here : JournalFacts (home_of now) now.site (rows_back (home_of now) now.site way.rows (state_of now))
  facts_here =
      subst (λ (v : State). JournalFacts (home_of now) now.site v) (sym rows_here)
      (here_too old now is.topology is.site (λ home s. JournalFacts home s (prepared_state (home_of old) old.site (state_of old) event d)) leads.between)

  pub stands_again : (mid : Controller) → mid.topology ≡ now.topology → mid.site ≡ now.site → state_of mid ≡ rows_back (home_of now) now.site way.rows (state_of now)
      → StandsBetween old event way.before way.declared mid
  stands_again mid topology site state = record {
    accepted = leads.accepted;
    sends = (leads.sends.0, subst (λ x. Sends (home_of old) old.site (state_of old) event leads.sends.0 x) (sym leads.process) leads.sends.1);
    topology = topology ∙ is.topology;
    site = site ∙ is.site;
    state = state ∙ rows_here ∙ ap (prepared_state (home_of old) old.site (state_of old) event) (sym leads.process);
    facts = leads.facts;
    before = leads.before;
  }
