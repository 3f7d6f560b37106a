-- The halves of a step, by what each changes of what is kept.
use Rattle.std.proofs.Common.{◌≡◌, ℕ, Bool, true, false, not, ◌&&◌, ◌||◌, List, [], length, get_or, ◌==◌, if◌then◌else◌, Option, None, refl, sym, ap, ◌∙◌, subst, inl, inr}
use Rattle.std.proofs.Math.Path.{fun_ext}
use Rattle.std.proofs.lemmas.Bool.{and_parts, cases_eq, eq-eqb, eqb-true, ne_eqb, or_cases, true≢false}
use Rattle.cmh_model3.specs.declared.frame.Message.{Message}
use Rattle.cmh_model3.specs.declared.event.Event.{Event}
use Rattle.cmh_model3.specs.declared.event.Event.TheVariants.{Withdraw}
use Rattle.cmh_model3.specs.Laws.{JournalFacts}
use Rattle.cmh_model3.specs.Lists.{in_list, set_at}
use Rattle.cmh_model3.specs.State.{State}
use Rattle.cmh_model3.specs.Rules.{after, targets_away}
use Rattle.cmh_topology3.specs.Topology.{Topology, site_of}
use Rattle.cmh_controller3.specs.declared.prepared.Prepared.{Prepared}
use Rattle.cmh_controller3.specs.Controller.{Controller, Kept, home_of, state_kept, state_of}
use Rattle.cmh_controller3.specs.Inner.Kept.{HasRoom, IsKept}
use Rattle.cmh_controller3.specs.Steps.{Prepares, Steps, prepared_state, process_in}
use Rattle.cmh_controller3.specs.Inner.Leading.{Leads}
use Rattle.cmh_controller3.specs.Tables.{pairs_of}
use Rattle.cmh_controller3.proofs.After.{kept_is}
use Rattle.cmh_controller3.proofs.Moving.{Moves}

-- ---- the first half

-- of the value that a controller had
pub prepares_from : (event : Event) (p : Prepared) (old now new : Controller) → old ≡ now → Prepares old event p new → Prepares now event p new
prepares_from event p old now new same prepares = subst (λ (c : Controller). Prepares c event p new) same prepares

module _ (c : Controller) (kept : IsKept (home_of c) c.site c.kept) (j : ℕ) (ks : List ℕ) (leaving : List (List ℕ)) (row : List ℕ) (at : home_of c j ≡ c.site)
    (more : (k : ℕ) → in_list row k ≡ ((not (home_of c k == c.site) && in_list ks k) || pairs_of c.kept.leaving j k))
    (put : pairs_of leaving ≡ set_at (pairs_of c.kept.leaving) j (in_list row)) (room : length leaving ≡ length c.kept.leaving) where
  abbrev more_leaving : State
  more_leaving =
      let v : State = state_of c in record v { leaving = λ i k. targets_away (home_of c) c.site j ks i k || v.leaving i k }

  left : (i k : ℕ) → set_at (pairs_of c.kept.leaving) j (in_list row) i k ≡ (targets_away (home_of c) c.site j ks i k || pairs_of c.kept.leaving i k)
  left i k = elim (cases_eq i j) [
    | inl e ↦
        ap (λ (z : Bool). (if z then in_list row else pairs_of c.kept.leaving i) k) (eq-eqb i j e) ∙ more k
        ∙ ap (λ q. (not (home_of c k == c.site) && in_list ks k) || pairs_of c.kept.leaving q k) (sym e)
        ∙ sym (ap (λ z. ((z && not (home_of c k == c.site)) && in_list ks k) || pairs_of c.kept.leaving i k) (eq-eqb i j e))
    | inr n ↦
        ap (λ (z : Bool). (if z then in_list row else pairs_of c.kept.leaving i) k) (ne_eqb i j n)
        ∙ sym (ap (λ z. ((z && not (home_of c k == c.site)) && in_list ks k) || pairs_of c.kept.leaving i k) (ne_eqb i j n))
  ]

  -- whom the process gives up it is leaving
  pub begun_withdraw : state_kept (home_of c) c.site (record c.kept { leaving = leaving }) ≡ more_leaving
  begun_withdraw = kept_is (home_of c) c.site _ _ refl refl (put ∙ fun_ext (λ i. fun_ext λ k. left i k)) refl refl refl refl refl

  leaving_facts : JournalFacts (home_of c) c.site more_leaving
  leaving_facts = let f = kept.facts in record {
    waits_home = f.waits_home;
    waits_ascend = f.waits_ascend;
    few_waits = f.few_waits;
    no_stamp = f.no_stamp;
    stamps = f.stamps;
    no_marks = f.no_marks;
    undeclared = f.undeclared;
    owed_home = f.owed_home;
    leaving_away = λ i k h. elim (or_cases (targets_away (home_of c) c.site j ks i k) (pairs_of c.kept.leaving i k) h) [
      | inl e ↦
          let first = (and_parts ((i == j) && not (home_of c k == c.site)) (in_list ks k) e).0 in
          let parts = and_parts (i == j) (not (home_of c k == c.site)) first in
          (ap (home_of c) (eqb-true i j parts.0) ∙ at, λ here. true≢false (sym parts.1 ∙ ap not (eq-eqb (home_of c k) c.site here)))
      | inr e ↦ f.leaving_away i k e
    ];
    local = f.local;
  }

  pub begun_kept : IsKept (home_of c) c.site (record c.kept { leaving = leaving })
  begun_kept = record {
    site = kept.site;
    facts = subst (JournalFacts (home_of c) c.site) (sym begun_withdraw) leaving_facts;
    members = kept.members;
    askers = kept.askers;
    asked = kept.asked;
    leaving_room = subst (HasRoom (home_of c) c.site) (sym room) kept.leaving_room;
    owed_room = kept.owed_room;
    marks_room = kept.marks_room;
    declared_room = kept.declared_room;
    stamps_room = kept.stamps_room;
  }

-- ---- the second half

pub leads_from : (event : Event) (old now new : Controller) → old ≡ now → Leads old event new → Leads now event new
leads_from event old now new same leads = subst (λ (c : Controller). Leads c event new) same leads

-- a step that declares nothing leads where the rules do
pub moves_lead : (c : Controller) (event : Event) (sent : List (ℕ × Message)) (new : Kept) → Moves c event (record { sent = sent; declared = None }) new → Leads c event (record c { kept = new })
moves_lead c event sent new moves = record { topology = refl; site = refl; state = moves.steps.state }

-- a row of a table in its own place
pub row_again : (rows : List (List ℕ)) (j : ℕ) → pairs_of rows ≡ set_at (pairs_of rows) j (in_list (get_or rows j []))
row_again rows j = fun_ext λ a. fun_ext λ b. elim (cases_eq a j) [
  | inl e ↦ ap (λ q. pairs_of rows q b) e ∙ sym (ap (λ (z : Bool). (if z then in_list (get_or rows j []) else pairs_of rows a) b) (eq-eqb a j e))
  | inr n ↦ sym (ap (λ (z : Bool). (if z then in_list (get_or rows j []) else pairs_of rows a) b) (ne_eqb a j n))
]

-- who is leaving those that it gives up has a row that holds them
pub row_holds : (home : ℕ → ℕ) (s j : ℕ) (ks : List ℕ) (rows : List (List ℕ)) → ((k : ℕ) → targets_away home s j ks j k ≡ true → pairs_of rows j k ≡ true)
    → (k : ℕ) → in_list (get_or rows j []) k ≡ ((not (home k == s) && in_list ks k) || pairs_of rows j k)
row_holds home s j ks rows left k = go (not (home k == s) && in_list ks k) (λ h. left k (ap (λ z. (z && not (home k == s)) && in_list ks k) (eq-eqb j j refl) ∙ h))
  where
    go : (z : Bool) → (z ≡ true → pairs_of rows j k ≡ true) → pairs_of rows j k ≡ (z || pairs_of rows j k)
    go true h = h refl
    go false h = refl

-- what holds of the site before holds of it there
pub here_too : (old mid : Controller) → mid.topology ≡ old.topology → mid.site ≡ old.site → (P : (ℕ → ℕ) → ℕ → Type 0) → P (home_of old) old.site → P (home_of mid) mid.site
here_too old mid topology site P h = subst (λ (x : ℕ). P (home_of mid) x) (sym site) (subst (λ (t : Topology). P (site_of t) old.site) (sym topology) h)

module _ (old : Controller) (event : Event) (p : Prepared) (mid : Controller) (prepares : Prepares old event p mid) where
  abbrev who : Option ℕ
  who = process_in p.outcome.declared

  abbrev between : State
  between = prepared_state (home_of old) old.site (state_of old) event who

  -- what holds of the state between the halves holds of the controller there
  pub at_mid : (P : (ℕ → ℕ) → ℕ → State → Type 0) → P (home_of old) old.site between → P (home_of mid) mid.site (state_of mid)
  at_mid P h =
      let there = subst (λ (t : Topology). P (site_of t) old.site between) (sym prepares.topology) h in
      let here = subst (λ (x : ℕ). P (home_of mid) x between) (sym prepares.site) there in
      subst (λ (v : State). P (home_of mid) mid.site v) (sym prepares.state) here

  pub carried : (new : Controller) → after (home_of old) old.site between event None ≡ after (home_of old) old.site (state_of old) event who → Leads mid event new → Steps old event p.outcome new
  carried new same leads = record {
    accepted = prepares.accepted;
    sends = prepares.sends;
    stop = prepares.stop;
    topology = leads.topology ∙ prepares.topology;
    site = leads.site ∙ prepares.site;
    state = leads.state ∙ at_mid (λ home s v. after home s v event None ≡ after (home_of old) old.site between event None) refl ∙ same;
  }

-- who is leaving some already, and leaves them once more
pub leaves_again : (home : ℕ → ℕ) (s : ℕ) (v : State) (j : ℕ) (ks : List ℕ) (d : Option ℕ)
    → after home s (prepared_state home s v (Withdraw j ks) d) (Withdraw j ks) None ≡ after home s v (Withdraw j ks) None
leaves_again home s v j ks d =
    let w : State = after home s v (Withdraw j ks) None in
    ap (λ (l : ℕ → ℕ → Bool). let u : State = record w { leaving = l } in u) (fun_ext λ i. fun_ext λ k. twice (targets_away home s j ks i k) (v.leaving i k))
  where
    twice : (x y : Bool) → (x || (x || y)) ≡ (x || y)
    twice true y = refl
    twice false y = refl
