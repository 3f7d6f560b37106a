-- How the lawful entries of a site go on from a state, and where they end.
use Rattle.std.proofs.Common.{◌≡◌, ℕ, ◌+◌, ◌<◌, ◌≤◌, List, [], ◌∷◌, ◌++◌, length, take, map, get_or, Option, None, Some, refl, sym, ap, ◌∙◌, subst, arith}
use Rattle.std.proofs.Math.Seq.{take-append_seam}
use Rattle.std.specs.Option.{option_map}
use Rattle.std.proofs.lemmas.List.{length-map, map-append, take_more}
use Rattle.cmh_runs.proofs.Beginnings.{push_eq}
use Rattle.cmh_runs.proofs.Growing.{lawful_more}
use Rattle.cmh_runs.proofs.Journals.{lawful_front, lawful_rest, state_after-append}
use Rattle.cmh_model3.specs.Entries as model
use Rattle.cmh_model3.specs.Journals.{LawfulFrom, rules_of, state_after}
use Rattle.cmh_model3.specs.Rules.{Accepts, Sends, after, clock_after}
use Rattle.cmh_model3.specs.State.{State}
use Rattle.cmh_model3.specs.Stops.{declared_at}
use Rattle.cmh_model3.proofs.Sent.{one_outcome}
use Rattle.cmh_topology3.specs.Topology.{Topology, site_of}
use Rattle.cmh_controller3.specs.Controller.{Controller, home_of, state_of}
use Rattle.cmh_controller3.specs.Steps.{Steps, process_in}
use Rattle.cmh_controller3.specs.declared.outcome.Declaration.{Declaration as Declared}
use Rattle.cmh_controller3.specs.declared.outcome.Outcome.{Outcome}
use Rattle.cmh_segment3.specs.declared.entry.Declaration.{Declaration}
use Rattle.cmh_segment3.specs.declared.entry.Entry.{Entry}
use Rattle.cmh_segment3.specs.Entries.{step_of}
use Rattle.cmh_segment3.specs.Steps.{entries_from, entry_at}
use Rattle.cmh_audit3.specs.Journals.{AreLawfulFrom}
use Rattle.cmh_audit3.specs.Standing.{StandsAt}
use Rattle.cmh_audit3.specs.Inner.Lawful.{IsLawfulLength, recorded}

-- ---- entries of steps

-- those of some steps, and then of others
pub entries-append : (home : ℕ → ℕ) (s : ℕ) (v : State) (xs ys : List model.Entry) → entries_from v.clock (xs ++ ys) ≡ entries_from v.clock xs ++ entries_from (state_after home s v xs).clock ys
entries-append home s v [] ys = refl
entries-append home s v (x ∷ xs) ys = ap (λ l. entry_at v.clock x ∷ l) (entries-append home s (after home s v x.event x.declared) xs ys)

-- there are as many entries as steps
pub length-entries : (c : ℕ) (xs : List model.Entry) → length (entries_from c xs) ≡ length xs
length-entries c [] = refl
length-entries c (x ∷ xs) = let later = length-entries (clock_after c x.event) xs in omega (arith, later)

-- equal lists whose fronts are as long
pub front_same : {X : Type 0} (xs ys zs : List X) → xs ++ ys ≡ zs → take (length xs) zs ≡ xs
front_same xs ys zs e = ap (take (length xs)) (sym e) ∙ take-append_seam xs ys

-- a beginning of lawful entries is lawful
pub lawful_beginning : (t : Topology) (s : ℕ) (v : State) (xs ys : List Entry) → AreLawfulFrom t s v (xs ++ ys) → AreLawfulFrom t s v xs
lawful_beginning t s v xs ys lawful =
    let steps = map step_of xs in
    let split = map-append step_of xs ys in
    let whole : entries_from v.clock steps ++ entries_from (state_after (site_of t) s v steps).clock (map step_of ys) ≡ xs ++ ys =
    sym (entries-append (site_of t) s v steps (map step_of ys)) ∙ ap (entries_from v.clock) (sym split) ∙ lawful.stamps in
    let long : length (entries_from v.clock steps) ≡ length xs = length-entries v.clock steps ∙ length-map xs step_of in
    record {
      steps = lawful_front (rules_of (site_of t) s) v steps (map step_of ys) (subst (λ l. LawfulFrom (site_of t) s v l) split lawful.steps);
      stamps = sym (front_same (entries_from v.clock steps) _ (xs ++ ys) whole) ∙ ap (λ n. take n (xs ++ ys)) long ∙ take-append_seam xs ys;
    }

-- what is recorded names the stop
recorded_is : (o : Option Declared) (n : ℕ) → ((d : Declared) → o ≡ Some d → d.stop ≡ n) → option_map (λ i. record { process = i; stamp = n }) (process_in o) ≡ recorded o
recorded_is None n stop = refl
recorded_is (Some d) n stop = λ i. Some (record { process = d.process; stamp = sym (stop d refl) i })

recorded_process : (o : Option Declared) → option_map (λ (d : Declaration). d.process) (recorded o) ≡ process_in o
recorded_process None = refl
recorded_process (Some d) = refl

-- ---- a controller that steps through them

-- the entries before a place are lawful, and lead to where the controller stands
pub record Going (t : Topology) (s : ℕ) (v : State) (entries : List Entry) (place : ℕ) (c : Controller) : Type 0 where
  pub lawful : AreLawfulFrom t s v (take place entries)
  pub stands : StandsAt t s (state_after (site_of t) s v (map step_of (take place entries))) c

pub begins : (t : Topology) (s : ℕ) (v : State) (entries : List Entry) (c : Controller) → StandsAt t s v c → Going t s v entries 0 c
begins t s v entries c stands = record { lawful = record { steps = tt; stamps = refl }; stands = stands }

pub ends : (t : Topology) (s : ℕ) (v : State) (entries : List Entry) (n : ℕ) (c : Controller) → length entries ≤ n → Going t s v entries n c → n ≤ length entries → IsLawfulLength t s v entries n
ends t s v entries n c all going within = record { within = within; lawful = going.lawful; stops = λ more lawful. absurd (omega (arith, more, all)) }

take_next : (entries : List Entry) (i : ℕ) (e : Entry) → i < length entries → e ≡ get_or entries i e → take (i + 1) entries ≡ take i entries ++ e ∷ []
take_next entries i e h is = take_more entries i e h ∙ ap (λ y. take i entries ++ y ∷ []) (sym is)

module _ (t : Topology) (s : ℕ) (v : State) (entries : List Entry) (i : ℕ) (e : Entry) (old : Controller) (h : i < length entries) (is : e ≡ get_or entries i e) (r : Going t s v entries i old) where
  abbrev front : List Entry
  front = take i entries

  abbrev steps : List model.Entry
  steps = map step_of front

  abbrev led : State
  led = state_after (site_of t) s v steps

  -- what holds of the old controller holds of the site and where the entries lead
  there : (P : (ℕ → ℕ) → ℕ → State → Type 0) → P (home_of old) old.site (state_of old) → P (site_of t) s led
  there P p =
      subst (λ w. P (site_of t) s w) r.stands.state
      (subst (λ x. P (site_of t) x (state_of old)) r.stands.site
      (subst (λ (u : Topology). P (site_of u) old.site (state_of old)) r.stands.topology p))

  more : take (i + 1) entries ≡ front ++ e ∷ []
  more = take_next entries i e h is

  more_steps : map step_of (take (i + 1) entries) ≡ steps ++ step_of e ∷ []
  more_steps = ap (map step_of) more ∙ map-append step_of front (e ∷ [])

  -- the entries of one step more
  more_entries : entries_from v.clock (steps ++ step_of e ∷ []) ≡ front ++ entry_at led.clock (step_of e) ∷ []
  more_entries = entries-append (site_of t) s v steps (step_of e ∷ []) ∙ ap (λ l. l ++ entry_at led.clock (step_of e) ∷ []) r.lawful.stamps

  module _ (new : Controller) (o : Outcome) (took : Steps old e.event o new) where
    stop_is : (d : Declared) → o.declared ≡ Some d → d.stop ≡ declared_at led.clock e.event
    stop_is d made = took.stop d made ∙ ap (λ (w : State). declared_at w.clock e.event) r.stands.state

    -- one more entry that records what its step came to
    pub goes_on : e.sent ≡ o.sent → e.declared ≡ recorded o.declared → Going t s v entries (i + 1) new
    goes_on same_sent same_declared =
        let process : (step_of e).declared ≡ process_in o.declared = ap (option_map (λ (d : Declaration). d.process)) same_declared ∙ recorded_process o.declared in
        let accepts = there (λ home x w. Accepts home x w e.event) took.accepted in
        let sends = subst (λ d. Sends (site_of t) s led e.event e.sent d) (sym process)
        (subst (λ ms. Sends (site_of t) s led e.event ms (process_in o.declared)) (sym same_sent) (there (λ home x w. Sends home x w e.event o.sent (process_in o.declared)) took.sends)) in
        let same : entry_at led.clock (step_of e) ≡ e = λ j. record {
          event = e.event;
          sent = e.sent;
          declared = (ap (option_map (λ q. record { process = q; stamp = declared_at led.clock e.event })) process ∙ recorded_is o.declared (declared_at led.clock e.event) stop_is ∙ sym same_declared) j;
        } in
        record {
          lawful = record {
            steps = subst (λ xs. LawfulFrom (site_of t) s v xs) (sym more_steps) (lawful_more (rules_of (site_of t) s) v steps (step_of e) r.lawful.steps accepts sends);
            stamps = ap (entries_from v.clock) more_steps ∙ more_entries ∙ ap (λ x. front ++ x ∷ []) same ∙ sym more;
          };
          stands = record {
            topology = took.topology ∙ r.stands.topology;
            site = took.site ∙ r.stands.site;
            state =
                took.state ∙ there (λ home x w. after (home_of old) old.site (state_of old) e.event (process_in o.declared) ≡ after home x w e.event (process_in o.declared)) refl
                ∙ ap (after (site_of t) s led e.event) (sym process)
                ∙ sym (state_after-append (rules_of (site_of t) s) v steps (step_of e ∷ [])) ∙ ap (state_after (site_of t) s v) (sym more_steps);
          };
        }

    -- an entry that the rules allow records it
    pub records_it : Accepts (site_of t) s led e.event → Sends (site_of t) s led e.event e.sent (step_of e).declared → entry_at led.clock (step_of e) ≡ e → (e.sent ≡ o.sent) × (e.declared ≡ recorded o.declared)
    records_it accepts sends same =
        let one = one_outcome (site_of t) s led e.event e.sent o.sent (step_of e).declared (process_in o.declared) sends (there (λ home x w. Sends home x w e.event o.sent (process_in o.declared)) took.sends) in
        let stamped : e.declared ≡ option_map (λ q. record { process = q; stamp = declared_at led.clock e.event }) (step_of e).declared = λ j. (sym same j).declared in
        (one.0, stamped ∙ ap (option_map (λ q. record { process = q; stamp = declared_at led.clock e.event })) one.1 ∙ recorded_is o.declared (declared_at led.clock e.event) stop_is)

  -- where the next entry cannot be lawful
  pub goes_no_further : (Accepts (site_of t) s led e.event → Sends (site_of t) s led e.event e.sent (step_of e).declared → entry_at led.clock (step_of e) ≡ e → ⊥) → IsLawfulLength t s v entries i
  goes_no_further cannot = record {
    within = omega (arith, h);
    lawful = r.lawful;
    stops = λ _ lawful.
        let last = lawful_rest (rules_of (site_of t) s) v steps (step_of e ∷ []) (subst (λ xs. LawfulFrom (site_of t) s v xs) more_steps lawful.steps) in
        let stamps : front ++ entry_at led.clock (step_of e) ∷ [] ≡ front ++ e ∷ [] = sym more_entries ∙ ap (entries_from v.clock) (sym more_steps) ∙ lawful.stamps ∙ more in
        cannot last.0 last.1 (push_eq front front (entry_at led.clock (step_of e)) e stamps).1;
  }

  -- as where its event is refused
  pub refused_there : (Accepts (home_of old) old.site (state_of old) e.event → ⊥) → IsLawfulLength t s v entries i
  refused_there cannot = goes_no_further (λ accepts sends same. there (λ home x w. Accepts home x w e.event → ⊥) cannot accepts)

  -- or where it records something else
  pub differs_there : (new : Controller) (o : Outcome) → Steps old e.event o new → ((e.sent ≡ o.sent) × (e.declared ≡ recorded o.declared) → ⊥) → IsLawfulLength t s v entries i
  differs_there new o took differs = goes_no_further (λ accepts sends same. differs (records_it new o took accepts sends same))
