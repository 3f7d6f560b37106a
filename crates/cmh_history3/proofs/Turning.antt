-- The turns of all sites are a run.
use Rattle.std.proofs.Common.{◌≡◌, ℕ, ◌*◌, ◌^◌, ◌<◌, ◌||◌, max, Bool, true, false, List, [], ◌∷◌, ◌++◌, if◌then◌else◌, None, inl, inr, refl, sym, ap, ◌∙◌, subst, arith, append-nil}
use Rattle.std.proofs.lemmas.Bool.{cases_eq, eq-eqb, ne_eqb, or_parts}
use Rattle.cmh_frames.specs.Rows.{repeats}
use Rattle.cmh_runs.proofs.Beginnings.{beginning_nil}
use Rattle.cmh_runs.proofs.Journals.{entries_elsewhere, entries_here, entries_of-append, receipts_of-beginning}
use Rattle.cmh_epochs3.specs.Laws.{World}
use Rattle.cmh_model3.specs.declared.event.Event.TheVariants.{Turn}
use Rattle.cmh_model3.specs.declared.frame.Message.{Message}
use Rattle.cmh_model3.specs.Entries.{Entry, WorldEvent}
use Rattle.cmh_model3.specs.Journals.{LawfulFrom, message_from, receipts_of, sendings_of, state_after}
use Rattle.cmh_model3.specs.Runs.{IsBeginningOf, entries_of, receipts, sendings}
use Rattle.cmh_model3.specs.State.{State}
use Rattle.cmh_topology3.specs.Topology.{Topology, is_site, site_of, sites_of}
use Rattle.cmh_segment3.specs.declared.segment.Segment.{Segment}
use Rattle.cmh_segment3.specs.States.{turned_to}
use Rattle.cmh_audit3.specs.Set.{has_site}
use Rattle.cmh_history3.specs.Turns.{Follow, IsEpoch, turn_of, turns_of}
use Rattle.cmh_history3.specs.Worlds.{state_at, world_of}

-- the step of a turn
abbrev turn_step : ℕ → Entry
turn_step epoch = record { event = Turn (epoch * 2 ^ 32); sent = []; declared = None }

abbrev if_turned : ℕ → Bool → List Entry
if_turned epoch z = if z then turn_step epoch ∷ [] else []

-- each site has its one turn
one_turn : (epoch : ℕ) (sites : List ℕ) → repeats sites ≡ false → (s : ℕ) → entries_of s (turns_of epoch sites) ≡ if_turned epoch (has_site sites s)
one_turn epoch [] once s = refl
one_turn epoch (x ∷ sites) once s =
    let parts = or_parts (has_site sites x) (repeats sites) once in
    let later = one_turn epoch sites parts.1 s in
    elim (cases_eq x s) [
      | inl here ↦
          entries_here s (turn_of epoch x) (turns_of epoch sites) here ∙ ap (λ l. turn_step epoch ∷ l) (later ∙ ap (if_turned epoch) (ap (has_site sites) (sym here) ∙ parts.0))
          ∙ sym (ap (λ z. if_turned epoch (z || has_site sites s)) (eq-eqb x s here))
      | inr far ↦ entries_elsewhere s (turn_of epoch x) (turns_of epoch sites) far ∙ later ∙ sym (ap (λ z. if_turned epoch (z || has_site sites s)) (ne_eqb x s far))
    ]

none_got : (epoch a : ℕ) (z : Bool) → receipts_of a (if_turned epoch z) ≡ []
none_got epoch a true = refl
none_got epoch a false = refl

none_sent : (epoch b : ℕ) (z : Bool) → sendings_of b (if_turned epoch z) ≡ []
none_sent epoch b true = refl
none_sent epoch b false = refl

begins_none : {X : Type 0} (xs ys : List X) → IsBeginningOf xs ys → ys ≡ [] → xs ≡ []
begins_none [] ys p e = refl
begins_none (x ∷ xs) ys p e = let h : x ∷ (xs ++ p.0) ≡ [] = p.1 ∙ e in absurd (cc h)

greater : (a b : ℕ) → a < b → max a b ≡ b
greater a b below = omega (arith, below)

module _ (t : Topology) (end : World) (epoch : ℕ) (next : List Segment) (f : Follow t end epoch next) (once : repeats (sites_of t) ≡ false) where
  abbrev turns : List WorldEvent
  turns = turns_of epoch (sites_of t)

  turns_at : (s : ℕ) → entries_of s turns ≡ if_turned epoch (is_site t s)
  turns_at s = one_turn epoch (sites_of t) once s

  -- where the turn of a site leads
  turned : (s : ℕ) (v : State) → v.clock < epoch * 2 ^ 32 → state_after (site_of t) s v (turn_step epoch ∷ []) ≡ turned_to epoch v
  turned s v below = ap (λ c. record v { clock = c }) (greater v.clock (epoch * 2 ^ 32) below)

  lawful_turn : (s : ℕ) (z : Bool) → is_site t s ≡ z → LawfulFrom (site_of t) s (end.state s) (if_turned epoch z)
  lawful_turn s true known = ((f.later s known, f.fits), (refl, refl), tt)
  lawful_turn s false unknown = tt

  leads_turn : (s : ℕ) (z : Bool) → is_site t s ≡ z → state_at next s ≡ state_after (site_of t) s (end.state s) (if_turned epoch z)
  leads_turn s true known = f.states s known ∙ sym (turned s (end.state s) (f.later s known))
  leads_turn s false unknown = f.others s unknown

  got_none : (a b : ℕ) → receipts a b turns ≡ []
  got_none a b = ap (receipts_of a) (turns_at b) ∙ none_got epoch a (is_site t b)

  sent_none : (a b : ℕ) → sendings a b turns ≡ []
  sent_none a b = ap (sendings_of b) (turns_at a) ∙ none_sent epoch b (is_site t a)

  -- and at every moment nothing has come
  none_so_far : (so_far : List WorldEvent) → IsBeginningOf so_far turns → (a b : ℕ) → receipts a b so_far ≡ []
  none_so_far so_far begins a b =
      begins_none (receipts a b so_far) (receipts a b turns)
      (receipts_of-beginning message_from a (entries_of b so_far) (entries_of b turns) (entries_of b begins.0, sym (entries_of-append b so_far begins.0) ∙ ap (entries_of b) begins.1)) (got_none a b)

  pub turns_lead : IsEpoch t end turns (world_of t next)
  turns_lead = record {
    run = record {
      lawful = λ s. subst (LawfulFrom (site_of t) s (end.state s)) (sym (turns_at s)) (lawful_turn s (is_site t s) refl);
      in_order = λ so_far begins a b. subst (λ (z : List Message). IsBeginningOf z (end.under_way a b ++ sendings a b so_far)) (sym (none_so_far so_far begins a b)) (beginning_nil (end.under_way a b ++ sendings a b so_far));
    };
    leads = record {
      states = λ s. leads_turn s (is_site t s) refl ∙ ap (state_after (site_of t) s (end.state s)) (sym (turns_at s));
      under_way = λ a b. ap (λ l. l ++ (world_of t next).under_way a b) (got_none a b) ∙ f.under_way a b ∙ sym (append-nil (end.under_way a b)) ∙ ap (λ l. end.under_way a b ++ l) (sym (sent_none a b));
    };
  }
