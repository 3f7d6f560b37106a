-- Messages go to sites of the world alone, so nothing is under way elsewhere.
use Rattle.std.proofs.Common.{◌≡◌, ◌≢◌, ℕ, ◌+◌, ◌==◌, ◌&&◌, max, not, Bool, true, false, List, [], ◌∷◌, ◌++◌, map, if◌then◌else◌, Option, None, Some, unwrap_or, inl, inr, refl, sym, ap, ◌∙◌, subst, arith}
use Rattle.std.specs.Bool.{⊤}
use Rattle.std.specs.List.{AllByRecursion, list_any}
use Rattle.std.proofs.lemmas.Bool.{and_parts, cases_Bool, cases_eq, eq-eqb, eqb-true, ne_eqb, MatchBool-at_true, MatchBool-at_false, or_cases, or_parts, true≢false}
use Rattle.cmh_controller3.specs.Controller.{Controller}
use Rattle.cmh_frames.specs.Topology.{lookup}
use Rattle.cmh_merge.specs.Queues.{Queues, waiting}
use Rattle.cmh_model3.specs.declared.event.Event.{Event}
use Rattle.cmh_model3.specs.declared.event.Event.TheVariants.{Ask, Reply, Withdraw, Got, Turn}
use Rattle.cmh_model3.specs.declared.frame.Frame.TheVariants.{Request, Reply as Reply_frame, Withdraw as Withdraw_frame, Probe}
use Rattle.cmh_model3.specs.declared.frame.Message.{Message}
use Rattle.cmh_model3.specs.Entries.{Entry, WorldEvent}
use Rattle.cmh_model3.specs.Journals.{LawfulFrom, frames_to, message_from, receipts_of, sendings_of}
use Rattle.cmh_model3.specs.Laws.{JournalFacts}
use Rattle.cmh_model3.specs.Lists.{in_list}
use Rattle.cmh_model3.specs.Rules.{Accepts, DeclaresOrProbes, Sends, after, changed, probe_acts, requests, targets_here, withdraws}
use Rattle.cmh_model3.specs.Runs.{entries_of, receipts, sendings}
use Rattle.cmh_model3.specs.State.{State, waits_for}
use Rattle.cmh_model3.proofs.Facts.{facts_after}
use Rattle.cmh_model3.proofs.Moves.{got_probe, got_reply_owed, reply_owed}
use Rattle.cmh_model3.proofs.Sent.{IsProbe, each_probe}
use Rattle.cmh_topology3.specs.Topology.{IsWellFormed, Topology, home, is_site, site_of}
use Rattle.cmh_segment3.specs.declared.segment.Segment.{Segment}
use Rattle.cmh_segment3.specs.Steps.{entries_from}
use Rattle.cmh_segment3.proofs.Sendings.{in_first, in_later}
use Rattle.cmh_segment3.proofs.WholeEntries.{set_was}
use Rattle.cmh_audit3.specs.Journals.{journal_of}
use Rattle.cmh_audit3.specs.Set.{has_site}
use Rattle.cmh_history3.specs.Between.{under_way}
use Rattle.cmh_history3.specs.Verdicts.{IsEnd}
use Rattle.cmh_history3.specs.Worlds.{state_at}

-- ---- sites

no_members : (rows : List (ℕ × List ℕ)) (s : ℕ) → has_site (map (λ (row : ℕ × List ℕ). row.0) rows) s ≡ false → lookup [] rows s ≡ []
no_members [] s none = refl
no_members (row ∷ rows) s none =
    let parts = or_parts (row.0 == s) (has_site (map (λ (r : ℕ × List ℕ). r.0) rows) s) none in
    ap (λ z. if z then row.1 else lookup [] rows s) parts.0 ∙ no_members rows s parts.1

both_none : {X : Type 0} (xs ys : List X) → xs ++ ys ≡ [] → (xs ≡ []) × (ys ≡ [])
both_none [] ys e = (refl, e)
both_none (x ∷ xs) ys e = absurd (cc e)

module _ (t : Topology) (formed : IsWellFormed t) where
  -- the site of a known process
  known_site : (p : ℕ) → site_of t p ≢ 0 → is_site t (site_of t p) ≡ true
  known_site p known = go (home t p) refl
    where
      go : (h : Option ℕ) → home t p ≡ h → is_site t (site_of t p) ≡ true
      go None e = absurd (known (ap (λ h. unwrap_or h 0) e))
      go (Some s) e = elim (cases_Bool (is_site t s)) [
        | inl there ↦ ap (is_site t) (ap (λ h. unwrap_or h 0) e) ∙ there
        | inr none ↦ absurd (true≢false (sym ((formed.members p s).1 e) ∙ ap (list_any (λ q. q == p)) (no_members t.rows s none)))
      ]

  not_zero : (s : ℕ) → is_site t s ≡ true → s ≢ 0
  not_zero s known e = let least = (formed.sites s known).least in absurd (omega (arith, e, least))

  -- ---- messages to sites

  abbrev GoesToSite : ℕ × Message → Type 0
  GoesToSite m = is_site t m.0 ≡ true

  joined : (xs ys : List (ℕ × Message)) → AllByRecursion GoesToSite xs → AllByRecursion GoesToSite ys → AllByRecursion GoesToSite (xs ++ ys)
  joined [] ys all more = more
  joined (x ∷ xs) ys all more = (all.0, joined xs ys all.1 more)

  add_one : (here : Bool) (x : ℕ × Message) (xs : List (ℕ × Message)) → GoesToSite x → AllByRecursion GoesToSite xs → AllByRecursion GoesToSite (if here then xs else x ∷ xs)
  add_one true x xs goes all = all
  add_one false x xs goes all = (goes, all)

  one_or_none : (here : Bool) (x : ℕ × Message) → GoesToSite x → AllByRecursion GoesToSite (if here then x ∷ [] else [])
  one_or_none true x goes = (goes, tt)
  one_or_none false x goes = tt

  none_to : (sent : List (ℕ × Message)) (b : ℕ) → is_site t b ≡ false → AllByRecursion GoesToSite sent → frames_to b sent ≡ []
  none_to [] b unknown all = refl
  none_to (m ∷ sent) b unknown all = elim (cases_eq m.0 b) [
    | inl e ↦ absurd (true≢false (sym all.0 ∙ ap (is_site t) e ∙ unknown))
    | inr n ↦ ap (λ z. if z then m.1 ∷ frames_to b sent else frames_to b sent) (ne_eqb m.0 b n) ∙ none_to sent b unknown all.1
  ]

  requests_go : (s c j : ℕ) (ks : List ℕ) → ((k : ℕ) → in_list ks k ≡ true → site_of t k ≢ 0) → AllByRecursion GoesToSite (requests (site_of t) s c j ks)
  requests_go s c j [] known = tt
  requests_go s c j (k ∷ ks) known =
      add_one (site_of t k == s) (site_of t k, record { clock = c; frame = Request j k }) (requests (site_of t) s c j ks) (known_site k (known k (in_first k ks)))
      (requests_go s c j ks (λ q h. known q (in_later k q ks h)))

  withdraws_go : (s c j : ℕ) (ks : List ℕ) → ((k : ℕ) → in_list ks k ≡ true → site_of t k ≢ 0) → AllByRecursion GoesToSite (withdraws (site_of t) s c j ks)
  withdraws_go s c j [] known = tt
  withdraws_go s c j (k ∷ ks) known =
      add_one (site_of t k == s) (site_of t k, record { clock = c; frame = Withdraw_frame j k }) (withdraws (site_of t) s c j ks) (known_site k (known k (in_first k ks)))
      (withdraws_go s c j ks (λ q h. known q (in_later k q ks h)))

  module _ (s : ℕ) (v : State) (waits : (j k : ℕ) → waits_for v j k ≡ true → (site_of t j ≡ s) × (site_of t k ≢ 0) × (k ≢ j)) where
    probes_go : (c i n p : ℕ) (ms : List (ℕ × Message)) → AllByRecursion (IsProbe (site_of t) s v c i n p) ms → AllByRecursion GoesToSite ms
    probes_go c i n p [] all = tt
    probes_go c i n p (m ∷ ms) all =
        let is = all.0 in
        let wait = waits is.0 is.1 (and_parts (waits_for v is.0 is.1) _ is.4).0 in
        (ap (is_site t) is.2 ∙ known_site is.1 wait.1, probes_go c i n p ms all.1)

    outcome_goes : (D : Type 0) (c i n p : ℕ) (sent : List (ℕ × Message)) (d : Option ℕ) → DeclaresOrProbes (site_of t) D s v c i n p sent d → AllByRecursion GoesToSite sent
    outcome_goes D c i n p sent d (inl h) = subst (AllByRecursion GoesToSite) (sym h.1) tt
    outcome_goes D c i n p sent d (inr h) = probes_go c i n p sent (each_probe (site_of t) s v c i n p sent h.1).each

  -- ---- one step

  -- what came is from a site
  abbrev IsFromSite : Event → Type 0
  IsFromSite (Got a c frame) = is_site t a ≡ true
  IsFromSite event = ⊤

  from_site : (ev : Event) → ((a : ℕ) → is_site t a ≡ false → message_from a ev ≡ []) → IsFromSite ev
  from_site (Ask j ks) none = tt
  from_site (Reply k j) none = tt
  from_site (Withdraw j ks) none = tt
  from_site (Turn c) none = tt
  from_site (Got a c frame) none = elim (cases_Bool (is_site t a)) [
    | inl there ↦ there
    | inr unknown ↦
        let here : (if a == a then record { clock = c; frame = frame } ∷ [] else []) ≡ record { clock = c; frame = frame } ∷ [] = ap (λ z. if z then record { clock = c; frame = frame } ∷ [] else []) (eq-eqb a a refl) in
        let nothing : record { clock = c; frame = frame } ∷ [] ≡ [] = sym here ∙ none a unknown in
        absurd (cc nothing)
  ]

  -- the facts of the rules, and whoever is owed a reply is known
  pub record Stays (s : ℕ) (v : State) : Type 0 where
    pub facts : JournalFacts (site_of t) s v
    pub askers : (k j : ℕ) → v.owed k j ≡ true → site_of t j ≢ 0

  module _ (s : ℕ) (v : State) (site : s ≢ 0) (stays : Stays s v) where
    sends_go : (ev : Event) (sent : List (ℕ × Message)) (d : Option ℕ) → Accepts (site_of t) s v ev → Sends (site_of t) s v ev sent d → IsFromSite ev → AllByRecursion GoesToSite sent
    sends_go (Ask j ks) sent d acc sends from =
        let later = facts_after (site_of t) s v (Ask j ks) sent d stays.facts acc sends in
        subst (AllByRecursion GoesToSite) (sym sends.1) (joined (requests (site_of t) s (v.clock + 1) j ks) sends.0 (requests_go s (v.clock + 1) j ks (λ k m. (acc.2.1 k m).3))
        (outcome_goes s (changed (site_of t) s v (Ask j ks)) later.waits_home _ (v.clock + 1) j (v.clock + 1) j sends.0 d sends.2))
    sends_go (Reply k j) sent d acc sends from =
        subst (AllByRecursion GoesToSite) (sym sends.0) (add_one (site_of t j == s) (site_of t j, record { clock = v.clock; frame = Reply_frame k j }) [] (known_site j (stays.askers k j acc.2)) tt)
    sends_go (Withdraw j ks) sent d acc sends from =
        subst (AllByRecursion GoesToSite) (sym sends.0) (withdraws_go s v.clock j ks (λ k m. (stays.facts.waits_home j k (acc.3 k m)).1))
    sends_go (Got a c (Request j k)) sent d acc sends from = subst (AllByRecursion GoesToSite) (sym sends.0) tt
    sends_go (Got a c (Reply_frame k j)) sent d acc sends from = subst (AllByRecursion GoesToSite) (sym sends.0) tt
    sends_go (Got a c (Withdraw_frame j k)) sent d acc sends from =
        subst (AllByRecursion GoesToSite) (sym sends.0) (one_or_none (v.owed k j) (a, record { clock = max v.clock c; frame = Reply_frame k j }) from)
    sends_go (Got a c (Probe i n j k)) sent d acc sends from = elim (cases_Bool (probe_acts v i n j k)) [
      | inl e ↦ outcome_goes s v stays.facts.waits_home _ (max v.clock c) i n k sent d (MatchBool-at_true _ _ e sends)
      | inr e ↦ subst (AllByRecursion GoesToSite) (sym (MatchBool-at_false _ _ e sends).0) tt
    ]
    sends_go (Turn c) sent d acc sends from = subst (AllByRecursion GoesToSite) (sym sends.0) tt

    askers_stay : (ev : Event) → Accepts (site_of t) s v ev → IsFromSite ev → (k j : ℕ) → (changed (site_of t) s v ev).owed k j ≡ true → site_of t j ≢ 0
    askers_stay (Ask i ks) acc from k j h = elim (or_cases (targets_here (site_of t) s i ks j k) (v.owed k j) h) [
      | inl new ↦ λ none. site (sym acc.0 ∙ ap (site_of t) (sym (eqb-true j i (and_parts (j == i) (site_of t k == s) (and_parts ((j == i) && (site_of t k == s)) (in_list ks k) new).0).0)) ∙ none)
      | inr old ↦ stays.askers k j old
    ]
    askers_stay (Reply h i) acc from k j y = stays.askers k j (set_was v.owed h i k j (sym (ap (λ r. r k j) (reply_owed (site_of t) s v h i)) ∙ y))
    askers_stay (Withdraw i ks) acc from k j h = stays.askers k j (and_parts (not (targets_here (site_of t) s i ks j k)) (v.owed k j) h).1
    askers_stay (Got a c (Request i h)) acc from k j y = go ((k == h) && (j == i)) refl y
      where
        go : (z : Bool) → ((k == h) && (j == i)) ≡ z → (if z then true else v.owed k j) ≡ true → site_of t j ≢ 0
        go true e g = λ none. not_zero a from (sym acc.1 ∙ ap (site_of t) (sym (eqb-true j i (and_parts (k == h) (j == i) e).1)) ∙ none)
        go false e g = stays.askers k j g
    askers_stay (Got a c (Reply_frame h i)) acc from k j y = stays.askers k j (sym (ap (λ r. r k j) (got_reply_owed (site_of t) s v a c h i)) ∙ y)
    askers_stay (Got a c (Withdraw_frame i h)) acc from k j y = stays.askers k j (set_was v.owed h i k j y)
    askers_stay (Got a c (Probe i n x q)) acc from k j y = stays.askers k j (sym (ap (λ r. r k j) (got_probe (site_of t) s v a c i n x q).0) ∙ y)
    askers_stay (Turn c) acc from k j y = stays.askers k j y

  -- ---- all steps of a site

  none_sent : (s : ℕ) (v : State) (steps : List Entry) → s ≢ 0 → Stays s v → LawfulFrom (site_of t) s v steps → ((a : ℕ) → is_site t a ≡ false → receipts_of a steps ≡ []) → (b : ℕ) → is_site t b ≡ false
      → sendings_of b steps ≡ []
  none_sent s v [] site stays lawful none b unknown = refl
  none_sent s v (step ∷ steps) site stays lawful none b unknown =
      let from = from_site step.event (λ a far. (both_none (message_from a step.event) (receipts_of a steps) (none a far)).0) in
      let first = none_to step.sent b unknown (sends_go s v site stays step.event step.sent step.declared lawful.0 lawful.1 from) in
      let next : Stays s (after (site_of t) s v step.event step.declared) = record {
        facts = facts_after (site_of t) s v step.event step.sent step.declared stays.facts lawful.0 lawful.1;
        askers = askers_stay s v site stays step.event lawful.0 from;
      } in
      ap (λ l. l ++ sendings_of b steps) first
      ∙ none_sent s (after (site_of t) s v step.event step.declared) steps site next lawful.2 (λ a far. (both_none (message_from a step.event) (receipts_of a steps) (none a far)).1) b unknown

-- ---- what is under way

no_steps : (c : ℕ) (steps : List Entry) → entries_from c steps ≡ [] → steps ≡ []
no_steps c [] e = refl
no_steps c (step ∷ steps) e = absurd (cc e)

module _ (t : Topology) (formed : IsWellFormed t) (gs : List Segment) (order : List ℕ) (cs : List Controller) (queues : Queues Message) (end : IsEnd t gs order cs queues)
    (no_journal : (s : ℕ) → is_site t s ≡ false → journal_of gs s ≡ []) (within : (s : ℕ) → is_site t s ≡ true → Stays t formed s (state_at gs s)) where
  abbrev events : List WorldEvent
  events = end.events

  not_between : (a b : ℕ) → (is_site t a && is_site t b) ≡ false → sendings a b events ≡ [] → (receipts a b events ≡ []) × (waiting queues a b ≡ [])
  not_between a b apart none =
      both_none (receipts a b events) (waiting queues a b)
      (end.leads.under_way a b ∙ ap (λ l. l ++ sendings a b events) (ap (λ z. if z then under_way gs a b else []) apart) ∙ none)

  from_none : (a b : ℕ) → is_site t a ≡ false → (receipts a b events ≡ []) × (waiting queues a b ≡ [])
  from_none a b unknown =
      let steps : entries_of a events ≡ [] = no_steps (state_at gs a).clock (entries_of a events) (end.kept a ∙ no_journal a unknown) in
      not_between a b (ap (λ z. z && is_site t b) unknown) (ap (sendings_of b) steps)

  pub only_between : (a b : ℕ) → (is_site t a && is_site t b) ≡ false → waiting queues a b ≡ []
  only_between a b apart = elim (cases_Bool (is_site t a)) [
    | inl known ↦
        let unknown : is_site t b ≡ false = sym (ap (λ z. z && is_site t b) known) ∙ apart in
        (not_between a b apart (none_sent t formed a (state_at gs a) (entries_of a events) (not_zero t formed a known) (within a known) (end.run.lawful a) (λ q far. (from_none q a far).0) b unknown)).1
    | inr unknown ↦ (from_none a b unknown).1
  ]
