-- Stop n comes from a run.
use Rattle.std.proofs.Common.{◌≡◌, ◌≢◌, ℕ, ◌≤◌, Bool, true, false, List, [], ◌∷◌, ◌++◌, if◌then◌else◌, refl, sym, ap, ◌∙◌, subst, inl, inr, arith}
use Rattle.std.proofs.lemmas.Bool.{cases_Bool, cases_eq, eq-eqb, ne_eqb, false_from_ne_true}
use Rattle.cmh_runs.proofs.Journals as runs
use Rattle.cmh_model3.specs.Lists.{set_at}
use Rattle.cmh_model3.specs.Entries.{Entry, WorldEvent}
use Rattle.cmh_model3.specs.State.{State, empty_state}
use Rattle.cmh_model3.specs.Rules.{clock_after, after}
use Rattle.cmh_model3.specs.Journals.{LawfulFrom, message_from, rules_of, sendings_of, receipts_of}
use Rattle.cmh_model3.specs.Runs.{entries_of, IsRun}
use Rattle.cmh_model3.specs.Stops.{is_within, entries_within, stopped, events_within}
use Rattle.cmh_model3.specs.Laws.{StopIsRun}
use Rattle.cmh_model3.proofs.Settled.{within_low}
use Rattle.cmh_model3.proofs.Stops.{cuts_at_stamps, not_within}

-- past the stop nothing is within it
stop_done : (n c : ℕ) (es : List Entry) → n ≤ c → entries_within n c es ≡ []
stop_done n c [] l = refl
stop_done n c (e ∷ es) l =
    let no : is_within n (clock_after c e.event) e.event ≡ false = false_from_ne_true _ (λ h. let low = within_low n c e.event h in absurd (omega (arith, low, l))) in
    ap (λ z. if z then e ∷ entries_within n (clock_after c e.event) es else []) no

-- the events of the stop are of each site its entries within it
entries_of-within : (n s : ℕ) (clocks : ℕ → ℕ) (es : List WorldEvent) → entries_of s (events_within n clocks es) ≡ entries_within n (clocks s) (entries_of s es)
entries_of-within n s clocks [] = refl
entries_of-within n s clocks (e ∷ es) = elim (cases_eq e.site s) [
  | inl at ↦
      let c : ℕ = clock_after (clocks e.site) e.entry.event in
      let more : entries_of s (events_within n (set_at clocks e.site c) es) ≡ entries_within n c (entries_of s es) =
      entries_of-within n s (set_at clocks e.site c) es ∙ ap (λ z. entries_within n (if z then c else clocks s) (entries_of s es)) (eq-eqb s e.site (sym at)) in
      let right : entries_within n (clocks s) (entries_of s (e ∷ es)) ≡ (if is_within n c e.entry.event then e.entry ∷ entries_within n c (entries_of s es) else []) =
      ap (λ z. entries_within n (clocks s) (if z then e.entry ∷ entries_of s es else entries_of s es)) (eq-eqb e.site s at)
      ∙ ap (λ q. if is_within n (clock_after (clocks q) e.entry.event) e.entry.event then e.entry ∷ entries_within n (clock_after (clocks q) e.entry.event) (entries_of s es) else []) (sym at) in
      elim (cases_Bool (is_within n c e.entry.event)) [
        | inl inside ↦
            ap (λ z. entries_of s (if z then e ∷ events_within n (set_at clocks e.site c) es else events_within n (set_at clocks e.site c) es)) inside
            ∙ ap (λ z. if z then e.entry ∷ entries_of s (events_within n (set_at clocks e.site c) es) else entries_of s (events_within n (set_at clocks e.site c) es)) (eq-eqb e.site s at)
            ∙ ap (λ l. e.entry ∷ l) more
            ∙ sym (ap (λ z. if z then e.entry ∷ entries_within n c (entries_of s es) else []) inside)
            ∙ sym right
        | inr outside ↦
            ap (λ z. entries_of s (if z then e ∷ events_within n (set_at clocks e.site c) es else events_within n (set_at clocks e.site c) es)) outside
            ∙ more ∙ stop_done n c (entries_of s es) (not_within n c e.entry.event outside)
            ∙ sym (ap (λ z. if z then e.entry ∷ entries_within n c (entries_of s es) else []) outside)
            ∙ sym right
      ]
  | inr far ↦
      let c : ℕ = clock_after (clocks e.site) e.entry.event in
      let more : entries_of s (events_within n (set_at clocks e.site c) es) ≡ entries_within n (clocks s) (entries_of s es) =
      entries_of-within n s (set_at clocks e.site c) es ∙ ap (λ z. entries_within n (if z then c else clocks s) (entries_of s es)) (ne_eqb s e.site (λ h. far (sym h))) in
      go (is_within n c e.entry.event) (events_within n (set_at clocks e.site c) es) far
      ∙ more
      ∙ ap (λ z. entries_within n (clocks s) (if z then e.entry ∷ entries_of s es else entries_of s es)) (sym (ne_eqb e.site s far))
]
  where
    go : (z : Bool) (l : List WorldEvent) → e.site ≢ s → entries_of s (if z then e ∷ l else l) ≡ entries_of s l
    go true l far = ap (λ z. if z then e.entry ∷ entries_of s l else entries_of s l) (ne_eqb e.site s far)
    go false l far = refl

lawful_stop : (home : ℕ → ℕ) (n s : ℕ) (v : State) (es : List Entry) → LawfulFrom home s v es → LawfulFrom home s v (entries_within n v.clock es)
lawful_stop home n s v [] h = tt
lawful_stop home n s v (e ∷ es) h = go (is_within n (clock_after v.clock e.event) e.event) (h.0, h.1, lawful_stop home n s (after home s v e.event e.declared) es h.2)
  where
    go : (z : Bool) → LawfulFrom home s v (e ∷ entries_within n (clock_after v.clock e.event) es) → LawfulFrom home s v (if z then e ∷ entries_within n (clock_after v.clock e.event) es else [])
    go true g = g
    go false g = tt

-- a beginning of a run is a run
pub run_front : (home : ℕ → ℕ) (xs ys : List WorldEvent) → IsRun home (xs ++ ys) → IsRun home xs
run_front home = runs.run_front message_from (rules_of home)

-- a beginning of the stop is the stop of a beginning
within_front : (n : ℕ) (clocks : ℕ → ℕ) (es so_far rest : List WorldEvent) → so_far ++ rest ≡ events_within n clocks es → (before : List WorldEvent) × (later : List WorldEvent) × (before ++ later ≡ es) × (events_within n clocks before ≡ so_far)
within_front n clocks es [] rest h = ([], es, refl, refl)
within_front n clocks [] (x ∷ xs) rest h = absurd (cc h)
within_front n clocks (e ∷ es) (x ∷ xs) rest h =
    let c : ℕ = clock_after (clocks e.site) e.entry.event in
    let next : ℕ → ℕ = set_at clocks e.site c in
    elim (cases_Bool (is_within n c e.entry.event)) [
      | inl inside ↦
          let parts : x ∷ (xs ++ rest) ≡ e ∷ events_within n next es = h ∙ ap (λ z. if z then e ∷ events_within n next es else events_within n next es) inside in
          let same : x ≡ e = cc parts in
          let tail : xs ++ rest ≡ events_within n next es = cc parts in
          let r = within_front n next es xs rest tail in (
            e ∷ r.0,
            r.1,
            ap (λ l. e ∷ l) r.2,
            ap (λ z. if z then e ∷ events_within n next r.0 else events_within n next r.0) inside ∙ ap (λ l. e ∷ l) r.3 ∙ ap (λ y. y ∷ xs) (sym same),
          )
      | inr outside ↦
          let parts : x ∷ (xs ++ rest) ≡ events_within n next es = h ∙ ap (λ z. if z then e ∷ events_within n next es else events_within n next es) outside in
          let r = within_front n next es (x ∷ xs) rest parts in
          (e ∷ r.0, r.1, ap (λ l. e ∷ l) r.2, ap (λ z. if z then e ∷ events_within n next r.0 else events_within n next r.0) outside ∙ r.3)
    ]

pub stop_is_run : StopIsRun
stop_is_run home events run n = (
  record {
    lawful = λ s. subst (LawfulFrom home s empty_state) (sym (entries_of-within n s (λ q. 0) events)) (lawful_stop home n s empty_state (entries_of s events) (run.lawful s));
    in_order = λ so_far b x y.
        let r = within_front n (λ q. 0) events so_far b.0 b.1 in
        let front = run_front home r.0 r.1 (subst (IsRun home) (sym r.2) run) in
        let got : receipts_of x (entries_of y so_far) ≡ receipts_of x (stopped n r.0 y) = ap (receipts_of x) (ap (entries_of y) (sym r.3) ∙ entries_of-within n y (λ q. 0) r.0) in
        let sent : sendings_of y (entries_of x so_far) ≡ sendings_of y (stopped n r.0 x) = ap (sendings_of y) (ap (entries_of x) (sym r.3) ∙ entries_of-within n x (λ q. 0) r.0) in
        let cut = cuts_at_stamps home r.0 front n x y in
        (cut.0, ap (λ l. l ++ cut.0) got ∙ cut.1 ∙ sym sent);
  },
  λ s. entries_of-within n s (λ q. 0) events,
)
