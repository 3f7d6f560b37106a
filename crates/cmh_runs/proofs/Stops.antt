-- A run that is stopped at each site.
use Rattle.std.proofs.Common.{◌≡◌, ◌≢◌, ℕ, zero, suc, ◌-◌, List, [], ◌∷◌, ◌++◌, ◌==◌, if◌then◌else◌, refl, sym, ap, ◌∙◌, subst, inl, inr, length, take, drop, arith, take-append-drop, take_all}
use Rattle.std.proofs.lemmas.List.{take-append-le}
use Rattle.std.proofs.lemmas.Bool.{eq-eqb, ne_eqb, cases_eq, cases_lt}
use Rattle.cmh_runs.specs.declared.entry.Entry.{Entry}
use Rattle.cmh_runs.specs.declared.entry.WorldEvent.{WorldEvent}
use Rattle.cmh_runs.specs.Rules.{Rules}
use Rattle.cmh_runs.specs.Runs.{entries_of, sendings, receipts, IsBeginningOf, IsRun, ComeFromRun}
use Rattle.cmh_runs.specs.Journals.{sendings_of, receipts_of, IsLawful}
use Rattle.cmh_runs.specs.Stops.{IsConsistent, stopped}
use Rattle.cmh_runs.proofs.Beginnings.{beginning_take, beginning_trans, length-beginning, shorter_begins, take_of_front}
use Rattle.cmh_runs.proofs.Journals.{entries_here, entries_elsewhere, entries_of-append, sendings_of-beginning, receipts_of-beginning, lawful_front}

-- ---- the stopped list

-- the stop with one entry less of this site
lower : (ℕ → ℕ) → ℕ → ℕ → ℕ
lower stop site s = if site == s then stop s - 1 else stop s

-- the events within the stop
within : {Event Frame : Type 0} → (ℕ → ℕ) → List (WorldEvent Event Frame) → List (WorldEvent Event Frame)
within stop [] = []
within stop (e ∷ es) = if stop e.site == 0 then within stop es else e ∷ within (lower stop e.site) es

-- an event of a site that is at its stop is left out
within_skips : {Event Frame : Type 0} (stop : ℕ → ℕ) (e : WorldEvent Event Frame) (es : List (WorldEvent Event Frame)) → stop e.site ≡ 0 → within stop (e ∷ es) ≡ within stop es
unfolding within
within_skips stop e es h = ap (λ z. if z then within stop es else e ∷ within (lower stop e.site) es) (eq-eqb (stop e.site) 0 h)

-- another one is kept
within_takes : {Event Frame : Type 0} (stop : ℕ → ℕ) (e : WorldEvent Event Frame) (es : List (WorldEvent Event Frame)) → stop e.site ≢ 0 → within stop (e ∷ es) ≡ e ∷ within (lower stop e.site) es
unfolding within
within_takes stop e es h = ap (λ z. if z then within stop es else e ∷ within (lower stop e.site) es) (ne_eqb (stop e.site) 0 h)

-- of each site the first entries are left, as many as its stop says
entries_within : {Event Frame : Type 0} (stop : ℕ → ℕ) (es : List (WorldEvent Event Frame)) (s : ℕ) → entries_of s (within stop es) ≡ take (stop s) (entries_of s es)
unfolding within lower
entries_within {Event} {Frame} stop [] s = none (stop s)
  where
    none : (n : ℕ) → ◌≡◌ {A = List (Entry Event Frame)} [] (take n [])
    none zero = refl
    none (suc n) = refl
entries_within {Event} {Frame} stop (e ∷ es) s = elim (cases_eq (stop e.site) 0) [
  | inl h ↦ ap (entries_of s) (within_skips stop e es h) ∙ entries_within stop es s ∙ elim (cases_eq e.site s) [
    | inl at ↦
        let zero_here : stop s ≡ 0 = ap stop (sym at) ∙ h in
        ap (λ n. take n (entries_of s es)) zero_here ∙ ap (λ n. take n (entries_of s (e ∷ es))) (sym zero_here)
    | inr far ↦ ap (take (stop s)) (sym (entries_elsewhere s e es far))
  ]
  | inr h ↦ ap (entries_of s) (within_takes stop e es h) ∙ elim (cases_eq e.site s) [
    | inl at ↦
        entries_here s e (within (lower stop e.site) es) at
        ∙ ap (λ z. e.entry ∷ z) (entries_within (lower stop e.site) es s ∙ ap (λ z. take (if z then stop s - 1 else stop s) (entries_of s es)) (eq-eqb e.site s at))
        ∙ one_more (stop s) (λ z. h (ap stop at ∙ z)) e.entry (entries_of s es)
        ∙ ap (take (stop s)) (sym (entries_here s e es at))
    | inr far ↦
        entries_elsewhere s e (within (lower stop e.site) es) far
        ∙ entries_within (lower stop e.site) es s ∙ ap (λ z. take (if z then stop s - 1 else stop s) (entries_of s es)) (ne_eqb e.site s far)
        ∙ ap (take (stop s)) (sym (entries_elsewhere s e es far))
  ]
]
  where
    one_more : (n : ℕ) → n ≢ 0 → (x : Entry Event Frame) (xs : List (Entry Event Frame)) → x ∷ take (n - 1) xs ≡ take n (x ∷ xs)
    one_more zero h x xs = absurd (h refl)
    one_more (suc n) h x xs = let same : suc n - 1 ≡ n = omega arith in ap (λ m. x ∷ take m xs) same

-- a beginning of the stopped list is a stopped beginning
stopped_beginning : {Event Frame : Type 0} (stop : ℕ → ℕ) (es so_far rest : List (WorldEvent Event Frame)) → so_far ++ rest ≡ within stop es → (front : List (WorldEvent Event Frame)) × IsBeginningOf front es × (within stop front ≡ so_far)
unfolding within
stopped_beginning stop es [] rest h = ([], (es, refl), refl)
stopped_beginning stop [] (x ∷ so_far) rest h = absurd (cc h)
stopped_beginning stop (e ∷ es) (x ∷ so_far) rest h = elim (cases_eq (stop e.site) 0) [
  | inl z ↦
      let r = stopped_beginning stop es (x ∷ so_far) rest (h ∙ within_skips stop e es z) in
      (e ∷ r.0, (r.1.0, ap (λ y. e ∷ y) r.1.1), within_skips stop e r.0 z ∙ r.2)
  | inr z ↦
      let list : x ∷ (so_far ++ rest) ≡ e ∷ within (lower stop e.site) es = h ∙ within_takes stop e es z in
      let first : x ≡ e = cc list in
      let others : so_far ++ rest ≡ within (lower stop e.site) es = cc list in
      let r = stopped_beginning (lower stop e.site) es so_far rest others in
      (e ∷ r.0, (r.1.0, ap (λ y. e ∷ y) r.1.1), within_takes stop e r.0 z ∙ (λ i. sym first i ∷ r.2 i))
]

module _ {State Event Frame : Type 0} (got : ℕ → Event → List Frame) (rules : ℕ → Rules State Event Frame) (events : List (WorldEvent Event Frame)) (run : IsRun got rules events) (stop : ℕ → ℕ) (consistent : IsConsistent got stop events) where
  -- at a beginning of the run, what came within the stop is a beginning of what was sent within it
  in_order_within : (front : List (WorldEvent Event Frame)) → IsBeginningOf front events → (a b : ℕ) → IsBeginningOf (receipts_of got a (take (stop b) (entries_of b front))) (sendings_of b (take (stop a) (entries_of a front)))
  in_order_within front begins a b =
      let parts : (s : ℕ) → entries_of s front ++ entries_of s begins.0 ≡ entries_of s events = λ s. sym (entries_of-append s front begins.0) ∙ ap (entries_of s) begins.1 in
      let came : IsBeginningOf (receipts_of got a (take (stop b) (entries_of b front))) (sendings a b front) =
      beginning_trans _ (receipts got a b front) _ (receipts_of-beginning got a _ _ (beginning_take (stop b) (entries_of b front))) (run.in_order front begins a b) in
      elim (cases_lt (stop a) (length (entries_of a front))) [
        | inr all ↦ subst (λ z. IsBeginningOf (receipts_of got a (take (stop b) (entries_of b front))) (sendings_of b z)) (sym (take_all (stop a) (entries_of a front) all)) came
        | inl short ↦
            let same : take (stop a) (entries_of a events) ≡ take (stop a) (entries_of a front) = ap (take (stop a)) (sym (parts a)) ∙ take-append-le (stop a) (entries_of a front) (entries_of a begins.0) (omega arith) in
            let later : IsBeginningOf (take (stop b) (entries_of b front)) (take (stop b) (entries_of b events)) = subst (λ z. IsBeginningOf (take (stop b) (entries_of b front)) (take (stop b) z)) (parts b) (take_of_front (stop b) (entries_of b front) (entries_of b begins.0)) in
            let fewer = length-beginning _ _ (receipts_of-beginning got a _ _ later) in
            let bound = consistent a b in
            let long = ap (λ z. length (sendings_of b z)) same in
            shorter_begins _ _ (sendings a b front) came (sendings_of-beginning b _ _ (beginning_take (stop a) (entries_of a front))) (omega arith)
      ]

  -- what is left of a run is a run
  stopped_run : IsRun got rules (within stop events)
  stopped_run = record {
    lawful = λ s. subst (IsLawful (rules s)) (sym (entries_within stop events s)) (lawful_front (rules s) _ (take (stop s) (entries_of s events)) (drop (stop s) (entries_of s events)) (subst (IsLawful (rules s)) (sym (take-append-drop (stop s) (entries_of s events))) (run.lawful s)));
    in_order = λ so_far begins a b.
        let front = stopped_beginning stop events so_far begins.0 begins.1 in
        subst (λ z. IsBeginningOf (receipts got a b z) (sendings a b z)) front.2
        (subst (λ z. IsBeginningOf z (sendings a b (within stop front.0))) (ap (receipts_of got a) (sym (entries_within stop front.0 b)))
        (subst (λ z. IsBeginningOf (receipts_of got a (take (stop b) (entries_of b front.0))) z) (ap (sendings_of b) (sym (entries_within stop front.0 a))) (in_order_within front.0 front.1 a b)));
  }

-- a consistent stop comes from a run
pub stops_anywhere : {State Event Frame : Type 0} (got : ℕ → Event → List Frame) (rules : ℕ → Rules State Event Frame) (events : List (WorldEvent Event Frame)) → IsRun got rules events → (stop : ℕ → ℕ) → IsConsistent got stop events → ComeFromRun got rules (stopped stop events)
stops_anywhere got rules events run = λ stop consistent. (within stop events, stopped_run got rules events run stop consistent, entries_within stop events)
