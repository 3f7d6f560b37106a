-- A run, one entry longer.
use Rattle.std.proofs.Common.{◌≡◌, ℕ, List, [], ◌∷◌, ◌++◌, sym, ap, ◌∙◌, subst, if◌then◌else◌, inl, inr, append_assoc, append-nil}
use Rattle.std.proofs.lemmas.Bool.{cases_eq, eq-eqb, ne_eqb}
use Rattle.cmh_runs.specs.declared.entry.Entry.{Entry}
use Rattle.cmh_runs.specs.declared.entry.WorldEvent.{WorldEvent}
use Rattle.cmh_runs.specs.Rules.{Rules}
use Rattle.cmh_runs.specs.Journals.{state_after, LawfulFrom, IsLawful}
use Rattle.cmh_runs.specs.Runs.{entries_of, state_of, sendings, receipts, under_way, IsBeginningOf, IsRun}
use Rattle.cmh_runs.proofs.Beginnings.{beginning_nil, beginning_push, whole}
use Rattle.cmh_runs.proofs.Journals.{sent_on, got_on, entries_here, entries_elsewhere, entries_of-append, sendings-more, receipts-more}

-- a lawful journal with one more entry that the rules give
pub lawful_more : {State Event Frame : Type 0} (rules : Rules State Event Frame) (v : State) (xs : List (Entry Event Frame)) (e : Entry Event Frame)
    → LawfulFrom rules v xs → rules.Accepts (state_after rules v xs) e.event
    → rules.Sends (state_after rules v xs) e.event e.sent e.declared → LawfulFrom rules v (xs ++ e ∷ [])
lawful_more rules v [] e h accepted sends = (accepted, sends, tt)
lawful_more rules v (x ∷ xs) e h accepted sends = (h.0, h.1, lawful_more rules (rules.after v x.event x.declared) xs e h.2 accepted sends)

module _ {State Event Frame : Type 0} (got : ℕ → Event → List Frame) (rules : ℕ → Rules State Event Frame) where
  -- the empty list is a run
  pub run_first : IsRun got rules []
  run_first = record { lawful = λ s. tt; in_order = λ so_far begins a b. empty so_far begins.0 begins.1 a b }
    where
      empty : (so_far rest : List (WorldEvent Event Frame)) → so_far ++ rest ≡ [] → (a b : ℕ) → IsBeginningOf (receipts got a b so_far) (sendings a b so_far)
      empty [] rest h a b = beginning_nil _
      empty (x ∷ xs) rest h a b = absurd (cc h)

  -- a run with one more entry that the rules give, whose frame, if it gets one, is the next of its link
  pub run_longer : (before : List (WorldEvent Event Frame)) (e : WorldEvent Event Frame) → IsRun got rules before
      → (rules e.site).Accepts (state_of rules e.site before) e.entry.event
      → (rules e.site).Sends (state_of rules e.site before) e.entry.event e.entry.sent e.entry.declared
      → ((a : ℕ) → IsBeginningOf (got a e.entry.event) (under_way got a e.site before)) → IsRun got rules (before ++ e ∷ [])
  run_longer before e run accepted sends next = record {
    lawful = λ s. elim (cases_eq e.site s) [
      | inl here ↦ subst (IsLawful (rules s)) (sym (entries_of-append s before (e ∷ []) ∙ ap (λ z. entries_of s before ++ z) (entries_here s e [] here)))
          (subst (λ z. IsLawful (rules z) (entries_of z before ++ e.entry ∷ [])) here (lawful_more (rules e.site) _ (entries_of e.site before) e.entry (run.lawful e.site) accepted sends))
      | inr far ↦ subst (IsLawful (rules s)) (sym (entries_of-append s before (e ∷ []) ∙ ap (λ z. entries_of s before ++ z) (entries_elsewhere s e [] far) ∙ append-nil (entries_of s before))) (run.lawful s)
    ];
    in_order = λ so_far begins a b. elim (beginning_push so_far before e begins) [
      | inl front ↦ run.in_order so_far front a b
      | inr all ↦ subst (λ z. IsBeginningOf (receipts got a b z) (sendings a b z)) (sym all) (last a b)
    ];
  }
    where
      gets : (a b : ℕ) → IsBeginningOf (got_on got a b e) (under_way got a b before)
      gets a b = elim (cases_eq e.site b) [
        | inl here ↦ subst (λ z. IsBeginningOf (if z then got a e.entry.event else []) (under_way got a b before)) (sym (eq-eqb e.site b here))
            (subst (λ z. IsBeginningOf (got a e.entry.event) (under_way got a z before)) here (next a))
        | inr far ↦ subst (λ z. IsBeginningOf (if z then got a e.entry.event else []) (under_way got a b before)) (sym (ne_eqb e.site b far)) (beginning_nil _)
      ]

      last : (a b : ℕ) → IsBeginningOf (receipts got a b (before ++ e ∷ [])) (sendings a b (before ++ e ∷ []))
      last a b =
          let old = whole (receipts got a b before) (sendings a b before) (run.in_order before ([], append-nil before) a b) in
          let more = gets a b in (
            more.0 ++ sent_on a b e,
            ap (λ z. z ++ (more.0 ++ sent_on a b e)) (receipts-more got a b before e) ∙ append_assoc (receipts got a b before) (got_on got a b e) (more.0 ++ sent_on a b e)
                ∙ ap (λ z. receipts got a b before ++ z) (sym (append_assoc (got_on got a b e) more.0 (sent_on a b e)) ∙ ap (λ z. z ++ sent_on a b e) more.1)
                ∙ sym (append_assoc (receipts got a b before) (under_way got a b before) (sent_on a b e)) ∙ ap (λ z. z ++ sent_on a b e) old ∙ sym (sendings-more a b before e),
          )
