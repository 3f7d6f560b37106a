-- A merge that cannot go on has taken as much as any list in order can have.
use Rattle.std.proofs.Common.{◌≡◌, ◌≢◌, ℕ, ◌<◌, List, [], ◌∷◌, ◌++◌, length, inl, inr, sym, ap, subst, refl, ◌∙◌, append_assoc, append-nil}
use Rattle.std.proofs.lemmas.Bool.{cases_eq}
use Rattle.std.proofs.lemmas.List.{append_cancel_left, append_cancel_right}
use Rattle.cmh_runs.specs.declared.entry.Entry.{Entry}
use Rattle.cmh_runs.specs.declared.entry.WorldEvent.{WorldEvent}
use Rattle.cmh_runs.specs.Journals.{receipts_of, sendings_of}
use Rattle.cmh_runs.specs.Runs.{IsBeginningOf, entries_of, sendings}
use Rattle.cmh_runs.proofs.Beginnings.{beginning_more, beginning_nil, beginning_trans, grow}
use Rattle.cmh_runs.proofs.Journals.{entries_elsewhere, entries_here, entries_of-append, receipts_of-append, receipts_of-beginning, sendings_of-beginning}
use Rattle.cmh_merge.specs.Queues.{Queues, waiting}
use Rattle.cmh_merge.specs.Merges.{IsInOrderFrom, IsMergeFrom, LeavesUnderWay, NoneFromItself, journal_of}
use Rattle.cmh_merge.specs.Inner.Merging.{IsMerging, StuckAt}
use Rattle.cmh_merge.proofs.SiteLists.{place_of_some}

none_of : {X : Type 0} (xs ys : List X) → IsBeginningOf xs ys → ys ≡ [] → xs ≡ []
none_of [] ys p e = refl
none_of (x ∷ xs) ys p e = let h : x ∷ (xs ++ p.0) ≡ [] = p.1 ∙ e in absurd (cc h)

module _ {E F : Type 0} (got : ℕ → E → List F) where
  receipts_push : (a : ℕ) (es : List (Entry E F)) (e : Entry E F) → receipts_of got a (es ++ e ∷ []) ≡ receipts_of got a es ++ got a e.event
  receipts_push a es e = receipts_of-append got a es (e ∷ []) ∙ ap (λ z. receipts_of got a es ++ z) (append-nil (got a e.event))

  -- an entry that a site may take next, where each site holds these entries
  abbrev Grows : (ℕ → ℕ → List F) → (ℕ → List (Entry E F)) → ℕ → Entry E F → Type 0
  Grows first held s e = (a : ℕ) → IsBeginningOf (receipts_of got a (held s ++ e ∷ [])) (first a s ++ sendings_of s (held a))

  -- what begins the sendings begins them behind what was under way
  begins_behind : (front xs ys : List F) → IsBeginningOf xs ys → IsBeginningOf (front ++ xs) (front ++ ys)
  begins_behind front xs ys p = (p.0, append_assoc front xs p.0 ∙ ap (λ z. front ++ z) p.1)

  module _ (first : ℕ → ℕ → List F) (whole held : ℕ → List (Entry E F)) (own : NoneFromItself got whole) (part : (s : ℕ) → IsBeginningOf (held s) (whole s))
      (stuck : (s : ℕ) (e : Entry E F) → IsBeginningOf (held s ++ e ∷ []) (whole s) → Grows first held s e → ⊥)
      (others : List (WorldEvent E F)) (in_order : IsInOrderFrom got first others) (within : (s : ℕ) → IsBeginningOf (entries_of s others) (whole s)) where
    entries_begin : (s : ℕ) (before : List (WorldEvent E F)) → IsBeginningOf before others → IsBeginningOf (entries_of s before) (entries_of s others)
    entries_begin s before p = (entries_of s p.0, sym (entries_of-append s before p.0) ∙ ap (entries_of s) p.1)

    same_site : (s : ℕ) (before : List (WorldEvent E F)) (w : WorldEvent E F) → w.site ≡ s → entries_of s (before ++ w ∷ []) ≡ entries_of s before ++ w.entry ∷ []
    same_site s before w h = entries_of-append s before (w ∷ []) ∙ ap (λ z. entries_of s before ++ z) (entries_here s w [] h)

    other_site : (s : ℕ) (before : List (WorldEvent E F)) (w : WorldEvent E F) → w.site ≢ s → entries_of s (before ++ w ∷ []) ≡ entries_of s before
    other_site s before w h = entries_of-append s before (w ∷ []) ∙ ap (λ z. entries_of s before ++ z) (entries_elsewhere s w [] h) ∙ append-nil (entries_of s before)

    module _ (before : List (WorldEvent E F)) (w : WorldEvent E F) (p : IsBeginningOf (before ++ w ∷ []) others) (so_far : (s : ℕ) → IsBeginningOf (entries_of s before) (held s)) where
      in_whole : IsBeginningOf (entries_of w.site before ++ w.entry ∷ []) (whole w.site)
      in_whole = subst (λ z. IsBeginningOf z (whole w.site)) (same_site w.site before w refl) (beginning_trans _ _ _ (entries_begin w.site (before ++ w ∷ []) p) (within w.site))

      grows : held w.site ≡ entries_of w.site before → Grows first held w.site w.entry
      grows same a = elim (cases_eq w.site a) [
        | inl here ↦ subst (λ z. IsBeginningOf (receipts_of got z (held w.site ++ w.entry ∷ [])) (first z w.site ++ sendings_of w.site (held z))) here
            (subst (λ z. IsBeginningOf z (first w.site w.site ++ sendings_of w.site (held w.site))) (sym none) (beginning_nil _))
        | inr far ↦ beginning_trans _ _ _
            (subst (λ z. IsBeginningOf (receipts_of got a z) (first a w.site ++ sendings a w.site (before ++ w ∷ []))) (same_site w.site before w refl ∙ ap (λ z. z ++ w.entry ∷ []) (sym same)) (in_order (before ++ w ∷ []) p a w.site))
            (subst (λ z. IsBeginningOf (first a w.site ++ sendings_of w.site z) (first a w.site ++ sendings_of w.site (held a))) (sym (other_site a before w far))
            (begins_behind (first a w.site) _ _ (sendings_of-beginning w.site (entries_of a before) (held a) (so_far a))))
      ]
        where
          none : receipts_of got w.site (held w.site ++ w.entry ∷ []) ≡ []
          none = none_of _ _ (receipts_of-beginning got w.site _ (whole w.site) (subst (λ z. IsBeginningOf (z ++ w.entry ∷ []) (whole w.site)) (sym same) in_whole)) (own w.site)

      step : (s : ℕ) → IsBeginningOf (entries_of s (before ++ w ∷ [])) (held s)
      step s = elim (cases_eq w.site s) [
        | inl here ↦ subst (λ z. IsBeginningOf (entries_of z (before ++ w ∷ [])) (held z)) here at_site
        | inr far ↦ subst (λ z. IsBeginningOf z (held s)) (sym (other_site s before w far)) (so_far s)
      ]
        where
          at_site : IsBeginningOf (entries_of w.site (before ++ w ∷ [])) (held w.site)
          at_site = elim (beginning_more (entries_of w.site before) (held w.site) (whole w.site) w.entry (so_far w.site) (part w.site) in_whole) [
            | inl more ↦ subst (λ z. IsBeginningOf z (held w.site)) (sym (same_site w.site before w refl)) more
            | inr same ↦ absurd (stuck w.site w.entry (subst (λ z. IsBeginningOf (z ++ w.entry ∷ []) (whole w.site)) (sym same) in_whole) (grows same))
          ]

    pub confluence : (s : ℕ) → IsBeginningOf (entries_of s others) (held s)
    confluence = grow others (λ before. (s : ℕ) → IsBeginningOf (entries_of s before) (held s)) (λ s. beginning_nil (held s)) step

  module _ (first : ℕ → ℕ → List F) (sites : List ℕ) (journals left : List (List (Entry E F))) (queues : Queues F) (order : List ℕ) (long : length left ≡ length sites)
      (m : IsMerging got sites first journals left queues order) (stuck : (k : ℕ) → k < length sites → StuckAt got sites left queues k) where
    abbrev held : ℕ → List (Entry E F)
    held s = entries_of s m.events

    stuck_here : (s : ℕ) (e : Entry E F) → IsBeginningOf (held s ++ e ∷ []) (journal_of sites journals s) → Grows first held s e → ⊥
    stuck_here s e begins can =
        let next : journal_of sites left s ≡ e ∷ begins.0 = append_cancel_left (held s) _ _ (m.rest s ∙ sym begins.1 ∙ append_assoc (held s) (e ∷ []) begins.0) in
        let place = place_of_some sites left s e begins.0 next in
        stuck place.0 place.1 e begins.0 place.3 (λ a. subst (λ z. IsBeginningOf (got a e.event) (waiting queues a z)) (sym place.2) (
          (can a).0,
          append_cancel_left (receipts_of got a (held s)) _ _
              (sym (append_assoc (receipts_of got a (held s)) (got a e.event) (can a).0)
              ∙ ap (λ z. z ++ (can a).0) (sym (receipts_push a (held s) e)) ∙ (can a).1 ∙ sym (m.under_way a s)),
        ))

    pub merged : IsMergeFrom got first sites journals left order
    merged = record {
      events = m.events;
      in_turn = m.in_turn;
      in_order = m.in_order;
      rest = m.rest;
      most = λ own others in_order within. confluence first (journal_of sites journals) held own (λ s. (journal_of sites left s, m.rest s)) stuck_here others in_order within;
    }

  -- what is in the queues is what any list of what was taken leaves under way
  pub left_under_way : (first : ℕ → ℕ → List F) (sites : List ℕ) (journals left : List (List (Entry E F))) (queues : Queues F) (order : List ℕ)
      → IsMerging got sites first journals left queues order → LeavesUnderWay got first sites journals left (waiting queues)
  left_under_way first sites journals left queues order m events rest a b =
      let same : (s : ℕ) → entries_of s m.events ≡ entries_of s events =
      λ s. append_cancel_right (entries_of s m.events) (entries_of s events) (journal_of sites left s) (m.rest s ∙ sym (rest s)) in
      ap (λ es. receipts_of got a es ++ waiting queues a b) (sym (same b)) ∙ m.under_way a b ∙ ap (λ es. first a b ++ sendings_of b es) (same a)
