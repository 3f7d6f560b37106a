-- Runs grow by one entry at a time, and what cannot grow holds every run.
use Rattle.std.proofs.Common.{◌≡◌, ◌≢◌, ℕ, List, [], ◌∷◌, ◌++◌, ⊎_elim, sym, ap, subst, refl, ◌∙◌, append-nil, append_assoc, length, drop}
use Rattle.std.proofs.lemmas.Bool.{cases_eq}
use Rattle.cmh_frames.specs.declared.frame.Frame.{Frame}
use Rattle.cmh_frames.specs.Topology.{Topology}
use Rattle.cmh_frames.specs.Entries.{Entry, WorldEvent}
use Rattle.cmh_frames.specs.State.{State, empty_state}
use Rattle.cmh_frames.specs.Rules.{after}
use Rattle.cmh_frames.specs.Journals.{LawfulFrom, IsLawful, frame_from, sendings_of, receipts_of}
use Rattle.cmh_frames.specs.Runs.{IsBeginningOf, entries_of, sendings, receipts, IsRun}
use Rattle.cmh_frames.proofs.Effects.{none_from_own}
use Rattle.cmh_frames.proofs.Journals.{entries_here, entries_elsewhere, entries_of-append, lawful_front, lawful_rest, receipts_of-append}
use Rattle.cmh_frames.proofs.LongerRuns.{run_longer}
use Rattle.std.proofs.Math.Seq.{drop-append_seam}
use Rattle.cmh_audit.specs.Inner.Merging.{CanGrow}
use Rattle.cmh_frames.proofs.Beginnings.{beginning_nil, beginning_trans, beginning_more, grow, sendings_of-beginning}

pub entries_of-beginning : (site : ℕ) (xs ys : List WorldEvent) → IsBeginningOf xs ys → IsBeginningOf (entries_of site xs) (entries_of site ys)
entries_of-beginning site xs ys p = (entries_of site p.0, sym (entries_of-append site xs p.0) ∙ ap (entries_of site) p.1)

-- the run with one more entry
pub entries_of_same : (site : ℕ) (run : List WorldEvent) (w : WorldEvent) → w.site ≡ site → entries_of site (run ++ w ∷ []) ≡ entries_of site run ++ w.entry ∷ []
entries_of_same site run w h = entries_of-append site run (w ∷ []) ∙ ap (λ es. entries_of site run ++ es) (entries_here site w [] h)

pub entries_of_other : (site : ℕ) (run : List WorldEvent) (w : WorldEvent) → w.site ≢ site → entries_of site (run ++ w ∷ []) ≡ entries_of site run
entries_of_other site run w h = entries_of-append site run (w ∷ []) ∙ ap (λ es. entries_of site run ++ es) (entries_elsewhere site w [] h) ∙ append-nil (entries_of site run)

-- ---- the rules: what the merge uses of them

-- a beginning of a lawful journal is lawful
pub lawful_beginning : (t : Topology) (site : ℕ) (xs ys : List Entry) → IsBeginningOf xs ys → IsLawful t site ys → IsLawful t site xs
lawful_beginning t site xs ys p lawful = lawful_front t site empty_state xs p.0 (subst (IsLawful t site) (sym p.1) lawful)

-- nobody gets frames from its own site
none_from_self : (t : Topology) (site : ℕ) (v : State) (xs : List Entry) → LawfulFrom t site v xs → receipts_of site xs ≡ []
none_from_self t site v [] lawful = refl
none_from_self t site v (x ∷ xs) lawful =
    ap (λ fs. fs ++ receipts_of site xs) (none_from_own t site v x.event lawful.0) ∙ none_from_self t site (after t site v x.event x.declared) xs lawful.2

pub receipts_of_self : (t : Topology) (site : ℕ) (xs : List Entry) → IsLawful t site xs → receipts_of site xs ≡ []
receipts_of_self t site xs lawful = none_from_self t site empty_state xs lawful

-- ---- the merge takes one more entry

-- what lies after a beginning of a list
behind : (xs ys zs : List Frame) → IsBeginningOf (xs ++ ys) zs → IsBeginningOf ys (drop (length xs) zs)
behind xs ys zs p = (p.0, sym (drop-append_seam xs (ys ++ p.0)) ∙ ap (drop (length xs)) (sym (append_assoc xs ys p.0) ∙ p.1))

pub receipts_of_push : (a : ℕ) (es : List Entry) (e : Entry) → receipts_of a (es ++ e ∷ []) ≡ receipts_of a es ++ frame_from a e.event
receipts_of_push a es e = receipts_of-append a es (e ∷ []) ∙ ap (λ fs. receipts_of a es ++ fs) (append-nil (frame_from a e.event))

pub longer_run : (t : Topology) (run : List WorldEvent) (w : WorldEvent) → IsRun t run → CanGrow t w.site (λ site. entries_of site run) w.entry → IsRun t (run ++ w ∷ [])
longer_run t run w is_run can =
    let step = lawful_rest t w.site empty_state (entries_of w.site run) (w.entry ∷ []) can.lawful in
    run_longer t run w is_run step.0 step.1 (λ a.
    behind (receipts a w.site run) (frame_from a w.entry.event) (sendings a w.site run)
    (subst (λ fs. IsBeginningOf fs (sendings a w.site run)) (receipts_of_push a (entries_of w.site run) w.entry) (can.got a)))

-- ---- what cannot grow holds every run of beginnings

-- an entry of a run can be taken where its site holds just the entries before it and each other site at least those before it
next_can_grow : (t : Topology) (whole held : ℕ → List Entry) (run before : List WorldEvent) (w : WorldEvent) →
    IsRun t run → IsBeginningOf (before ++ w ∷ []) run → ((s : ℕ) → IsBeginningOf (entries_of s before) (held s)) →
    held w.site ++ w.entry ∷ [] ≡ entries_of w.site (before ++ w ∷ []) → CanGrow t w.site held w.entry
next_can_grow t whole held run before w is_run p within same = record {
  lawful = lawful_here;
  got = λ a. ⊎_elim (λ h. own a h) (λ h. other a h) (cases_eq w.site a);
}
  where
    lawful_here : IsLawful t w.site (held w.site ++ w.entry ∷ [])
    lawful_here = subst (IsLawful t w.site) (sym same) (lawful_beginning t w.site _ (entries_of w.site run) (entries_of-beginning w.site (before ++ w ∷ []) run p) (is_run.lawful w.site))

    own : (a : ℕ) → w.site ≡ a → IsBeginningOf (receipts_of a (held w.site ++ w.entry ∷ [])) (sendings_of w.site (held a))
    own a h =
        let P : ℕ → Type 0 = λ s. IsBeginningOf (receipts_of s (held w.site ++ w.entry ∷ [])) (sendings_of w.site (held s)) in
        let Q : List Frame → Type 0 = λ fs. IsBeginningOf fs (sendings_of w.site (held w.site)) in
        subst P h (subst Q (sym (receipts_of_self t w.site (held w.site ++ w.entry ∷ []) lawful_here)) (beginning_nil _))

    other : (a : ℕ) → w.site ≢ a → IsBeginningOf (receipts_of a (held w.site ++ w.entry ∷ [])) (sendings_of w.site (held a))
    other a h =
        let P : List Entry → Type 0 = λ es. IsBeginningOf (receipts_of a es) (sendings a w.site (before ++ w ∷ [])) in
        let Q : List Entry → Type 0 = λ es. IsBeginningOf (sendings_of w.site es) (sendings_of w.site (held a)) in
        beginning_trans _ _ _
        (subst P (sym same) (is_run.in_order (before ++ w ∷ []) p a w.site))
        (subst Q (sym (entries_of_other a before w h)) (sendings_of-beginning w.site (entries_of a before) (held a) (within a)))

pub confluence : (t : Topology) (whole held : ℕ → List Entry) (run : List WorldEvent) →
    ((s : ℕ) → IsBeginningOf (held s) (whole s)) →
    ((s : ℕ) (e : Entry) → IsBeginningOf (held s ++ e ∷ []) (whole s) → CanGrow t s held e → ⊥) →
    IsRun t run → ((s : ℕ) → IsBeginningOf (entries_of s run) (whole s)) →
    (s : ℕ) → IsBeginningOf (entries_of s run) (held s)
confluence t whole held run part stuck is_run within =
    grow run (λ before. (s : ℕ) → IsBeginningOf (entries_of s before) (held s)) (λ s. beginning_nil (held s)) step
  where
    step : (before : List WorldEvent) (w : WorldEvent) → IsBeginningOf (before ++ w ∷ []) run → ((s : ℕ) → IsBeginningOf (entries_of s before) (held s)) → (s : ℕ) → IsBeginningOf (entries_of s (before ++ w ∷ [])) (held s)
    step before w p so_far s =
        ⊎_elim
        (λ h. let P : ℕ → Type 0 = λ s. IsBeginningOf (entries_of s (before ++ w ∷ [])) (held s) in subst P h here)
        (λ h. let P : List Entry → Type 0 = λ es. IsBeginningOf es (held s) in subst P (sym (entries_of_other s before w h)) (so_far s))
        (cases_eq w.site s)
      where
        next : entries_of w.site (before ++ w ∷ []) ≡ entries_of w.site before ++ w.entry ∷ []
        next = entries_of_same w.site before w refl

        in_whole : IsBeginningOf (entries_of w.site before ++ w.entry ∷ []) (whole w.site)
        in_whole =
            let P : List Entry → Type 0 = λ es. IsBeginningOf es (whole w.site) in
            subst P next (beginning_trans _ _ _ (entries_of-beginning w.site (before ++ w ∷ []) run p) (within w.site))

        here : IsBeginningOf (entries_of w.site (before ++ w ∷ [])) (held w.site)
        here =
            let P : List Entry → Type 0 = λ es. IsBeginningOf es (held w.site) in
            let Q : List Entry → Type 0 = λ es. IsBeginningOf (es ++ w.entry ∷ []) (whole w.site) in
            ⊎_elim
            (λ q. subst P (sym next) q)
            (λ same. absurd (stuck w.site w.entry (subst Q (sym same) in_whole)
            (next_can_grow t whole held run before w is_run p so_far (ap (λ es. es ++ w.entry ∷ []) same ∙ sym next))))
            (beginning_more (entries_of w.site before) (held w.site) (whole w.site) w.entry (so_far w.site) (part w.site) in_whole)
