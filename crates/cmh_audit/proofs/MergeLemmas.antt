-- The merge takes entries one at a time, and stops where none can be taken.
use Rattle.std.proofs.Common.{◌≡◌, ℕ, ◌+◌, ◌<◌, ◌≤◌, ◌==◌, Bool, true, false, List, [], ◌∷◌, ◌++◌, length, take, drop, set, replicate, get_or, ⊎_elim, sym, ap, subst, refl, ◌∙◌, append_assoc, append-nil, if◌then◌else◌, arith, length-take-le, length-set, take-take, take_at, take-append-drop}
use Rattle.std.proofs.lemmas.Bool.{cases_eq, eq-eqb, ne_eqb}
use Rattle.std.proofs.lemmas.List.{take_more, length_push, append_cancel_left, get_or-set_same, get_or-set_other, length-replicate, get_or-replicate}
use Rattle.cmh_frames.specs.declared.frame.Frame.{Frame}
use Rattle.cmh_frames.specs.Topology.{Topology}
use Rattle.cmh_frames.specs.Entries.{Entry, WorldEvent}
use Rattle.cmh_frames.specs.Journals.{IsLawful, frames_to, frame_from, sendings_of, receipts_of}
use Rattle.cmh_frames.specs.Runs.{IsBeginningOf, IsRun, ComeFromRun, entries_of}
use Rattle.cmh_frames.proofs.Journals.{sendings_of-append, receipts_of-append}
use Rattle.cmh_journal.specs.Journal.{Journal}
use Rattle.cmh_audit.specs.Journals.{journal_of}
use Rattle.cmh_audit.specs.Inner.Places.{OneEach}
use Rattle.cmh_world.specs.Links.{Links, waiting}
use Rattle.cmh_audit.specs.Inner.Merging.{taken_of, CanGrow, IsNextFrame, MovesFrames, AreLawfulLengths, IsStuck, AreLeft}
use Rattle.cmh_frames.proofs.Beginnings.{length-beginning, push_eq}
use Rattle.cmh_frames.proofs.LongerRuns.{run_first}
use Rattle.cmh_audit.proofs.RunLemmas.{entries_of_same, entries_of_other, lawful_beginning, longer_run, receipts_of_push}
use Rattle.cmh_audit.proofs.CountLemmas.{taken_here, journal_here, taken_set_other, found, taken_within, taken_none, limit_here}

-- a merge under way: some run has the entries taken so far, and the links have what was sent and not got
pub record Merging (t : Topology) (js : List Journal) (limits counts : List ℕ) (links : Links) : Type 0 where
  pub each : length counts ≡ length js
  pub below : (k : ℕ) → k < length js → get_or counts k 0 ≤ get_or limits k 0
  pub comes : ComeFromRun t (taken_of js counts)
  pub frames : AreLeft js counts links

-- the site can't take its next entry
abbrev pub StuckAt : Topology → List Journal → List ℕ → ℕ → Type 0
StuckAt t js counts site = (e : Entry) → IsBeginningOf (taken_of js counts site ++ e ∷ []) (journal_of js site) → CanGrow t site (taken_of js counts) e → ⊥

pub merging_start : (t : Topology) (js : List Journal) (limits : List ℕ) (links : Links) → ((a b : ℕ) → waiting links a b ≡ []) → Merging t js limits (replicate (length js) 0) links
merging_start t js limits links empty = record {
  each = length-replicate (length js) 0;
  below = λ k l. subst (λ n. n ≤ get_or limits k 0) (sym (get_or-replicate (length js) k 0 0 l)) (omega arith);
  comes = ([], run_first t, λ site. sym (taken_none js (length js) site));
  frames = λ a b. ap (λ es. receipts_of a es ++ waiting links a b) (taken_none js (length js) b) ∙ empty a b ∙ sym (ap (sendings_of b) (taken_none js (length js) a));
}

take_beginning : (m n : ℕ) (xs : List Entry) → m ≤ n → IsBeginningOf (take m xs) (take n xs)
take_beginning m n xs l = (drop m (take n xs), ap (λ es. es ++ drop m (take n xs)) (sym (take-take m n xs l)) ∙ take-append-drop m (take n xs))

receipts_of_if : (a : ℕ) (es : List Entry) (e : Entry) (t : Bool) → receipts_of a (es ++ (if t then e ∷ [] else [])) ≡ receipts_of a es ++ (if t then frame_from a e.event else [])
receipts_of_if a es e true = receipts_of_push a es e
receipts_of_if a es e false = receipts_of-append a es []

sendings_of_if : (b : ℕ) (es : List Entry) (e : Entry) (t : Bool) → sendings_of b (es ++ (if t then e ∷ [] else [])) ≡ sendings_of b es ++ (if t then frames_to b e.sent else [])
sendings_of_if b es e true = sendings_of-append b es (e ∷ []) ∙ ap (λ fs. sendings_of b es ++ fs) (append-nil (frames_to b e.sent))
sendings_of_if b es e false = sendings_of-append b es []

-- ---- one more entry

module _ (t : Topology) (js : List Journal) (limits counts : List ℕ) (old new : Links) (one : OneEach js) (are : AreLawfulLengths t js limits) (m : Merging t js limits counts old)
    (k : ℕ) (j : Journal) (l : k < length js) (here : j ≡ get_or js k j) (e : Entry) (room : get_or counts k 0 < get_or limits k 0) (is : e ≡ get_or j.entries (get_or counts k 0) e)
    (next : IsNextFrame old j.site e.event) (moves : MovesFrames old new j.site e) where
  longer : List ℕ
  longer = set counts k (get_or counts k 0 + 1)

  in_journal : get_or counts k 0 < length j.entries
  in_journal = let h = (limit_here t js limits k j are l here).within in omega (arith, h)

  grown_take : take (get_or counts k 0 + 1) j.entries ≡ taken_of js counts j.site ++ e ∷ []
  grown_take =
      take_more j.entries (get_or counts k 0) e in_journal ∙ ap (λ x. take (get_or counts k 0) j.entries ++ x ∷ []) (sym is)
      ∙ ap (λ es. es ++ e ∷ []) (sym (taken_here js counts k j one m.each l here))

  grown_here : taken_of js (set counts k (get_or counts k 0 + 1)) j.site ≡ taken_of js counts j.site ++ e ∷ []
  grown_here =
      taken_here js (set counts k (get_or counts k 0 + 1)) k j one (length-set counts k _ ∙ m.each) l here
      ∙ ap (λ n. take n j.entries) (get_or-set_same counts k (get_or counts k 0 + 1) 0 (subst (λ n. k < n) (sym m.each) l))
      ∙ grown_take

  grown : (site : ℕ) → taken_of js (set counts k (get_or counts k 0 + 1)) site ≡ taken_of js counts site ++ (if j.site == site then e ∷ [] else [])
  grown site =
      ⊎_elim
      (λ h. let P : ℕ → Type 0 = λ s. taken_of js (set counts k (get_or counts k 0 + 1)) s ≡ taken_of js counts s ++ (if j.site == s then e ∷ [] else []) in
      subst P h (grown_here ∙ ap (λ t. taken_of js counts j.site ++ (if t then e ∷ [] else [])) (sym (eq-eqb j.site j.site refl))))
      (λ h. taken_set_other js counts k (get_or counts k 0 + 1) site j l here h ∙ sym (append-nil _) ∙ ap (λ t. taken_of js counts site ++ (if t then e ∷ [] else [])) (sym (ne_eqb j.site site h)))
      (cases_eq j.site site)

  can_grow : CanGrow t j.site (taken_of js counts) e
  can_grow = record {
    lawful = subst (IsLawful t j.site) grown_take
        (lawful_beginning t j.site (take (get_or counts k 0 + 1) j.entries) (take (get_or limits k 0) j.entries)
        (take_beginning (get_or counts k 0 + 1) (get_or limits k 0) j.entries (omega arith)) (limit_here t js limits k j are l here).lawful);
    got = λ a. (
      (next a).0,
      ap (λ fs. fs ++ (next a).0) (receipts_of_push a (taken_of js counts j.site) e)
          ∙ append_assoc (receipts_of a (taken_of js counts j.site)) (frame_from a e.event) (next a).0
          ∙ ap (λ fs. receipts_of a (taken_of js counts j.site) ++ fs) (next a).1
          ∙ m.frames a j.site,
    );
  }

  below_more : (q : ℕ) → q < length js → get_or (set counts k (get_or counts k 0 + 1)) q 0 ≤ get_or limits q 0
  below_more q lq =
      ⊎_elim
      (λ h. subst (λ q. get_or (set counts k (get_or counts k 0 + 1)) q 0 ≤ get_or limits q 0) (sym h)
      (subst (λ v. v ≤ get_or limits k 0) (sym (get_or-set_same counts k (get_or counts k 0 + 1) 0 (subst (λ n. k < n) (sym m.each) l))) (omega arith)))
      (λ ne. subst (λ v. v ≤ get_or limits q 0) (sym (get_or-set_other counts k q (get_or counts k 0 + 1) 0 ne)) (m.below q lq))
      (cases_eq q k)

  member : WorldEvent
  member = record { site = j.site; entry = e }

  run_can_grow : CanGrow t j.site (λ site. entries_of site m.comes.0) e
  run_can_grow = record {
    lawful = subst (λ es. IsLawful t j.site (es ++ e ∷ [])) (sym (m.comes.2 j.site)) can_grow.lawful;
    got = λ a.
        let P : List Entry → Type 0 = λ es. IsBeginningOf (receipts_of a (es ++ e ∷ [])) (sendings_of j.site (entries_of a m.comes.0)) in
        let Q : List Entry → Type 0 = λ es. IsBeginningOf (receipts_of a (taken_of js counts j.site ++ e ∷ [])) (sendings_of j.site es) in
        subst P (sym (m.comes.2 j.site)) (subst Q (sym (m.comes.2 a)) (can_grow.got a));
  }

  -- the run with this entry more
  pub run_more : IsRun t (m.comes.0 ++ record { site = j.site; entry = e } ∷ [])
  run_more = longer_run t m.comes.0 (record { site = j.site; entry = e }) m.comes.1 run_can_grow

  pub entries_more : (site : ℕ) → entries_of site (m.comes.0 ++ record { site = j.site; entry = e } ∷ []) ≡ taken_of js (set counts k (get_or counts k 0 + 1)) site
  entries_more site =
      ⊎_elim
      (λ h. let P : ℕ → Type 0 = λ s. entries_of s (m.comes.0 ++ record { site = j.site; entry = e } ∷ []) ≡ taken_of js (set counts k (get_or counts k 0 + 1)) s in
      subst P h (entries_of_same j.site m.comes.0 (record { site = j.site; entry = e }) refl ∙ ap (λ es. es ++ e ∷ []) (m.comes.2 j.site) ∙ sym grown_here))
      (λ h. entries_of_other site m.comes.0 (record { site = j.site; entry = e }) h ∙ m.comes.2 site ∙ sym (taken_set_other js counts k (get_or counts k 0 + 1) site j l here h))
      (cases_eq j.site site)

  frames_more : (a b : ℕ) → receipts_of a (taken_of js (set counts k (get_or counts k 0 + 1)) b) ++ waiting new a b ≡ sendings_of b (taken_of js (set counts k (get_or counts k 0 + 1)) a)
  frames_more a b =
      let part : List Frame = if j.site == b then frame_from a e.event else [] in
      let sent : List Frame = if j.site == a then frames_to b e.sent else [] in
      ap (λ fs. fs ++ waiting new a b) (ap (receipts_of a) (grown b) ∙ receipts_of_if a (taken_of js counts b) e (j.site == b))
      ∙ append_assoc (receipts_of a (taken_of js counts b)) part (waiting new a b)
      ∙ ap (λ fs. receipts_of a (taken_of js counts b) ++ fs) (moves a b)
      ∙ sym (append_assoc (receipts_of a (taken_of js counts b)) (waiting old a b) sent)
      ∙ ap (λ fs. fs ++ sent) (m.frames a b)
      ∙ sym (ap (sendings_of b) (grown a) ∙ sendings_of_if b (taken_of js counts a) e (j.site == a))

  pub merging_more : Merging t js limits (set counts k (get_or counts k 0 + 1)) new
  merging_more = record {
    each = length-set counts k _ ∙ m.each;
    below = below_more;
    comes = (m.comes.0 ++ record { site = j.site; entry = e } ∷ [], run_more, entries_more);
    frames = frames_more;
  }

-- ---- no more entries

-- the entry after a beginning
next_is : (xs : List Entry) (n : ℕ) (e : Entry) → n ≤ length xs → IsBeginningOf (take n xs ++ e ∷ []) xs → (n < length xs) × (take (n + 1) xs ≡ take n xs ++ e ∷ [])
next_is xs n e l p =
    let long : length (take n xs) ≡ n = length-take-le n xs l in
    let more : length (take n xs ++ e ∷ []) ≡ n + 1 = length_push (take n xs) e ∙ ap (λ x. x + 1) long in
    let fits : length (take n xs ++ e ∷ []) ≤ length xs = length-beginning _ xs p in
    (omega (arith, more, fits), ap (take (n + 1)) (sym p.1) ∙ take_at (take n xs ++ e ∷ []) p.0 (n + 1) more)

module _ (t : Topology) (js : List Journal) (limits counts : List ℕ) (links : Links) (one : OneEach js) (are : AreLawfulLengths t js limits) (m : Merging t js limits counts links)
    (k : ℕ) (j : Journal) (l : k < length js) (here : j ≡ get_or js k j) where
  within_journal : get_or counts k 0 ≤ length j.entries
  within_journal = let h = (limit_here t js limits k j are l here).within in let b = m.below k l in omega (arith, h, b)

  following : (e : Entry) → IsBeginningOf (taken_of js counts j.site ++ e ∷ []) (journal_of js j.site) → (get_or counts k 0 < length j.entries) × (take (get_or counts k 0 + 1) j.entries ≡ take (get_or counts k 0) j.entries ++ e ∷ [])
  following e p =
      let P : List Entry → Type 0 = λ es. IsBeginningOf (es ++ e ∷ []) (journal_of js j.site) in
      let Q : List Entry → Type 0 = λ es. IsBeginningOf (take (get_or counts k 0) j.entries ++ e ∷ []) es in
      next_is j.entries (get_or counts k 0) e within_journal
      (subst Q (journal_here js k j one l here) (subst P (taken_here js counts k j one m.each l here) p))

  -- all lawful entries were taken
  pub stuck_at_limit : get_or limits k 0 ≤ get_or counts k 0 → StuckAt t js counts j.site
  stuck_at_limit past e p can =
      let f = following e p in
      let same : get_or counts k 0 ≡ get_or limits k 0 = let b = m.below k l in omega (arith, b) in
      let lawful : IsLawful t j.site (take (get_or counts k 0 + 1) j.entries) =
      subst (IsLawful t j.site) (ap (λ es. es ++ e ∷ []) (taken_here js counts k j one m.each l here) ∙ sym f.1) can.lawful in
      (limit_here t js limits k j are l here).stops (subst (λ n. n < length j.entries) same f.0) (subst (λ n. IsLawful t j.site (take (n + 1) j.entries)) same lawful)

  -- the next entry got what is not the next frame
  pub stuck_at_frame : (e : Entry) → get_or counts k 0 < get_or limits k 0 → e ≡ get_or j.entries (get_or counts k 0) e → (IsNextFrame links j.site e.event → ⊥) → StuckAt t js counts j.site
  stuck_at_frame e room is not_next f p can = not_next (λ a. subst (λ x. IsBeginningOf (frame_from a x.event) (waiting links a j.site)) same (begins a))
    where
      same : f ≡ e
      same =
          let within = (limit_here t js limits k j are l here).within in
          (push_eq (take (get_or counts k 0) j.entries) (take (get_or counts k 0) j.entries) f e
          (sym (following f p).1 ∙ take_more j.entries (get_or counts k 0) e (omega (arith, within)) ∙ ap (λ x. take (get_or counts k 0) j.entries ++ x ∷ []) (sym is))).1

      begins : (a : ℕ) → IsBeginningOf (frame_from a f.event) (waiting links a j.site)
      begins a = (
        (can.got a).0,
        append_cancel_left (receipts_of a (taken_of js counts j.site)) _ _
            (sym (append_assoc (receipts_of a (taken_of js counts j.site)) (frame_from a f.event) (can.got a).0)
            ∙ ap (λ fs. fs ++ (can.got a).0) (sym (receipts_of_push a (taken_of js counts j.site) f))
            ∙ (can.got a).1
            ∙ sym (m.frames a j.site)),
      )

none_left : (xs : List Entry) (e : Entry) → IsBeginningOf (xs ++ e ∷ []) [] → ⊥
none_left [] e p = let h : e ∷ p.0 ≡ [] = p.1 in cc
none_left (x ∷ xs) e p = let h : x ∷ ((xs ++ e ∷ []) ++ p.0) ≡ [] = p.1 in cc

-- where each journal is stuck, the merge is
pub all_stuck : (t : Topology) (js : List Journal) (limits counts : List ℕ) (links : Links) → Merging t js limits counts links →
    ((k : ℕ) (j : Journal) → k < length js → j ≡ get_or js k j → StuckAt t js counts j.site) → IsStuck t js counts
all_stuck t js limits counts links m each = record {
  each = m.each;
  comes = m.comes;
  within = λ site. taken_within js counts site m.each;
  stuck = λ site e p can. ⊎_elim
      (λ f. subst (StuckAt t js counts) f.4 (each f.0 f.1 f.2 f.3) e p can)
      (λ none. none_left (taken_of js counts site) e (let P : List Entry → Type 0 = λ es. IsBeginningOf (taken_of js counts site ++ e ∷ []) es in subst P none p))
      (found js site);
}
