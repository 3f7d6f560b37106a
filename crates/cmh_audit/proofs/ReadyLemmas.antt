-- The merge with a list of sites that may go on.
use Rattle.std.proofs.Common.{◌≡◌, ◌≢◌, ℕ, zero, suc, ◌+◌, ◌-◌, ◌*◌, ◌<◌, ◌≤◌, List, [], ◌∷◌, ◌++◌, length, set, replicate, get_or, Option, Some, None, ◌⊎◌, inl, inr, ⊎_elim, sym, ap, subst, refl, ◌∙◌, ◌==◌, if◌then◌else◌, arith, append-nil, length-append, length-set, mul-le-mul_right}
use Rattle.std.specs.Prelude.{Contains}
use Rattle.std.proofs.lemmas.Bool.{cases_eq, eq-eqb, ne_eqb}
use Rattle.std.proofs.lemmas.List.{length-replicate, get_or_default, get_or-set_same, get_or-set_other}
use Rattle.cmh_frames.proofs.Members.{no_member}
use Rattle.cmh_frames.specs.declared.frame.Frame.{Frame}
use Rattle.cmh_frames.specs.Topology.{Topology}
use Rattle.cmh_frames.specs.declared.event.Event.{Event}
use Rattle.cmh_frames.specs.declared.event.Event.TheVariants.{Got}
use Rattle.cmh_frames.specs.Entries.{Entry}
use Rattle.cmh_frames.specs.Journals.{frames_to, frame_from}
use Rattle.cmh_frames.specs.Runs.{IsBeginningOf}
use Rattle.cmh_journal.specs.Journal.{Journal}
use Rattle.cmh_audit.specs.Journals.{entry_count}
use Rattle.cmh_audit.specs.Inner.Places.{OneEach}
use Rattle.cmh_world.specs.Links.{Links, waiting}
use Rattle.cmh_audit.specs.Inner.Merging.{AreLawfulLengths, IsStuck, IsNextFrame, MovesFrames, total, AreTried}
use Rattle.cmh_audit.specs.Inner.Ready.{Wakes, ArePlaces, parked_count}
use Rattle.cmh_audit.proofs.CountLemmas.{total-set, total-none, total-le, limit_here}
use Rattle.cmh_cycles.proofs.Members.{contains_left, contains_last, contains_push}
use Rattle.cmh_audit.proofs.SendLemmas.{apart_sites}
use Rattle.cmh_audit.proofs.TryLemmas.{tried_start, tried_failed, tried_took}
use Rattle.cmh_audit.proofs.MergeLemmas.{Merging, merging_start, merging_more, stuck_at_limit, stuck_at_frame, all_stuck}

-- ---- how many sites lack a frame

parked-set : (lacks : List (Option ℕ)) (k a : ℕ) → parked_count (set lacks k (Some a)) ≤ parked_count lacks + 1
parked-set [] k a = omega arith
parked-set (None ∷ lacks) zero a = omega arith
parked-set (Some b ∷ lacks) zero a = omega arith
parked-set (None ∷ lacks) (suc k) a = parked-set lacks k a
parked-set (Some b ∷ lacks) (suc k) a = let m = parked-set lacks k a in omega (arith, m)

parked-none : (n : ℕ) → parked_count (replicate n None) ≡ 0
parked-none zero = refl
parked-none (suc n) = parked-none n

-- ---- the merge

-- the site waits for a frame of another that isn't there
abbrev pub IsParked : List Journal → List ℕ → List ℕ → Links → ℕ → Journal → Option ℕ → Type 0
IsParked js limits counts links k j o =
    (a : ℕ) × (frame : Frame) × (e : Entry) × (o ≡ Some a) × (get_or counts k 0 < get_or limits k 0) × (e ≡ get_or j.entries (get_or counts k 0) e) × (e.event ≡ Got a frame) × (IsNextFrame links j.site e.event → ⊥)

-- each site is on the list, has no lawful entry left, or waits for a frame
pub record Listed (t : Topology) (js : List Journal) (limits counts : List ℕ) (links : Links) (lacks : List (Option ℕ)) (ready : List ℕ) (tries : ℕ) : Type 0 where
  pub merging : Merging t js limits counts links
  pub long : length lacks ≡ length js
  pub inside : (k : ℕ) → Contains ready k → k < length js
  pub each : (k : ℕ) (j : Journal) → k < length js → j ≡ get_or js k j → Contains ready k ⊎ ((get_or limits k 0 ≤ get_or counts k 0) ⊎ IsParked js limits counts links k j (get_or lacks k None))
  pub even : length ready + parked_count lacks ≤ length js
  pub bound : tries + length ready ≤ (total counts + 1) * length js
  pub tried : AreTried js counts ready tries

pub listed_end : {t : Topology} {js : List Journal} {limits counts : List ℕ} {links : Links} {lacks : List (Option ℕ)} {tries : ℕ} → OneEach js → AreLawfulLengths t js limits → Listed t js limits counts links lacks [] tries → IsStuck t js counts
listed_end {t} {js} {limits} {counts} {links} {lacks} {tries} one are s = all_stuck t js limits counts links s.merging (λ k j l here.
    ⊎_elim (λ c. absurd (no_member k c)) (λ r. ⊎_elim
    (λ past. stuck_at_limit t js limits counts links one are s.merging k j l here past)
    (λ p. stuck_at_frame t js limits counts links one are s.merging k j l here p.2 p.4 p.5 p.7)
    r) (s.each k j l here))

pub listed_tries : {t : Topology} {js : List Journal} {limits counts : List ℕ} {links : Links} {lacks : List (Option ℕ)} {ready : List ℕ} {tries : ℕ} → AreLawfulLengths t js limits → Listed t js limits counts links lacks ready tries → tries + length ready ≤ (entry_count js + 1) * length js
listed_tries {t} {js} {limits} {counts} {links} {lacks} {ready} {tries} are s =
    let fits = total-le t js limits counts are s.merging.each s.merging.below in
    let times = mul-le-mul_right (length js) fits in
    let b = s.bound in
    omega (arith, times, b)

-- the site was taken from the list and has no lawful entry left
pub listed_done : (t : Topology) (js : List Journal) (limits counts : List ℕ) (links : Links) (lacks : List (Option ℕ)) (ready : List ℕ) (tries more i : ℕ) → more ≤ tries + 1 → AreTried js counts ready more → Listed t js limits counts links lacks (ready ++ i ∷ []) tries → get_or limits i 0 ≤ get_or counts i 0 → Listed t js limits counts links lacks ready more
listed_done t js limits counts links lacks ready tries more i le tried s past = record {
  merging = s.merging;
  long = s.long;
  inside = λ k c. s.inside k (contains_left ready (i ∷ []) k c);
  each = λ k j l here. ⊎_elim
      (λ c. ⊎_elim (λ d. inl d) (λ (e : k ≡ i). inr (inl (subst (λ n. get_or limits n 0 ≤ get_or counts n 0) (sym e) past))) (contains_push ready i k c))
      (λ r. inr r)
      (s.each k j l here);
  even = let b = s.even in let n = length-append ready (i ∷ []) in omega (arith, b, n);
  bound = let b = s.bound in let n = length-append ready (i ∷ []) in omega (arith, b, n, le);
  tried = tried;
}

-- the site was taken from the list and lacks a frame of a
pub listed_parked : (t : Topology) (js : List Journal) (limits counts : List ℕ) (links : Links) (lacks : List (Option ℕ)) (ready : List ℕ) (tries i : ℕ) (j : Journal) (a : ℕ) (frame : Frame) (e : Entry) →
    Listed t js limits counts links lacks (ready ++ i ∷ []) tries → i < length js → j ≡ get_or js i j → get_or counts i 0 < get_or limits i 0 → e ≡ get_or j.entries (get_or counts i 0) e → e.event ≡ Got a frame → (IsNextFrame links j.site e.event → ⊥) → get_or counts i 0 < length j.entries →
    Listed t js limits counts links (set lacks i (Some a)) ready (tries + 1)
listed_parked t js limits counts links lacks ready tries i j a frame e s l here room is got not_next inside = record {
  merging = s.merging;
  long = length-set lacks i (Some a) ∙ s.long;
  inside = λ k c. s.inside k (contains_left ready (i ∷ []) k c);
  each = λ k x lk at. ⊎_elim
      (λ (q : k ≡ i). inr (inr (parked k x q at)))
      (λ (ne : k ≢ i). ⊎_elim
      (λ c. ⊎_elim (λ d. inl d) (λ (q : k ≡ i). absurd (ne q)) (contains_push ready i k c))
      (λ r. inr (⊎_elim (λ past. inl past) (λ p. inr (p.0, p.1, p.2, get_or-set_other lacks i k (Some a) None ne ∙ p.3, p.4, p.5, p.6, p.7)) r))
      (s.each k x lk at))
      (cases_eq k i);
  even = let b = s.even in let n = length-append ready (i ∷ []) in let p = parked-set lacks i a in omega (arith, b, n, p);
  bound = let b = s.bound in let n = length-append ready (i ∷ []) in omega (arith, b, n);
  tried = tried_failed js counts ready tries i j s.tried l here inside;
}
  where
    parked : (k : ℕ) (x : Journal) → k ≡ i → x ≡ get_or js k x → IsParked js limits counts links k x (get_or (set lacks i (Some a)) k None)
    parked k x q at =
        let same : j ≡ x = here ∙ ap (λ n. get_or js n j) (sym q) ∙ get_or_default js k j x (subst (λ n. n < length js) (sym q) l) ∙ sym at in
        let P : Journal → Type 0 = λ y. IsParked js limits counts links i y (get_or (set lacks i (Some a)) i None) in
        let Q : ℕ → Type 0 = λ n. IsParked js limits counts links n x (get_or (set lacks i (Some a)) n None) in
        subst Q (sym q) (subst P same (a, frame, e, get_or-set_same lacks i (Some a) None (subst (λ n. i < n) (sym s.long) l), room, is, got, not_next))

-- an entry of another site that sends nothing here, where it is the sender, changes nothing for a frame that is lacked
still_lacked : (old new : Links) (own site a : ℕ) (frame : Frame) (taken waiting_for : Entry) → MovesFrames old new own taken → (own ≡ a → frames_to site taken.sent ≡ []) → own ≢ site → waiting_for.event ≡ Got a frame → IsNextFrame new site waiting_for.event → IsNextFrame old site waiting_for.event
still_lacked old new own site a frame taken waiting_for moves sender receiver is next =
    let N : Event → Type 0 = λ event. IsNextFrame old site event in
    let M : Event → Type 0 = λ event. IsNextFrame new site event in
    let g : M (Got a frame) = subst M is next in
    subst N (sym is) (λ b. ⊎_elim
    (λ (e : a ≡ b). let P : ℕ → Type 0 = λ s. IsBeginningOf (frame_from s (Got a frame)) (waiting old s site) in
    subst P e (subst (λ l. IsBeginningOf (frame_from a (Got a frame)) l) same (g a)))
    (λ (ne : a ≢ b). subst (λ t. IsBeginningOf (if t then frame ∷ [] else []) (waiting old b site)) (sym (ne_eqb a b ne)) (waiting old b site, refl))
    (cases_eq a b))
  where
    none : (if own == a then frames_to site taken.sent else []) ≡ []
    none = ⊎_elim
        (λ (e : own ≡ a). ap (λ t. if t then frames_to site taken.sent else []) (eq-eqb own a e) ∙ sender e)
        (λ (ne : own ≢ a). ap (λ t. if t then frames_to site taken.sent else []) (ne_eqb own a ne))
        (cases_eq own a)

    same : waiting new a site ≡ waiting old a site
    same =
        sym (ap (λ t. (if t then frame_from a taken.event else []) ++ waiting new a site) (ne_eqb own site receiver))
        ∙ moves a site
        ∙ ap (λ fs. waiting old a site ++ fs) none
        ∙ append-nil (waiting old a site)

-- the site was taken from the list and took an entry
pub listed_took : (t : Topology) (js : List Journal) (limits counts : List ℕ) (old new : Links) (before lacks : List (Option ℕ)) (first ready : List ℕ) (tries i : ℕ) (j : Journal) (e : Entry) → OneEach js → AreLawfulLengths t js limits →
    Listed t js limits counts old before (first ++ i ∷ []) tries → i < length js → j ≡ get_or js i j → get_or counts i 0 < get_or limits i 0 → e ≡ get_or j.entries (get_or counts i 0) e → IsNextFrame old j.site e.event → MovesFrames old new j.site e →
    Wakes js e.sent first ready before lacks j.site → Listed t js limits (set counts i (get_or counts i 0 + 1)) new lacks (ready ++ i ∷ []) (tries + 1)
listed_took t js limits counts old new before lacks first ready tries i j e one are s l here room is next moves w = record {
  merging = merging_more t js limits counts old new one are s.merging i j l here e room is next moves;
  long = w.long ∙ s.long;
  inside = λ k c. ⊎_elim (λ d. ⊎_elim (λ f. s.inside k (contains_left first (i ∷ []) k f)) (λ m. m) (w.inside k d)) (λ (q : k ≡ i). subst (λ n. n < length js) (sym q) l) (contains_push ready i k c);
  each = λ k x lk at. ⊎_elim
      (λ (q : k ≡ i). inl (subst (Contains (ready ++ i ∷ [])) (sym q) (contains_last ready i)))
      (λ (ne : k ≢ i). ⊎_elim
      (λ c. inl (contains_left ready (i ∷ []) k c))
      (λ p. ⊎_elim
      (λ c. ⊎_elim (λ d. inl (contains_left ready (i ∷ []) k (w.kept k d))) (λ (q : k ≡ i). absurd (ne q)) (contains_push first i k c))
      (λ r. inr (⊎_elim
      (λ past. inl (subst (λ n. get_or limits k 0 ≤ n) (sym (get_or-set_other counts i k (get_or counts i 0 + 1) 0 ne)) past))
      (λ b. inr (stays k x lk at ne p.1 p.0 b))
      r))
      (s.each k x lk at))
      (w.others k x lk at))
      (cases_eq k i);
  even = even_now;
  bound = let b = s.bound in let n = length-append first (i ∷ []) in let m = even_now in let t = total-set counts i (subst (λ n. i < n) (sym s.merging.each) l) in
      subst (λ v. tries + 1 + length (ready ++ i ∷ []) ≤ (v + 1) * length js) (sym t) (omega (arith, b, n, m));
  tried = tried_took js counts first (ready ++ i ∷ []) tries i j e s.tried (λ k c. contains_left ready (i ∷ []) k (w.kept k c)) (contains_last ready i) s.merging.each l here is (let fits = (limit_here t js limits i j are l here).within in omega (arith, room, fits))
      (let b = w.bound in let n = length-append ready (i ∷ []) in omega (arith, b, n));
}
  where
    even_now : length (ready ++ i ∷ []) + parked_count lacks ≤ length js
    even_now = let b = w.even in let g = s.even in let n = length-append first (i ∷ []) in let m = length-append ready (i ∷ []) in omega (arith, b, g, n, m)

    stays : (k : ℕ) (x : Journal) → k < length js → x ≡ get_or js k x → k ≢ i → (get_or before k None ≡ Some j.site → frames_to x.site e.sent ≡ []) → get_or lacks k None ≡ get_or before k None → IsParked js limits counts old k x (get_or before k None) → IsParked js limits (set counts i (get_or counts i 0 + 1)) new k x (get_or lacks k None)
    stays k x lk at ne none same p =
        let c = get_or-set_other counts i k (get_or counts i 0 + 1) 0 ne in (
          p.0,
          p.1,
          p.2,
          same ∙ p.3,
          subst (λ n. n < get_or limits k 0) (sym c) p.4,
          subst (λ n. p.2 ≡ get_or x.entries n p.2) (sym c) p.5,
          p.6,
          λ h. p.7 (still_lacked old new j.site x.site p.0 p.1 e p.2 moves (λ q. none (p.3 ∙ ap (λ n. Some n) (sym q))) (apart_sites js i k j x one l lk here at (λ q. ne (sym q))) p.6 h),
        )

pub places_start : (all : List ℕ) → all ≡ [] → ArePlaces all 0
places_start all e = subst (λ l. ArePlaces l 0) (sym e) (record { long = refl; each = λ k l. absurd (omega arith); inside = λ k c. absurd (no_member k c) })

pub places_more : (all next : List ℕ) (n : ℕ) → ArePlaces all n → next ≡ all ++ n ∷ [] → ArePlaces next (n + 1)
places_more all next n a e = subst (λ l. ArePlaces l (n + 1)) (sym e) (record {
  long = let h = length-append all (n ∷ []) in let l = a.long in omega (arith, h, l);
  each = λ k l. ⊎_elim (λ (q : k ≡ n). subst (Contains (all ++ n ∷ [])) (sym q) (contains_last all n)) (λ (ne : k ≢ n). contains_left all (n ∷ []) k (a.each k (omega arith))) (cases_eq k n);
  inside = λ k c. ⊎_elim (λ d. let l = a.inside k d in omega (arith, l)) (λ (q : k ≡ n). omega (arith, q)) (contains_push all n k c);
})

pub listed_start : (t : Topology) (js : List Journal) (limits : List ℕ) (links : Links) (lacks : List (Option ℕ)) (ready : List ℕ) → ((a b : ℕ) → waiting links a b ≡ []) → lacks ≡ replicate (length js) None → ArePlaces ready (length js) → Listed t js limits (replicate (length js) 0) links lacks ready 0
listed_start t js limits links lacks ready empty none a = record {
  merging = merging_start t js limits links empty;
  long = ap length none ∙ length-replicate (length js) None;
  inside = a.inside;
  each = λ k j l here. inl (a.each k l);
  even = let n = a.long in let p = ap parked_count none ∙ parked-none (length js) in omega (arith, n, p);
  bound = let n = a.long in subst (λ t. 0 + length ready ≤ (t + 1) * length js) (sym (total-none (length js))) (omega (arith, n));
  tried = tried_start js ready a;
}

-- the measure: what is left, and then the list
abbrev pub work : List Journal → List ℕ → List ℕ → ℕ
work js counts ready = (entry_count js - total counts) * (length js + 1) + length ready

pub work_took : (js : List Journal) (counts first ready before : List ℕ) (i : ℕ) → length counts ≡ length js → total (set counts i (get_or counts i 0 + 1)) ≤ entry_count js → i < length js → before ≡ first ++ i ∷ [] → length ready ≤ length first + length js → work js (set counts i (get_or counts i 0 + 1)) ready < work js counts before
work_took js counts first ready before i each fits l e short =
    let n = ap length e ∙ length-append first (i ∷ []) in
    let t = total-set counts i (subst (λ n. i < n) (sym each) l) in
    step (entry_count js) (total counts) (total (set counts i (get_or counts i 0 + 1))) (length js) (length ready) (length before) t fits (omega (arith, n, short))
  where
    step : (all t t' n r b : ℕ) → t' ≡ t + 1 → t' ≤ all → r + 1 ≤ b + n → (all - t') * (n + 1) + r < (all - t) * (n + 1) + b
    step all t t' n r b e f g =
        let d : all - t ≡ (all - t') + 1 = omega (arith, e, f) in
        let h : (all - t) * (n + 1) ≡ ((all - t') + 1) * (n + 1) = ap (λ x. x * (n + 1)) d in
        omega (arith, h, g)
