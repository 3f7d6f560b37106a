-- What an entry sends: each frame comes on its link, and wakes its receiver where that lacks it.
use Rattle.std.proofs.Common.{◌≡◌, ◌≢◌, ℕ, zero, suc, ◌+◌, ◌<◌, ◌==◌, ◌&&◌, Bool, true, false, true≢false, List, [], ◌∷◌, ◌++◌, length, set, get_or, Option, Some, None, inl, inr, ⊎_elim, sym, ap, subst, refl, ◌∙◌, if◌then◌else◌, arith, append_assoc, append-nil, length-append, length-set}
use Rattle.std.specs.Prelude.{Contains, nat_eq}
use Rattle.std.specs.Option.{option_eq}
use Rattle.std.proofs.lemmas.Bool.{cases_eq, eq-eqb, ne_eqb}
use Rattle.std.proofs.lemmas.List.{get_or-set_other}
use Rattle.cmh_frames.specs.declared.frame.Frame.{Frame}
use Rattle.cmh_frames.specs.Journals.{frames_to}
use Rattle.cmh_frames.proofs.Sent.{to-append}
use Rattle.cmh_journal.specs.Journal.{Journal}
use Rattle.cmh_audit.specs.Journals.{NoneAt}
use Rattle.cmh_audit.specs.Inner.Places.{OneEach}
use Rattle.cmh_world.specs.Links.{Links, waiting, only_at}
use Rattle.cmh_audit.specs.Inner.Merging.{SendsFrames}
use Rattle.cmh_audit.specs.Inner.Ready.{Wakes, parked_count}
use Rattle.cmh_audit.proofs.CountLemmas.{none_at}
use Rattle.cmh_cycles.proofs.Members.{contains_left, contains_last, contains_push}

pub other_number : (o : Option ℕ) (n : ℕ) → option_eq nat_eq o (Some n) ≡ false → o ≡ Some n → ⊥
other_number o n h e = true≢false (sym (eq-eqb n n refl) ∙ ap (λ p. option_eq nat_eq p (Some n)) (sym e) ∙ h)

-- the places of two sites
pub apart_sites : (js : List Journal) (i k : ℕ) (x y : Journal) → OneEach js → i < length js → k < length js → x ≡ get_or js i x → y ≡ get_or js k y → i ≢ k → x.site ≢ y.site
apart_sites [] i k x y one li lk hx hy ne = absurd (omega arith)
apart_sites (z ∷ js) zero zero x y one li lk hx hy ne = absurd (ne refl)
apart_sites (z ∷ js) zero (suc k) x y one li lk hx hy ne = λ e. none_at z.site js k y one.0 (omega arith) hy (ap (λ (j : Journal). j.site) (sym hx) ∙ e)
apart_sites (z ∷ js) (suc i) zero x y one li lk hx hy ne = λ e. none_at z.site js i x one.0 (omega arith) hx (ap (λ (j : Journal). j.site) (sym hy) ∙ sym e)
apart_sites (z ∷ js) (suc i) (suc k) x y one li lk hx hy ne = apart_sites js i k x y one.1 (omega arith) (omega arith) hx hy (λ e. ne (ap suc e))

parked-clear : (lacks : List (Option ℕ)) (k a : ℕ) → k < length lacks → get_or lacks k None ≡ Some a → parked_count (set lacks k None) + 1 ≡ parked_count lacks
parked-clear [] k a l h = absurd (omega arith)
parked-clear (None ∷ lacks) zero a l h = absurd (cc)
parked-clear (Some b ∷ lacks) zero a l h = omega arith
parked-clear (None ∷ lacks) (suc k) a l h = parked-clear lacks k a (omega arith) h
parked-clear (Some b ∷ lacks) (suc k) a l h = let m = parked-clear lacks k a (omega arith) h in omega (arith, m)

-- ---- one frame more

frames_push : (b : ℕ) (xs : List (ℕ × Frame)) (s : ℕ × Frame) → s.0 ≢ b → frames_to b (xs ++ s ∷ []) ≡ frames_to b xs
frames_push b [] s ne = ap (λ t. if t then s.1 ∷ [] else []) (ne_eqb s.0 b ne)
frames_push b (x ∷ xs) s ne = ap (λ fs. if x.0 == b then x.1 ∷ fs else fs) (frames_push b xs s ne)

pub journal_at : (js : List Journal) (k : ℕ) → k < length js → (x : Journal) × (x ≡ get_or js k x)
journal_at [] k l = absurd (omega arith)
journal_at (y ∷ js) zero l = (y, refl)
journal_at (y ∷ js) (suc k) l = journal_at js k (omega arith)

wakes_start : (js : List Journal) (first : List ℕ) (before : List (Option ℕ)) (from : ℕ) → Wakes js [] first first before before from
wakes_start js first before from = record {
  long = refl;
  kept = λ k c. c;
  inside = λ k c. inl c;
  others = λ k j l here. inr (refl, λ h. refl);
  bound = omega arith;
  even = omega arith;
}

module _ (js : List Journal) (one : OneEach js) (sent : List (ℕ × Frame)) (first ready : List ℕ) (before lacks : List (Option ℕ)) (from : ℕ) (s : ℕ × Frame) (w : Wakes js sent first ready before lacks from) where
  not_sent : (b : ℕ) → s.0 ≢ b → frames_to b sent ≡ [] → frames_to b (sent ++ s ∷ []) ≡ []
  not_sent b ne none = frames_push b sent s ne ∙ none

  -- to a site without a journal
  wakes_past : NoneAt s.0 js → Wakes js (sent ++ s ∷ []) first ready before lacks from
  wakes_past none = record {
    long = w.long;
    kept = w.kept;
    inside = w.inside;
    others = λ k j lk at. ⊎_elim (λ c. inl c) (λ p. inr (p.0, λ h. not_sent j.site (none_at s.0 js k j none lk at) (p.1 h))) (w.others k j lk at);
    bound = let b = w.bound in let m = length-append sent (s ∷ []) in omega (arith, b, m);
    even = w.even;
  }

  module _ (k : ℕ) (x : Journal) (lk : k < length js) (at : x ≡ get_or js k x) (site : x.site ≡ s.0) where
    others_same : (q : ℕ) (j : Journal) → q < length js → j ≡ get_or js q j → q ≢ k → s.0 ≢ j.site
    others_same q j lq there ne e = apart_sites js k q x j one lk lq at there (λ f. ne (sym f)) (site ∙ e)

    -- to a site that lacks nothing of `from`
    wakes_none : (get_or lacks k None ≢ Some from) → Wakes js (sent ++ s ∷ []) first ready before lacks from
    wakes_none other = record {
      long = w.long;
      kept = w.kept;
      inside = w.inside;
      others = λ q j lq there. ⊎_elim
          (λ c. inl c)
          (λ p. inr (
            p.0,
            λ h. ⊎_elim
                (λ (e : q ≡ k). absurd (other (ap (λ n. get_or lacks n None) (sym e) ∙ p.0 ∙ h)))
                (λ (ne : q ≢ k). not_sent j.site (others_same q j lq there ne) (p.1 h))
                (cases_eq q k),
          ))
          (w.others q j lq there);
      bound = let b = w.bound in let m = length-append sent (s ∷ []) in omega (arith, b, m);
      even = w.even;
    }

    -- to one that does
    wakes_one : k < length lacks → get_or lacks k None ≡ Some from → Wakes js (sent ++ s ∷ []) first (ready ++ k ∷ []) before (set lacks k None) from
    wakes_one fits lacking = record {
      long = length-set lacks k None ∙ w.long;
      kept = λ q c. contains_left ready (k ∷ []) q (w.kept q c);
      inside = λ q c. ⊎_elim (λ d. w.inside q d) (λ e. inr (subst (λ n. n < length js) (sym e) lk)) (contains_push ready k q c);
      others = λ q j lq there. ⊎_elim
          (λ (e : q ≡ k). inl (subst (Contains (ready ++ k ∷ [])) (sym e) (contains_last ready k)))
          (λ (ne : q ≢ k). ⊎_elim
          (λ c. inl (contains_left ready (k ∷ []) q c))
          (λ p. inr (get_or-set_other lacks k q None None ne ∙ p.0, λ h. not_sent j.site (others_same q j lq there ne) (p.1 h)))
          (w.others q j lq there))
          (cases_eq q k);
      bound = let b = w.bound in let n = length-append ready (k ∷ []) in let m = length-append sent (s ∷ []) in omega (arith, b, n, m);
      even = let b = w.even in let n = length-append ready (k ∷ []) in let c = parked-clear lacks k from fits lacking in omega (arith, b, n, c);
    }

-- one more frame was sent
sends_push : (first old new : Links) (site : ℕ) (sent : List (ℕ × Frame)) (s : ℕ × Frame) →
    SendsFrames first old site sent → ((a b : ℕ) → waiting new a b ≡ waiting old a b ++ only_at site s.0 s.1 a b) → SendsFrames first new site (sent ++ s ∷ [])
sends_push first old new site sent s so_far step a b =
    step a b ∙ ap (λ w. w ++ only_at site s.0 s.1 a b) (so_far a b) ∙ append_assoc (waiting first a b) _ _ ∙ ap (λ w. waiting first a b ++ w) (join (site == a))
  where
    join : (t : Bool) → (if t then frames_to b sent else []) ++ (if t && (s.0 == b) then s.1 ∷ [] else []) ≡ (if t then frames_to b (sent ++ s ∷ []) else [])
    join true = sym (to-append b sent (s ∷ []))
    join false = refl

-- ---- the loop over the frames

-- of all frames, those before the ones that are left were sent
pub record Sending (js : List Journal) (all left : List (ℕ × Frame)) (old links : Links) (first ready : List ℕ) (before lacks : List (Option ℕ)) (from : ℕ) : Type 0 where
  pub sent : List (ℕ × Frame)
  pub are : all ≡ sent ++ left
  pub sends : SendsFrames old links from sent
  pub wakes : Wakes js sent first ready before lacks from

pub sending_start : (js : List Journal) (all : List (ℕ × Frame)) (links : Links) (first : List ℕ) (before : List (Option ℕ)) (from : ℕ) → Sending js all all links links first first before before from
sending_start js all links first before from = record {
  sent = [];
  are = refl;
  sends = λ a b. sym (none (from == a) (waiting links a b));
  wakes = wakes_start js first before from;
}
  where
    none : (t : Bool) (l : List Frame) → l ++ (if t then [] else []) ≡ l
    none true l = append-nil l
    none false l = append-nil l

pub sending_end : (js : List Journal) (all left : List (ℕ × Frame)) (old links : Links) (first ready : List ℕ) (before lacks : List (Option ℕ)) (from : ℕ) → left ≡ [] → Sending js all left old links first ready before lacks from
    → SendsFrames old links from all × Wakes js all first ready before lacks from
sending_end js all left old links first ready before lacks from none p =
    let whole : p.sent ≡ all = sym (append-nil p.sent) ∙ ap (λ l. p.sent ++ l) (sym none) ∙ sym p.are in (
      subst (SendsFrames old links from) whole p.sends,
      subst (λ l. Wakes js l first ready before lacks from) whole p.wakes,
    )

-- the next of the frames that are left is sent
module _ (js : List Journal) (one : OneEach js) (all left rest : List (ℕ × Frame)) (old mid new : Links) (first ready : List ℕ) (before lacks : List (Option ℕ)) (from : ℕ) (s : ℕ × Frame) (p : Sending js all left old mid first ready before lacks from) (is : left ≡ s ∷ rest)
    (step : (a b : ℕ) → waiting new a b ≡ waiting mid a b ++ only_at from s.0 s.1 a b) where
  are_more : all ≡ (p.sent ++ s ∷ []) ++ rest
  are_more = p.are ∙ ap (λ l. p.sent ++ l) is ∙ sym (append_assoc p.sent (s ∷ []) rest)

  -- to a site without a journal
  pub sending_past : NoneAt s.0 js → Sending js all rest old new first ready before lacks from
  sending_past none = record {
    sent = p.sent ++ s ∷ [];
    are = are_more;
    sends = sends_push old mid new from p.sent s p.sends step;
    wakes = wakes_past js one p.sent first ready before lacks from s p.wakes none;
  }

  -- to a site that lacks nothing of `from`
  pub sending_none : (k : ℕ) (x : Journal) → k < length js → x ≡ get_or js k x → x.site ≡ s.0 → get_or lacks k None ≢ Some from → Sending js all rest old new first ready before lacks from
  sending_none k x lk at site other = record {
    sent = p.sent ++ s ∷ [];
    are = are_more;
    sends = sends_push old mid new from p.sent s p.sends step;
    wakes = wakes_none js one p.sent first ready before lacks from s p.wakes k x lk at site other;
  }

  -- to one that does
  pub sending_one : (k : ℕ) (x : Journal) → k < length js → x ≡ get_or js k x → x.site ≡ s.0 → k < length lacks → get_or lacks k None ≡ Some from → Sending js all rest old new first (ready ++ k ∷ []) before (set lacks k None) from
  sending_one k x lk at site fits lacking = record {
    sent = p.sent ++ s ∷ [];
    are = are_more;
    sends = sends_push old mid new from p.sent s p.sends step;
    wakes = wakes_one js one p.sent first ready before lacks from s p.wakes k x lk at site fits lacking;
  }
