-- The declared withdraw.
use Rattle.std.proofs.Common.{◌≡◌, ◌⊎◌, ℕ, Bool, true, false, not, ◌&&◌, ◌||◌, List, [], ◌∷◌, ◌++◌, ◌==◌, refl, sym, ap, ◌∙◌, subst, inl, inr, true≢false, append_assoc}
use Rattle.std.proofs.lemmas.Bool.{cases_Bool, eqb-true, eq-eqb, and_parts, or_cases}
use Rattle.std.specs.List.{AllByRecursion}
use Rattle.cmh_model3.specs.declared.event.Event.{Event}
use Rattle.cmh_model3.specs.declared.event.Event.TheVariants.{Ask, Reply, Withdraw, Got, Turn}
use Rattle.cmh_model3.specs.Lists.{in_list}
use Rattle.cmh_model3.specs.Entries.{WorldEvent}
use Rattle.cmh_model3.specs.State.{waits_for}
use Rattle.cmh_model3.specs.Paths.{IsPath}
use Rattle.cmh_model3.specs.Runs.{state_of, IsRun}
use Rattle.cmh_model3.specs.Waits.{is_ask, begins, ends, wait_after, Waits, IsNext}
use Rattle.cmh_model3.specs.Victims.{WithdrawsAll, VictimsAreEnough, VictimsEndEachCycle}
use Rattle.cmh_model3.proofs.Cuts.{run_front}
use Rattle.cmh_model3.proofs.Outcomes.{path_join}
use Rattle.cmh_model3.proofs.Runs.{wait-append}
use Rattle.cmh_model3.proofs.Silent.{known_of_run}
use Rattle.cmh_model3.proofs.Ends.{of_path, to_path}
use Rattle.cmh_model3.proofs.Greatest.{path_cut, each_cycle_declared}

no_begin : (j k : ℕ) (ev : Event) → is_ask ev ≡ false → begins j k ev ≡ false
no_begin j k (Ask i ks) h = absurd (true≢false h)
no_begin j k (Reply h2 i) h = refl
no_begin j k (Withdraw i ks) h = refl
no_begin j k (Turn d) h = refl
no_begin j k (Got a c f) h = refl

-- where nobody asks, what waits waited before
pub waited : (b : Bool) (j k : ℕ) (es : List WorldEvent) → AllByRecursion (λ (e : WorldEvent). is_ask e.entry.event ≡ false) es → wait_after b j k es ≡ true → b ≡ true
waited b j k [] h w = w
waited b j k (e ∷ es) h w =
    let was = waited (begins j k e.entry.event || (not (ends j k e.entry.event) && b)) j k es h.1 w in
    (and_parts (not (ends j k e.entry.event)) b (sym (ap (λ z. z || (not (ends j k e.entry.event) && b)) (no_begin j k e.entry.event h.0)) ∙ was)).1

pub all_back : (xs ys : List WorldEvent) → AllByRecursion (λ (e : WorldEvent). is_ask e.entry.event ≡ false) (xs ++ ys) → AllByRecursion (λ (e : WorldEvent). is_ask e.entry.event ≡ false) ys
all_back [] ys h = h
all_back (x ∷ xs) ys h = all_back xs ys h.1

-- a list at a member
split_at : (xs : List ℕ) (k : ℕ) → in_list xs k ≡ true → (front : List ℕ) × (back : List ℕ) × (xs ≡ front ++ k ∷ back)
split_at [] k h = absurd (true≢false (sym h))
split_at (x ∷ xs) k h = elim (or_cases (x == k) (in_list xs k) h) [
  | inl e ↦ let same = eqb-true x k e in ([], xs, (λ t. same t ∷ xs))
  | inr more ↦ let r = split_at xs k more in (x ∷ r.0, r.1, (λ t. x ∷ r.2 t))
]

-- a cycle, begun at a member
pub turned : (W : ℕ → ℕ → Type 0) (i : ℕ) (xs : List ℕ) (k : ℕ) → in_list xs k ≡ true → IsPath W i xs i → (next : ℕ) × (members : List ℕ) × IsPath W k (next ∷ members) k
turned W i xs k h path =
    let r = split_at xs k h in
    let cut = path_cut W i r.0 k r.1 i (subst (λ l. IsPath W i l i) r.2 path) in
    some r.1 r.0 (path_join W k r.1 i (r.0 ++ (k ∷ [])) k cut.1 cut.0)
  where
    some : (xs ys : List ℕ) → IsPath W k (xs ++ (ys ++ (k ∷ []))) k → (next : ℕ) × (members : List ℕ) × IsPath W k (next ∷ members) k
    some [] [] p = (k, [], p)
    some [] (y ∷ ys) p = (y, ys ++ (k ∷ []), p)
    some (x ∷ xs) ys p = (x, xs ++ (ys ++ (k ∷ [])), p)

-- what a process waits for, it does not after it withdrew all
withdrawn : (home : ℕ → ℕ) (before so_far : List WorldEvent) → IsRun home (before ++ so_far) → (k y : ℕ) (ks : List ℕ) (ev : Event) → ev ≡ Withdraw k ks
    → ((y : ℕ) → waits_for (state_of home (home k) (before ++ so_far)) k y ≡ true → in_list ks y ≡ true)
    → Waits (before ++ so_far) k y → ends k y ev ≡ true
withdrawn home before so_far run k y ks ev is_w all w =
    let kept = (known_of_run home (before ++ so_far) run).marks.back k y w in
    ap (ends k y) is_w ∙ ap (λ z. z && in_list ks y) (eq-eqb k k refl) ∙ all y kept

pub victims_are_enough : VictimsAreEnough
victims_are_enough home before rest run drained quiet releases i cycle =
    let back : (x y : ℕ) → Waits (before ++ rest) x y → Waits before x y = λ x y w. waited (wait_after false x y before) x y rest quiet (sym (wait-append false x y before rest) ∙ w) in
    let path : IsPath (Waits (before ++ rest)) i (cycle.0 ∷ cycle.1) i = cycle.2 in
    let was : IsPath (Waits before) i (cycle.0 ∷ cycle.1) i = to_path (Waits (before ++ rest)) (Waits before) i (cycle.0 ∷ cycle.1) i path (λ x y g. back x y (of_path (Waits (before ++ rest)) i (cycle.0 ∷ cycle.1) i path x y g)) in
    let found = each_cycle_declared home before (run_front home before rest run) drained i cycle.0 cycle.1 was in
    let k : ℕ = found.0 in
    let now = turned (Waits (before ++ rest)) i (cycle.0 ∷ cycle.1) k found.1 path in
    let then' = turned (Waits before) i (cycle.0 ∷ cycle.1) k found.1 was in
    let r = releases k found.2 then' in
    left k now.0 r now.2.0
  where
    left : (k y : ℕ) → WithdrawsAll home before rest k → Waits (before ++ rest) k y → ⊥
    left k y r w =
        let so_far = r.0 in let e = r.1 in let more = r.2 in
        let events : before ++ rest ≡ (before ++ so_far) ++ e ∷ more = ap (λ l. before ++ l) r.4 ∙ sym (append_assoc before so_far (e ∷ more)) in
        let w2 : wait_after (wait_after false k y (before ++ so_far)) k y (e ∷ more) ≡ true = sym (wait-append false k y (before ++ so_far) (e ∷ more)) ∙ sym (ap (wait_after false k y) events) ∙ w in
        let still : AllByRecursion (λ (e : WorldEvent). is_ask e.entry.event ≡ false) (e ∷ more) = all_back so_far (e ∷ more) (subst (AllByRecursion (λ (e : WorldEvent). is_ask e.entry.event ≡ false)) r.4 quiet) in
        let w3 = waited (begins k y e.entry.event || (not (ends k y e.entry.event) && wait_after false k y (before ++ so_far))) k y more still.1 w2 in
        let w4 = and_parts (not (ends k y e.entry.event)) (wait_after false k y (before ++ so_far)) (sym (ap (λ z. z || (not (ends k y e.entry.event) && wait_after false k y (before ++ so_far))) (no_begin k y e.entry.event still.0)) ∙ w3) in
        let front = run_front home (before ++ so_far) (e ∷ more) (subst (IsRun home) events run) in
        let ended = withdrawn home before so_far front k y r.3 e.entry.event r.5 r.6 w4.1 in
        true≢false (sym w4.0 ∙ ap not ended)

-- a wait that is gone has ended
ended_at : (j k : ℕ) (b : Bool) (es : List WorldEvent) → b ≡ true → wait_after b j k es ≡ false
    → (so_far : List WorldEvent) × (e : WorldEvent) × (more : List WorldEvent) × (es ≡ so_far ++ e ∷ more) × (ends j k e.entry.event ≡ true)
ended_at j k b [] h w = absurd (true≢false (sym h ∙ w))
ended_at j k b (e ∷ es) h w = elim (cases_Bool (ends j k e.entry.event)) [
  | inl yes' ↦ ([], e, es, refl, yes')
  | inr no' ↦
      let r = ended_at j k (begins j k e.entry.event || (not (ends j k e.entry.event) && b)) es (still (begins j k e.entry.event) (ends j k e.entry.event) b no' h) w in
      (e ∷ r.0, r.1, r.2, (λ t. e ∷ r.3 t), r.4)
]
  where
    still : (x d o : Bool) → d ≡ false → o ≡ true → (x || (not d && o)) ≡ true
    still true d o h g = refl
    still false d o h g = ap (λ z. not z && o) h ∙ g

-- the stretch that leads on from a member of a cycle
from_member : (W : ℕ → ℕ → Type 0) (p : ℕ) (xs : List ℕ) (q k : ℕ) → IsPath W p xs q → in_list xs k ≡ true → (k ≡ q) ⊎ ((y : ℕ) × IsNext p xs k y)
from_member W p [] q k path h = absurd (true≢false (sym h))
from_member W p (x ∷ xs) q k path h = elim (or_cases (x == k) (in_list xs k) h) [
  | inr more ↦ elim (from_member W x xs q k path.1 more) [ inl end ↦ inl end | inr found ↦ inr (found.0, inr found.1) ]
  | inl e ↦ go xs (eqb-true x k e) path.1
]
  where
    go : (xs : List ℕ) → x ≡ k → IsPath W x xs q → (k ≡ q) ⊎ ((y : ℕ) × IsNext p (x ∷ xs) k y)
    go [] same path = inl (sym same ∙ path)
    go (y ∷ ys) same path = inr (y, inr (inl (same, refl)))

pub victims_end_each_cycle : VictimsEndEachCycle
victims_end_each_cycle home before rest run drained releases i first members path =
    let found = each_cycle_declared home before (run_front home before rest run) drained i first members path in
    let k : ℕ = found.0 in
    let then' = turned (Waits before) i (first ∷ members) k found.1 path in
    let r = releases k found.2 then' in
    let out : (y : ℕ) × IsNext i (first ∷ members) k y = elim (from_member (Waits before) i (first ∷ members) i k path found.1) [ inl end ↦ (first, inl (sym end, refl)) | inr y ↦ y ] in
    let gone = left k out.0 r (of_path (Waits before) i (first ∷ members) i path k out.0 out.1) in
    (k, out.0, out.1, gone)
  where
    left : (k y : ℕ) → WithdrawsAll home before rest k → Waits before k y
        → (so_far : List WorldEvent) × (e : WorldEvent) × (more : List WorldEvent) × (rest ≡ so_far ++ e ∷ more) × (ends k y e.entry.event ≡ true)
    left k y r w =
        let so_far = r.0 in let e = r.1 in let more = r.2 in
        let events : before ++ rest ≡ (before ++ so_far) ++ e ∷ more = ap (λ l. before ++ l) r.4 ∙ sym (append_assoc before so_far (e ∷ more)) in
        let front = run_front home (before ++ so_far) (e ∷ more) (subst (IsRun home) events run) in
        elim (cases_Bool (wait_after false k y (before ++ so_far))) [
          | inl stands ↦ (so_far, e, more, r.4, withdrawn home before so_far front k y r.3 e.entry.event r.5 r.6 stands)
          | inr gone ↦
              let g = ended_at k y (wait_after false k y before) so_far w (sym (wait-append false k y before so_far) ∙ gone) in
              (g.0, g.1, g.2 ++ e ∷ more, r.4 ∙ ap (λ l. l ++ e ∷ more) g.3 ∙ append_assoc g.0 (g.1 ∷ g.2) (e ∷ more), g.4)
        ]
