-- The rows of the base of a state are those of the site's processes.
use Rattle.std.proofs.Common.{◌≡◌, ◌≢◌, ℕ, ◌+◌, ◌<◌, ◌==◌, ◌||◌, not, Bool, true, false, cond, List, [], ◌∷◌, ◌++◌, ◌⊎◌, length, get_or, map, take, if◌then◌else◌, refl, sym, ap, ◌∙◌, subst, inl, inr, arith, append-nil}
use Rattle.std.proofs.Math.Path.{fun_ext}
use Rattle.std.specs.List.{AllByRecursion, filter, flat_map}
use Rattle.std.specs.List.Sorted.{IsStrictlyIncreasing}
use Rattle.std.proofs.lemmas.Bool.{cases_Bool, cases_eq, eq-eqb, eqb-true, ne_eqb, true≢false}
use Rattle.std.proofs.lemmas.List.{map-append, take_more}
use Rattle.std.proofs.lemmas.List.Concat.{flat_map-append}
use Rattle.std.proofs.lemmas.List.Elements.{filter-append}
use Rattle.cmh_controller3.specs.Controller.{Controller, home_of, state_of}
use Rattle.cmh_controller3.specs.Readings.{HasFacts}
use Rattle.cmh_controller3.specs.Tables.{stamp_in}
use Rattle.cmh_controller3.specs.declared.mark_row.Mark.{Mark}
use Rattle.cmh_runs.specs.Number.{IsNumber}
use Rattle.cmh_model3.specs.Laws.{JournalFacts}
use Rattle.cmh_model3.specs.Lists.{IsAscending, in_list, is_nonempty}
use Rattle.cmh_model3.specs.State.{State, is_blocked}
use Rattle.cmh_segment3.specs.States.{all_numbers, pairs_where, stamped_pairs, stamped_where}
use Rattle.cmh_segment3.specs.declared.rows.Stamped.{Stamped}
use Rattle.cmh_waits3.proofs.Lists.{in_above}
use Rattle.cmh_waits3.specs.Rows.{since_in, targets_of}
use Rattle.cmh_waits3.specs.declared.wait.Wait.{Wait}
use Rattle.cmh_bases3.proofs.Numbers.{all_in, ascends, none_pass, of_members, some_members, some_numbers}
use Rattle.cmh_bases3.specs.Inner.Rows.{has_asked, is_mark, marked_by, marks_from, pair_of, pairs_from, row_of_mark, row_of_wait, stamped_of, stamped_pair_of, waits_from}

-- ---- a step of a loop over processes

pub one_more : {X : Type 0} (f : ℕ → List X) (ms : List ℕ) (i a : ℕ) (before after : List X) → i < length ms → a ≡ get_or ms i 0 → before ≡ flat_map f (take i ms)
    → after ≡ before ++ f a → after ≡ flat_map f (take (i + 1) ms)
one_more f ms i a before after inside is so_far more =
    more ∙ ap (λ l. l ++ f a) so_far ∙ ap (λ x. flat_map f (take i ms) ++ f x) is ∙ ap (λ l. flat_map f (take i ms) ++ l) (sym (append-nil (f (get_or ms i 0))))
    ∙ sym (flat_map-append f (take i ms) (get_or ms i 0 ∷ [])) ∙ ap (flat_map f) (sym (take_more ms i 0 inside))

in_push : (xs : List ℕ) (a x : ℕ) → in_list (xs ++ a ∷ []) x ≡ true → (in_list xs x ≡ true) ⊎ (a ≡ x)
in_push [] a x h = elim (cases_eq a x) [
  | inl e ↦ inr e
  | inr n ↦ absurd (true≢false (sym h ∙ ap (λ z. z || false) (ne_eqb a x n)))
]
in_push (y ∷ xs) a x h = elim (cases_eq y x) [
  | inl e ↦ inl (ap (λ z. z || in_list xs x) (eq-eqb y x e))
  | inr n ↦ elim (in_push xs a x (sym (ap (λ z. z || in_list (xs ++ a ∷ []) x) (ne_eqb y x n)) ∙ h)) [
    | inl there ↦ inl (ap (λ z. z || in_list xs x) (ne_eqb y x n) ∙ there)
    | inr e ↦ inr e
  ]
]

-- what is one of the processes so far and the next is one of those, or the next
pub in_more : (ms : List ℕ) (i a x : ℕ) → i < length ms → a ≡ get_or ms i 0 → in_list (take (i + 1) ms) x ≡ true → (in_list (take i ms) x ≡ true) ⊎ (a ≡ x)
in_more ms i a x inside is h =
    in_push (take i ms) a x (ap (λ m. in_list (take i ms ++ m ∷ []) x) is ∙ sym (ap (λ l. in_list l x) (take_more ms i 0 inside)) ∙ h)

map_same : {X : Type 0} (f g : ℕ → X) (xs : List ℕ) → AllByRecursion (λ x. f x ≡ g x) xs → map f xs ≡ map g xs
map_same f g [] all = refl
map_same f g (x ∷ xs) all = λ i. all.0 i ∷ map_same f g xs all.1 i

weaker : (P Q : ℕ → Type 0) → ((x : ℕ) → P x → Q x) → (xs : List ℕ) → AllByRecursion P xs → AllByRecursion Q xs
weaker P Q f [] all = tt
weaker P Q f (x ∷ xs) all = (f x all.0, weaker P Q f xs all.1)

-- ---- the waits of a process

-- what comes after the first has the stamp that it has among the others
since_after : (w : Wait) (ws : List Wait) (b : ℕ) → w.target < b → since_in ws b ≡ since_in (w ∷ ws) b
since_after w ws b low = sym (ap (λ z. if z then w.since else since_in ws b) (ne_eqb w.target b (λ e. absurd (omega (arith, e, low)))))

rows_of_waits : (a : ℕ) (ws : List Wait) → IsAscending (targets_of ws) → map (row_of_wait a) ws ≡ map (stamped_pair_of (λ x. since_in ws) a) (targets_of ws)
rows_of_waits a [] up = refl
rows_of_waits a (w ∷ ws) up =
    let first : row_of_wait a w ≡ stamped_pair_of (λ x. since_in (w ∷ ws)) a w.target =
    ap (λ (n : ℕ). row_of_wait a (record { target = w.target; since = n })) (sym (ap (λ z. if z then w.since else since_in ws w.target) (eq-eqb w.target w.target refl))) in
    let others : map (row_of_wait a) ws ≡ map (stamped_pair_of (λ x. since_in (w ∷ ws)) a) (targets_of ws) =
    rows_of_waits a ws up.1
    ∙ map_same (stamped_pair_of (λ x. since_in ws) a) (stamped_pair_of (λ x. since_in (w ∷ ws)) a) (targets_of ws)
    (weaker (λ y. w.target < y) (λ b. stamped_pair_of (λ x. since_in ws) a b ≡ stamped_pair_of (λ x. since_in (w ∷ ws)) a b)
    (λ b low. ap (λ (n : ℕ). row_of_wait a (record { target = b; since = n })) (since_after w ws b low)) (targets_of ws) up.0) in
    λ i. first i ∷ others i

pub waits_are : (v : State) (a : ℕ) (ws : List Wait) → targets_of ws ≡ v.waits a → IsAscending (v.waits a) → ((k : ℕ) → since_in ws k ≡ v.since a k) → map (row_of_wait a) ws ≡ waits_from v a
waits_are v a ws targets up since =
    rows_of_waits a ws (subst IsAscending (sym targets) up)
    ∙ ap (λ (f : ℕ → ℕ). map (stamped_pair_of (λ x. f) a) (targets_of ws)) (fun_ext since)
    ∙ ap (map (stamped_pair_of v.since a)) targets

-- ---- the marks of a process

abbrev origins : List Mark → List ℕ
origins ms = map (λ (m : Mark). m.origin) ms

origins_filter : (P : ℕ → Type 0) (ms : List Mark) → AllByRecursion P (origins ms) → AllByRecursion P (origins (filter is_mark ms))
origins_filter P [] all = tt
origins_filter P (m ∷ ms) all = go (is_mark m) (origins_filter P ms all.1)
  where
    go : (z : Bool) → AllByRecursion P (origins (filter is_mark ms)) → AllByRecursion P (origins (cond z (m ∷ filter is_mark ms) (filter is_mark ms)))
    go true later = (all.0, later)
    go false later = later

origins_ascend : (ms : List Mark) → IsAscending (origins ms) → IsAscending (origins (filter is_mark ms))
origins_ascend [] up = tt
origins_ascend (m ∷ ms) up = go (is_mark m) (origins_ascend ms up.1)
  where
    go : (z : Bool) → IsAscending (origins (filter is_mark ms)) → IsAscending (origins (cond z (m ∷ filter is_mark ms) (filter is_mark ms)))
    go true later = (origins_filter (λ y. m.origin < y) ms up.0, later)
    go false later = later

none_below : (x : ℕ) (xs : List ℕ) → AllByRecursion (λ y. x < y) xs → in_list xs x ≡ false
none_below x xs above = elim (cases_Bool (in_list xs x)) [
  | inl there ↦ absurd (let low = in_above x x xs above there in omega (arith, low))
  | inr none ↦ none
]

-- the origins of the marks are those whose stamp is not 0
origins_in : (ms : List Mark) (i : ℕ) → IsAscending (origins ms) → in_list (origins (filter is_mark ms)) i ≡ not (stamp_in ms i == 0)
origins_in [] i up = refl
origins_in (m ∷ ms) i up = go (is_mark m) refl (origins_in ms i up.1)
  where
    here : (z : Bool) → is_mark m ≡ z → m.origin ≡ i → in_list (origins (cond z (m ∷ filter is_mark ms) (filter is_mark ms))) i ≡ is_mark m
    here true e same = ap (λ b. b || in_list (origins (filter is_mark ms)) i) (eq-eqb m.origin i same) ∙ sym e
    here false e same =
        none_below i (origins (filter is_mark ms)) (subst (λ x. AllByRecursion (λ y. x < y) (origins (filter is_mark ms))) same (origins_filter (λ y. m.origin < y) ms up.0)) ∙ sym e

    there : (z : Bool) → (m.origin == i) ≡ false → in_list (origins (filter is_mark ms)) i ≡ not (stamp_in ms i == 0)
        → in_list (origins (cond z (m ∷ filter is_mark ms) (filter is_mark ms))) i ≡ not (stamp_in ms i == 0)
    there true other later = ap (λ b. b || in_list (origins (filter is_mark ms)) i) other ∙ later
    there false other later = later

    go : (z : Bool) → is_mark m ≡ z → in_list (origins (filter is_mark ms)) i ≡ not (stamp_in ms i == 0)
        → in_list (origins (cond z (m ∷ filter is_mark ms) (filter is_mark ms))) i ≡ not ((if m.origin == i then m.stamp else stamp_in ms i) == 0)
    go z e later = elim (cases_eq m.origin i) [
      | inl same ↦ here z e same ∙ sym (ap (λ b. not ((if b then m.stamp else stamp_in ms i) == 0)) (eq-eqb m.origin i same))
      | inr n ↦
          let other = ne_eqb m.origin i n in
          there z other later ∙ sym (ap (λ b. not ((if b then m.stamp else stamp_in ms i) == 0)) other)
    ]

stamp_after : (m : Mark) (ms : List Mark) (i : ℕ) → m.origin < i → stamp_in ms i ≡ stamp_in (m ∷ ms) i
stamp_after m ms i low = sym (ap (λ z. if z then m.stamp else stamp_in ms i) (ne_eqb m.origin i (λ e. absurd (omega (arith, e, low)))))

rows_of_marks : (k : ℕ) (ms : List Mark) → IsAscending (origins ms) → map (row_of_mark k) (filter is_mark ms) ≡ map (stamped_pair_of (λ x. stamp_in ms) k) (origins (filter is_mark ms))
rows_of_marks k [] up = refl
rows_of_marks k (m ∷ ms) up = go (is_mark m) (rows_of_marks k ms up.1 ∙ moved)
  where
    moved : map (stamped_pair_of (λ x. stamp_in ms) k) (origins (filter is_mark ms)) ≡ map (stamped_pair_of (λ x. stamp_in (m ∷ ms)) k) (origins (filter is_mark ms))
    moved =
        map_same (stamped_pair_of (λ x. stamp_in ms) k) (stamped_pair_of (λ x. stamp_in (m ∷ ms)) k) (origins (filter is_mark ms))
        (weaker (λ y. m.origin < y) (λ i. stamped_pair_of (λ x. stamp_in ms) k i ≡ stamped_pair_of (λ x. stamp_in (m ∷ ms)) k i)
        (λ i low. ap (λ (n : ℕ). row_of_mark k (record { origin = i; stamp = n })) (stamp_after m ms i low))
        (origins (filter is_mark ms)) (origins_filter (λ y. m.origin < y) ms up.0))

    first : row_of_mark k m ≡ stamped_pair_of (λ x. stamp_in (m ∷ ms)) k m.origin
    first =
        ap (λ (n : ℕ). row_of_mark k (record { origin = m.origin; stamp = n })) (sym (ap (λ z. if z then m.stamp else stamp_in ms m.origin) (eq-eqb m.origin m.origin refl)))

    go : (z : Bool) → map (row_of_mark k) (filter is_mark ms) ≡ map (stamped_pair_of (λ x. stamp_in (m ∷ ms)) k) (origins (filter is_mark ms))
        → map (row_of_mark k) (cond z (m ∷ filter is_mark ms) (filter is_mark ms)) ≡ map (stamped_pair_of (λ x. stamp_in (m ∷ ms)) k) (origins (cond z (m ∷ filter is_mark ms) (filter is_mark ms)))
    go true others = λ i. first i ∷ others i
    go false others = others

numbers_of : (ms : List Mark) → AllByRecursion (λ (m : Mark). IsNumber m.origin) ms → AllByRecursion IsNumber (origins ms)
numbers_of [] all = tt
numbers_of (m ∷ ms) all = (all.0, numbers_of ms all.1)

pub marks_are : (v : State) (k : ℕ) (ms : List Mark) → IsAscending (origins ms) → AllByRecursion (λ (m : Mark). IsNumber m.origin) ms → ((i : ℕ) → stamp_in ms i ≡ v.marks k i)
    → map (row_of_mark k) (filter is_mark ms) ≡ marks_from v k
marks_are v k ms up numbers stamps =
    rows_of_marks k ms up
    ∙ ap (λ (f : ℕ → ℕ). map (stamped_pair_of (λ x. f) k) (origins (filter is_mark ms))) (fun_ext stamps)
    ∙ ap (map (stamped_pair_of v.marks k))
    (some_numbers (λ i. not (v.marks k i == 0)) (origins (filter is_mark ms)) (origins_ascend ms up) (origins_filter IsNumber ms (numbers_of ms numbers))
    (λ i. origins_in ms i up ∙ ap (λ n. not (n == 0)) (stamps i)))

-- whose mark has a stamp has a number
pub marked_number : (ms : List Mark) (i : ℕ) → AllByRecursion (λ (m : Mark). IsNumber m.origin) ms → stamp_in ms i ≢ 0 → IsNumber i
marked_number [] i numbers some = absurd (some refl)
marked_number (m ∷ ms) i numbers some = elim (cases_eq m.origin i) [
  | inl e ↦ subst IsNumber e numbers.0
  | inr n ↦ marked_number ms i numbers.1 (λ none. some (ap (λ z. if z then m.stamp else stamp_in ms i) (ne_eqb m.origin i n) ∙ none))
]

-- ---- stamps, process by process

pub stamps_more : (test : ℕ → Bool) (stamp : ℕ → ℕ) (ms : List ℕ) (i a : ℕ) (before after : List Stamped) (b : Bool) → i < length ms → a ≡ get_or ms i 0 → test a ≡ b
    → before ≡ stamped_where test stamp (take i ms) → after ≡ (if b then before ++ stamped_of stamp a ∷ [] else before) → after ≡ stamped_where test stamp (take (i + 1) ms)
stamps_more test stamp ms i a before after b inside is passes so_far pushes =
    pushes ∙ ap (λ l. if b then l ++ stamped_of stamp a ∷ [] else l) so_far ∙ join b passes
    ∙ ap (λ l. map (stamped_of stamp) l) (sym (filter-append test (take i ms) (a ∷ [])))
    ∙ ap (λ m. stamped_where test stamp (take i ms ++ m ∷ [])) is ∙ ap (stamped_where test stamp) (sym (take_more ms i 0 inside))
  where
    join : (z : Bool) → test a ≡ z → (if z then map (stamped_of stamp) (filter test (take i ms)) ++ stamped_of stamp a ∷ [] else map (stamped_of stamp) (filter test (take i ms)))
        ≡ map (stamped_of stamp) (filter test (take i ms) ++ filter test (a ∷ []))
    join true e = sym (ap (λ z. map (stamped_of stamp) (filter test (take i ms) ++ cond z (a ∷ []) [])) e ∙ map-append (stamped_of stamp) (filter test (take i ms)) (a ∷ []))
    join false e = sym (ap (λ z. map (stamped_of stamp) (filter test (take i ms) ++ cond z (a ∷ []) [])) e ∙ ap (map (stamped_of stamp)) (append-nil (filter test (take i ms))))

-- a stamp that is not 0
pub stamped : (m n : ℕ) → m ≡ n → m ≢ 0 → not (n == 0) ≡ true
stamped m n e some = ap not (ne_eqb n 0 (λ none. some (e ∙ none)))

pub unstamped : (m n : ℕ) → m ≡ n → m ≡ 0 → not (n == 0) ≡ false
unstamped m n e none = ap not (eq-eqb n 0 (sym e ∙ none))

-- ---- who has rows

-- the processes of a site, of which the facts of every journal hold
module _ (home : ℕ → ℕ) (s : ℕ) (v : State) (facts : JournalFacts home s v) (ms : List ℕ) (at_home : (p : ℕ) → in_list ms p ≡ (home p == s)) where
  pub member : (p : ℕ) → home p ≡ s → in_list ms p ≡ true
  member p here = at_home p ∙ eq-eqb (home p) s here

  away : (p : ℕ) → in_list ms p ≡ false → home p ≢ s
  away p none here = true≢false (sym (member p here) ∙ none)

  no_waits : (p : ℕ) → in_list ms p ≡ false → v.waits p ≡ []
  no_waits p none = go (v.waits p) refl
    where
      go : (ks : List ℕ) → v.waits p ≡ ks → ks ≡ []
      go [] e = refl
      go (k ∷ ks) e = absurd (away p none (facts.waits_home p k (ap (λ l. in_list l k) e ∙ ap (λ z. z || in_list ks k) (eq-eqb k k refl))).0)

  -- who has a mark, or is declared, is blocked, and so one of the site
  pub blocked_member : (p : ℕ) → is_blocked v p ≡ true → in_list ms p ≡ true
  blocked_member p blocked = elim (cases_Bool (in_list ms p)) [
    | inl there ↦ there
    | inr none ↦ absurd (true≢false (sym blocked ∙ ap is_nonempty (no_waits p none)))
  ]

  pub marked_member : (k i : ℕ) → v.marks k i ≢ 0 → in_list ms k ≡ true
  marked_member k i some = elim (cases_Bool (is_blocked v k)) [
    | inl blocked ↦ blocked_member k blocked
    | inr active ↦ absurd (some (facts.no_marks k i active))
  ]

  no_marks : (p : ℕ) → in_list ms p ≡ false → marked_by v p ≡ []
  no_marks p none = none_pass (λ i. not (v.marks p i == 0)) (λ i some. unmarked i some) all_numbers
    where
      unmarked : (i : ℕ) → not (v.marks p i == 0) ≡ true → ⊥
      unmarked i some =
          let zero_mark : v.marks p i ≡ 0 = facts.no_marks p i (ap is_nonempty (no_waits p none)) in
          true≢false (sym some ∙ ap (λ n. not (n == 0)) zero_mark)

  module _ (up : IsAscending ms) (numbers : AllByRecursion IsNumber ms) where
    pub all_waits : flat_map (waits_from v) ms ≡ stamped_pairs v.waits v.since all_numbers
    all_waits = of_members (waits_from v) ms up numbers (λ p none. ap (map (stamped_pair_of v.since p)) (no_waits p none))

    pub all_leaving : flat_map (pairs_from v.leaving) ms ≡ pairs_where v.leaving all_numbers all_numbers
    all_leaving = of_members (pairs_from v.leaving) ms up numbers
        (λ p none. ap (map (pair_of p)) (none_pass (v.leaving p) (λ k h. away p none (facts.leaving_away p k h).0) all_numbers))

    pub all_owed : flat_map (pairs_from v.owed) ms ≡ pairs_where v.owed all_numbers all_numbers
    all_owed = of_members (pairs_from v.owed) ms up numbers
        (λ p none. ap (map (pair_of p)) (none_pass (v.owed p) (λ j h. away p none (facts.owed_home p j h)) all_numbers))

    pub all_marks : flat_map (marks_from v) ms ≡ stamped_pairs (marked_by v) v.marks all_numbers
    all_marks = of_members (marks_from v) ms up numbers (λ p none. ap (map (stamped_pair_of v.marks p)) (no_marks p none))

-- those of a controller
module _ (c : Controller) (known : HasFacts c) (ms : List ℕ) (at_home : (p : ℕ) → in_list ms p ≡ (home_of c p == c.site)) (up : IsStrictlyIncreasing ms) where
  numbers_here : AllByRecursion IsNumber ms
  numbers_here = all_in IsNumber ms (λ p there. known.numbers p (λ none. known.site (sym (eqb-true (home_of c p) c.site (sym (at_home p) ∙ there)) ∙ none)))

  pub waits_of_all : flat_map (waits_from (state_of c)) ms ≡ stamped_pairs (state_of c).waits (state_of c).since all_numbers
  waits_of_all = all_waits (home_of c) c.site (state_of c) known.facts ms at_home (ascends ms up) numbers_here

  pub leaving_of_all : flat_map (pairs_from (state_of c).leaving) ms ≡ pairs_where (state_of c).leaving all_numbers all_numbers
  leaving_of_all = all_leaving (home_of c) c.site (state_of c) known.facts ms at_home (ascends ms up) numbers_here

  pub owed_of_all : flat_map (pairs_from (state_of c).owed) ms ≡ pairs_where (state_of c).owed all_numbers all_numbers
  owed_of_all = all_owed (home_of c) c.site (state_of c) known.facts ms at_home (ascends ms up) numbers_here

  pub marks_of_all : flat_map (marks_from (state_of c)) ms ≡ stamped_pairs (marked_by (state_of c)) (state_of c).marks all_numbers
  marks_of_all = all_marks (home_of c) c.site (state_of c) known.facts ms at_home (ascends ms up) numbers_here

  -- whoever has asked is one of the site
  pub stamps_of_all : stamped_where (has_asked (state_of c)) (state_of c).stamp ms ≡ stamped_where (has_asked (state_of c)) (state_of c).stamp all_numbers
  stamps_of_all = ap (map (stamped_of (state_of c).stamp)) (some_members (has_asked (state_of c)) ms (ascends ms up) numbers_here
      (λ p some. at_home p ∙ eq-eqb (home_of c p) c.site (known.asked p (λ none. true≢false (sym some ∙ ap not (eq-eqb ((state_of c).stamp p) 0 none))))))
