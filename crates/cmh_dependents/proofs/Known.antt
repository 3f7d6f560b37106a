-- Who is known to depend on whom, by the lists of some processes.
use Rattle.std.proofs.Common.{◌≡◌, ◌≢◌, ◌<◌, ◌≤◌, ◌+◌, ℕ, true, false, true≢false, refl, not, ◌&&◌, ◌||◌, ◌==◌, List, [], length, get_or, sym, ap, ◌∙◌, inl, inr, arith, nat_cmp, Ok, Err}
use Rattle.std.specs.List.{filter, insert}
use Rattle.std.specs.List.Sorted.{IsStrictlyIncreasing, IsBinarySearchResult}
use Rattle.std.proofs.Math.ListN.{set}
use Rattle.std.proofs.Math.Bool.{and-false, and-true}
use Rattle.std.proofs.lemmas.Bool.{and_parts, eq-eqb, ne_eqb, cases_Bool, cases_eq, cases_lt}
use Rattle.std.proofs.lemmas.List.{get_or-set_same, get_or-set_other, length-set}
use Rattle.std.proofs.lemmas.List.Edits.{length-insert, get_or-insert_below, get_or-insert_at, get_or-insert_above}
use Rattle.std.proofs.lemmas.List.Sorted.{searched}
use Rattle.cmh_frames.specs.Relation.{Relation, has, with_pair, without_pair, only_firsts}
use Rattle.cmh_frames.proofs.Members.{not_decreasing}
use Rattle.cmh_frames.proofs.Pairs.{has-with, has-without, has-only, same_relation}
use Rattle.cmh_waits.specs.Rows.{is_in, pairs_of, place_in}
use Rattle.cmh_waits.proofs.ListLemmas.{in_insert, in_less}
use Rattle.cmh_waits.proofs.Members.{among_is}
use Rattle.cmh_waits.proofs.RowLemmas.{in_at, in_pairs_of, found_place, place_at}
use Rattle.cmh_waits.proofs.Sets.{has-from_list}
use Rattle.cmh_dependents.specs.Inner.Known.{AreKnown, Marks, known_of}

has-known : (ps : List ℕ) (lists : List (List ℕ)) (x y : ℕ) → has (known_of ps lists) x y ≡ (is_in ps x && is_in (get_or lists (place_in ps x) []) y)
has-known ps lists x y =
    has-from_list (pairs_of ps (λ p. get_or lists (place_in ps p) [])) x y ∙ in_pairs_of ps (λ p. get_or lists (place_in ps p) []) x y

-- of a process without a list nothing is known
pub has_none : (ps : List ℕ) (lists : List (List ℕ)) (x y : ℕ) → is_in ps x ≡ false → has (known_of ps lists) x y ≡ false
has_none ps lists x y none = has-known ps lists x y ∙ ap (λ t. t && is_in (get_or lists (place_in ps x) []) y) none

-- of another the list at its place tells
pub has_at : (ps : List ℕ) (lists : List (List ℕ)) → AreKnown ps lists → (i x y : ℕ) → i < length ps → get_or ps i 0 ≡ x → has (known_of ps lists) x y ≡ is_in (get_or lists i []) y
has_at ps lists are i x y inside is =
    has-known ps lists x y
    ∙ ap (λ t. t && is_in (get_or lists (place_in ps x) []) y) (in_at ps i x inside is)
    ∙ ap (λ p. is_in (get_or lists p []) y) (place_at ps are.ascending i x inside is)

-- nothing is known at first
pub known_start : (ps : List ℕ) (lists : List (List ℕ)) (marked : List ℕ) → ps ≡ [] → lists ≡ [] → AreKnown ps lists × Marks marked (known_of ps lists)
known_start ps lists marked none empty = (
  record { ascending = λ k h. absurd (let long = ap length none in omega (arith, h, long)); len = ap length empty ∙ sym (ap length none) },
  λ z y some. absurd (true≢false (sym some ∙ has_none ps lists z y (ap (λ xs. is_in xs z) none))),
)

-- where a search finds a process, and what it tells of one that it misses
module _ (ps : List ℕ) (x : ℕ) (up : IsStrictlyIncreasing ps) where
  pub found : (i : ℕ) → IsBinarySearchResult (λ y. nat_cmp y x) ps (Ok i) → (i < length ps) × (get_or ps i 0 ≡ x)
  found i position = let at = searched ps x (Ok i) position (not_decreasing ps up) in (at.0, at.1)

  pub missed : (i : ℕ) → IsBinarySearchResult (λ y. nat_cmp y x) ps (Err i) → is_in ps x ≡ false
  missed i position = sym (among_is ps x (Err i) up position)

-- ---- another list for one of the processes

module _ (ps : List ℕ) (lists : List (List ℕ)) (are : AreKnown ps lists) (i x : ℕ) (inside : i < length ps) (is : get_or ps i 0 ≡ x) (list : List ℕ) where
  pub still_known : AreKnown ps (set lists i list)
  still_known = record { ascending = are.ascending; len = length-set lists i list ∙ are.len }

  listed : (y : ℕ) → has (known_of ps (set lists i list)) x y ≡ is_in list y
  listed y = has_at ps (set lists i list) still_known i x y inside is ∙ ap (λ xs. is_in xs y) (get_or-set_same lists i list [] (omega (arith, inside, are.len)))

  others : (z y : ℕ) → z ≢ x → has (known_of ps (set lists i list)) z y ≡ has (known_of ps lists) z y
  others z y other = elim (cases_Bool (is_in ps z)) [
    | inl there ↦
        let at = found_place ps z there in
        has_at ps (set lists i list) still_known at.0 z y at.1 at.2
        ∙ ap (λ xs. is_in xs y) (get_or-set_other lists i at.0 list [] (λ e. other (sym at.2 ∙ ap (λ k. get_or ps k 0) e ∙ is)))
        ∙ sym (has_at ps lists are at.0 z y at.1 at.2)
    | inr none ↦ has_none ps (set lists i list) z y none ∙ sym (has_none ps lists z y none)
  ]

  -- one more
  pub one_more : (o : ℕ) → ((q : ℕ) → is_in list q ≡ ((q == o) || is_in (get_or lists i []) q)) → known_of ps (set lists i list) ≡ with_pair (known_of ps lists) x o
  one_more o more = same_relation _ _ (λ z y. elim (cases_eq z x) [
    | inl e ↦
        ap (λ p. has (known_of ps (set lists i list)) p y) e ∙ listed y ∙ more y
        ∙ ap (λ b. (y == o) || b) (sym (has_at ps lists are i x y inside is))
        ∙ sym (has-with (known_of ps lists) x o z y ∙ ap (λ b. (b && (y == o)) || has (known_of ps lists) z y) (eq-eqb z x e) ∙ ap (λ p. (y == o) || has (known_of ps lists) p y) e)
    | inr n ↦ others z y n ∙ sym (has-with (known_of ps lists) x o z y ∙ ap (λ b. (b && (y == o)) || has (known_of ps lists) z y) (ne_eqb z x n))
  ])

  -- one less
  pub one_less : (o : ℕ) → list ≡ filter (λ q. not (q == o)) (get_or lists i []) → known_of ps (set lists i list) ≡ without_pair (known_of ps lists) x o
  one_less o less = same_relation _ _ (λ z y. elim (cases_eq z x) [
    | inl e ↦
        ap (λ p. has (known_of ps (set lists i list)) p y) e ∙ listed y ∙ ap (λ xs. is_in xs y) less ∙ in_less (get_or lists i []) o y
        ∙ ap (λ b. not (y == o) && b) (sym (has_at ps lists are i x y inside is))
        ∙ sym (has-without (known_of ps lists) x o z y ∙ ap (λ b. not (b && (y == o)) && has (known_of ps lists) z y) (eq-eqb z x e) ∙ ap (λ p. not (y == o) && has (known_of ps lists) p y) e)
    | inr n ↦ others z y n ∙ sym (has-without (known_of ps lists) x o z y ∙ ap (λ b. not (b && (y == o)) && has (known_of ps lists) z y) (ne_eqb z x n))
  ])

  -- the others stay as they are marked
  pub marked_at : (marked : List ℕ) → is_in marked x ≡ true → Marks marked (known_of ps lists) → Marks marked (known_of ps (set lists i list))
  marked_at marked first marks z y some = elim (cases_eq z x) [
    | inl e ↦ ap (is_in marked) e ∙ first
    | inr n ↦ marks z y (sym (others z y n) ∙ some)
  ]

  -- none
  pub none_left : list ≡ [] → known_of ps (set lists i list) ≡ only_firsts (known_of ps lists) (λ p. not (p == x))
  none_left none = same_relation _ _ (λ z y. elim (cases_eq z x) [
    | inl e ↦
        ap (λ p. has (known_of ps (set lists i list)) p y) e ∙ listed y ∙ ap (λ xs. is_in xs y) none
        ∙ sym (has-only (known_of ps lists) (λ p. not (p == x)) z y ∙ ap (λ b. has (known_of ps lists) z y && not b) (eq-eqb z x e) ∙ and-false (has (known_of ps lists) z y))
    | inr n ↦ others z y n ∙ sym (has-only (known_of ps lists) (λ p. not (p == x)) z y ∙ ap (λ b. has (known_of ps lists) z y && not b) (ne_eqb z x n) ∙ and-true (has (known_of ps lists) z y))
  ])

-- ---- a process on whom nobody is known to depend

pub none_known : (r : Relation) (x : ℕ) → ((y : ℕ) → has r x y ≡ false) → r ≡ only_firsts r (λ p. not (p == x))
none_known r x none = same_relation _ _ (λ z y. sym (has-only r (λ p. not (p == x)) z y ∙ elim (cases_eq z x) [
  | inl e ↦
      let absent = ap (λ p. has r p y) e ∙ none y in
      ap (λ b. b && not (z == x)) absent ∙ sym absent
  | inr n ↦ ap (λ b. has r z y && not b) (ne_eqb z x n) ∙ and-true (has r z y)
]))

-- ---- the processes that are marked

pub unmarked : (marked : List ℕ) (r : Relation) (x : ℕ) → Marks marked r → is_in marked x ≡ false → (y : ℕ) → has r x y ≡ false
unmarked marked r x marks none y = elim (cases_Bool (has r x y)) [
  | inl some ↦ absurd (true≢false (sym (marks x y some) ∙ none))
  | inr absent ↦ absent
]

-- one mark more
module _ (marked more : List ℕ) (x : ℕ) (adds : (q : ℕ) → is_in more q ≡ ((q == x) || is_in marked q)) where
  pub now_marked : is_in more x ≡ true
  now_marked = adds x ∙ ap (λ b. b || is_in marked x) (eq-eqb x x refl)

  pub marked_more : (r : Relation) → Marks marked r → Marks more r
  marked_more r marks z y some = elim (cases_eq z x) [
    | inl e ↦ ap (is_in more) e ∙ now_marked
    | inr n ↦ adds z ∙ ap (λ b. b || is_in marked z) (ne_eqb z x n) ∙ marks z y some
  ]

-- one pair less
pub marked_without : (marked : List ℕ) (r : Relation) (x o : ℕ) → Marks marked r → Marks marked (without_pair r x o)
marked_without marked r x o marks z y some =
    marks z y (and_parts (not ((z == x) && (y == o))) (has r z y) (sym (has-without r x o z y) ∙ some)).1

-- one mark less, of a process on whom nobody is known to depend any longer
pub marked_less : (marked less : List ℕ) (r : Relation) (x : ℕ) → less ≡ filter (λ q. not (q == x)) marked → Marks marked r → Marks less (only_firsts r (λ p. not (p == x)))
marked_less marked less r x is marks z y some = elim (cases_eq z x) [
  | inl e ↦
      let none = has-only r (λ p. not (p == x)) z y ∙ ap (λ b. has r z y && not b) (eq-eqb z x e) ∙ and-false (has r z y) in
      absurd (true≢false (sym some ∙ none))
  | inr n ↦
      let kept = has-only r (λ p. not (p == x)) z y ∙ ap (λ b. has r z y && not b) (ne_eqb z x n) ∙ and-true (has r z y) in
      ap (λ xs. is_in xs z) is ∙ in_less marked x z ∙ ap (λ b. not b && is_in marked z) (ne_eqb z x n) ∙ marks z y (sym kept ∙ some)
]

-- ---- a process without a list

module _ (ps : List ℕ) (lists : List (List ℕ)) (x : ℕ) (none : is_in ps x ≡ false) where
  pub nothing_less : (o : ℕ) → known_of ps lists ≡ without_pair (known_of ps lists) x o
  nothing_less o = same_relation _ _ (λ z y. sym (has-without (known_of ps lists) x o z y ∙ elim (cases_eq z x) [
    | inl e ↦
        let absent = ap (λ p. has (known_of ps lists) p y) e ∙ has_none ps lists x y none in
        ap (λ b. not ((z == x) && (y == o)) && b) absent ∙ and-false (not ((z == x) && (y == o))) ∙ sym absent
    | inr n ↦ ap (λ b. not (b && (y == o)) && has (known_of ps lists) z y) (ne_eqb z x n)
  ]))

  pub nothing_left : known_of ps lists ≡ only_firsts (known_of ps lists) (λ p. not (p == x))
  nothing_left = none_known (known_of ps lists) x (λ y. has_none ps lists x y none)

-- ---- an empty list that is put in

module _ (ps : List ℕ) (lists : List (List ℕ)) (are : AreKnown ps lists) (i x : ℕ) (inside : i ≤ length ps) (up : IsStrictlyIncreasing (insert ps i x)) (none : is_in ps x ≡ false) where
  pub known_with : AreKnown (insert ps i x) (insert lists i [])
  known_with = record {
    ascending = up;
    len = length-insert lists i [] (omega (arith, inside, are.len)) ∙ ap (λ n. n + 1) are.len ∙ sym (length-insert ps i x inside);
  }

  pub nothing_more : known_of (insert ps i x) (insert lists i []) ≡ known_of ps lists
  nothing_more = same_relation _ _ (λ z y. elim (cases_eq z x) [
    | inl e ↦
        ap (λ p. has (known_of (insert ps i x) (insert lists i [])) p y) e
        ∙ has_at (insert ps i x) (insert lists i []) known_with i x y (let long = length-insert ps i x inside in omega (arith, long, inside)) (get_or-insert_at ps i x 0 inside)
        ∙ ap (λ xs. is_in xs y) (get_or-insert_at lists i [] [] (omega (arith, inside, are.len)))
        ∙ sym (ap (λ p. has (known_of ps lists) p y) e ∙ has_none ps lists x y none)
    | inr n ↦ elim (cases_Bool (is_in ps z)) [
      | inl there ↦
          let at = found_place ps z there in
          let long = length-insert ps i x inside in
          let within = at.1 in
          elim (cases_lt at.0 i) [
            | inl below ↦
                has_at (insert ps i x) (insert lists i []) known_with at.0 z y (omega (arith, long, within)) (get_or-insert_below ps i x 0 at.0 below inside ∙ at.2)
                ∙ ap (λ xs. is_in xs y) (get_or-insert_below lists i [] [] at.0 below (omega (arith, inside, are.len)))
                ∙ sym (has_at ps lists are at.0 z y at.1 at.2)
            | inr above ↦
                has_at (insert ps i x) (insert lists i []) known_with (at.0 + 1) z y (omega (arith, long, within)) (get_or-insert_above ps i x 0 at.0 above inside ∙ at.2)
                ∙ ap (λ xs. is_in xs y) (get_or-insert_above lists i [] [] at.0 above (omega (arith, inside, are.len)))
                ∙ sym (has_at ps lists are at.0 z y at.1 at.2)
          ]
      | inr absent ↦
          has_none (insert ps i x) (insert lists i []) z y (in_insert ps i x z ∙ ap (λ b. b || is_in ps z) (ne_eqb z x n) ∙ absent)
          ∙ sym (has_none ps lists z y absent)
    ]
  ])
