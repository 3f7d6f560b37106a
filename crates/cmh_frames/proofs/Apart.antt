-- Rows in which nothing stands twice.
use Rattle.std.proofs.Common.{inl, inr, ◌≡◌, ◌≢◌, ◌↔◌, ℕ, Bool, true, false, ◌||◌, true≢false, List, [], ◌∷◌, map, None, Some, cond, refl, sym, ap, ◌∙◌, subst, ◌==◌}
use Rattle.std.specs.List.{list_any, AllByRecursion, IsDistinct}
use Rattle.std.proofs.lemmas.Bool.{cases_eq, cases_Bool, eqb-true, eq-eqb, ne_eqb, and_parts, and_from, or_cases, or_parts, or_left, or_right}
use Rattle.std.proofs.lemmas.Map.Keys.{IsDistinct-cons}
use Rattle.std.proofs.lemmas.Option.{none-some}
use Rattle.cmh_frames.specs.Rows.{Row, repeats}
use Rattle.cmh_frames.proofs.Words.{has_site, is_named, repeats_site}
use Rattle.cmh_frames.specs.Inner.Twice.{has_process, repeats_among, repeats_process}
use Rattle.cmh_frames.specs.Topology.{home_in}
use Rattle.cmh_frames.specs.Inner.Kept.{members_in}
use Rattle.cmh_frames.specs.Inner.Kept.{AreApart}

pub some_same : {a b : ℕ} → Some a ≡ Some b → a ≡ b
some_same e = cc

pub not_both : {b : Bool} → b ≡ true → b ≡ false → ⊥
not_both t f = true≢false (sym t ∙ f)

-- the test of `==`, from either side
pub eqb_comm : (a b : ℕ) → (a == b) ≡ (b == a)
eqb_comm a b = elim (cases_eq a b) [
  | inl e ↦ eq-eqb a b e ∙ sym (eq-eqb b a (sym e))
  | inr n ↦ ne_eqb a b n ∙ sym (ne_eqb b a (λ e. n (sym e)))
]

-- ---- where the first row does or doesn't name a process

pub home_first : (row : Row) (rows : List Row) (p : ℕ) → list_any (λ q. q == p) row.1 ≡ true → home_in (row ∷ rows) p ≡ Some row.0
home_first row rows p h = ap (λ b. cond b (Some row.0) (home_in rows p)) h

pub home_later : (row : Row) (rows : List Row) (p : ℕ) → list_any (λ q. q == p) row.1 ≡ false → home_in (row ∷ rows) p ≡ home_in rows p
home_later row rows p h = ap (λ b. cond b (Some row.0) (home_in rows p)) h

pub members_first : (row : Row) (rows : List Row) (s : ℕ) → row.0 ≡ s → members_in (row ∷ rows) s ≡ row.1
members_first row rows s e = ap (λ b. cond b row.1 (members_in rows s)) (eq-eqb row.0 s e)

pub members_later : (row : Row) (rows : List Row) (s : ℕ) → row.0 ≢ s → members_in (row ∷ rows) s ≡ members_in rows s
members_later row rows s n = ap (λ b. cond b row.1 (members_in rows s)) (ne_eqb row.0 s n)

-- a process that no row names has no home
homeless : (rows : List Row) (p : ℕ) → has_process rows p ≡ false → home_in rows p ≡ None
homeless [] p h = refl
homeless (row ∷ rows) p h = let parts = or_parts (list_any (λ q. q == p) row.1) (has_process rows p) h in home_later row rows p parts.0 ∙ homeless rows p parts.1

-- a home is the site of a row
pub home_has_row : (rows : List Row) (p s : ℕ) → home_in rows p ≡ Some s → has_site rows s ≡ true
home_has_row [] p s h = absurd (none-some _ h)
home_has_row (row ∷ rows) p s h = elim (cases_Bool (list_any (λ q. q == p) row.1)) [
  | inl e ↦ or_left (row.0 == s) (has_site rows s) (eq-eqb row.0 s (some_same (sym (home_first row rows p e) ∙ h)))
  | inr e ↦ or_right (row.0 == s) (has_site rows s) (home_has_row rows p s (sym (home_later row rows p e) ∙ h))
]

not_among : (rows : List Row) (ps : List ℕ) (p : ℕ) → repeats_among rows ps ≡ false → list_any (λ q. q == p) ps ≡ true → has_process rows p ≡ false
not_among rows [] p h found = absurd (not_both found refl)
not_among rows (q ∷ ps) p h found =
    let parts = or_parts (list_any (λ r. r == q) ps || has_process rows q) (repeats_among rows ps) h in
    let here = or_parts (list_any (λ r. r == q) ps) (has_process rows q) parts.0 in
    elim (or_cases (q == p) (list_any (λ r. r == p) ps) found) [
      | inl e ↦ subst (λ r. has_process rows r ≡ false) (eqb-true q p e) here.1
      | inr e ↦ not_among rows ps p parts.1 e
    ]

-- rows that repeat no site and no process are apart
pub apart : (rows : List Row) → repeats_site rows ≡ false → repeats_process rows ≡ false → AreApart rows
apart [] sites processes = tt
apart (row ∷ rows) sites processes =
    let site = or_parts (has_site rows row.0) (repeats_site rows) sites in
    let process = or_parts (repeats_among rows row.1) (repeats_process rows) processes in (
      (λ p found. homeless rows p (not_among rows row.1 p process.0 found)),
      (λ p h. not_both (home_has_row rows p row.0 h) site.0),
      apart rows site.1 process.1,
    )

-- ---- numbers that differ

none_same : (p : ℕ) (ps : List ℕ) → list_any (λ q. q == p) ps ≡ false → AllByRecursion (λ q. (p == q) ≡ false) ps
none_same p [] h = tt
none_same p (q ∷ ps) h = let parts = or_parts (q == p) (list_any (λ r. r == p) ps) h in (eqb_comm p q ∙ parts.0, none_same p ps parts.1)

distinct_among : (rows : List Row) (ps : List ℕ) → repeats_among rows ps ≡ false → IsDistinct (λ x y. x == y) ps
unfolding IsDistinct
distinct_among rows [] h = tt
distinct_among rows (p ∷ ps) h =
    let parts = or_parts (list_any (λ r. r == p) ps || has_process rows p) (repeats_among rows ps) h in
    let here = or_parts (list_any (λ r. r == p) ps) (has_process rows p) parts.0 in
    IsDistinct-cons (λ x y. x == y) p ps (none_same p ps here.0) (distinct_among rows ps parts.1)

pub distinct_members : (rows : List Row) (s : ℕ) → repeats_process rows ≡ false → IsDistinct (λ x y. x == y) (members_in rows s)
unfolding IsDistinct
distinct_members [] s h = tt
distinct_members (row ∷ rows) s h =
    let parts = or_parts (repeats_among rows row.1) (repeats_process rows) h in
    elim (cases_eq row.0 s) [
      | inl e ↦ subst (IsDistinct (λ x y. x == y)) (sym (members_first row rows s e)) (distinct_among rows row.1 parts.0)
      | inr e ↦ subst (IsDistinct (λ x y. x == y)) (sym (members_later row rows s e)) (distinct_members rows s parts.1)
    ]

pub any_site : (rows : List Row) (s : ℕ) → list_any (λ q. q == s) (map (λ (row : Row). row.0) rows) ≡ has_site rows s
any_site [] s = refl
any_site (row ∷ rows) s = ap (λ b. (row.0 == s) || b) (any_site rows s)

-- the check of all rows, site by site
pub sites_repeat : (rows : List Row) → repeats (map (λ (row : Row). row.0) rows) ≡ repeats_site rows
sites_repeat [] = refl
sites_repeat (row ∷ rows) =
    ap (λ b. b || repeats (map (λ (row : Row). row.0) rows)) (any_site rows row.0) ∙ ap (λ b. has_site rows row.0 || b) (sites_repeat rows)

pub distinct_sites : (rows : List Row) → repeats_site rows ≡ false → IsDistinct (λ x y. x == y) (map (λ (row : Row). row.0) rows)
unfolding IsDistinct
distinct_sites [] h = tt
distinct_sites (row ∷ rows) h =
    let parts = or_parts (has_site rows row.0) (repeats_site rows) h in
    IsDistinct-cons (λ x y. x == y) row.0 (map (λ (row : Row). row.0) rows) (none_same row.0 _ (any_site rows row.0 ∙ parts.0)) (distinct_sites rows parts.1)

-- ---- who is where

-- a process has the site that names it for its home
pub named_at : (rows : List Row) (p s : ℕ) → AreApart rows → (home_in rows p ≡ Some s) ↔ (is_named rows p s ≡ true)
named_at [] p s apart = (λ h. absurd (none-some _ h), λ h. absurd (not_both h refl))
named_at (row ∷ rows) p s apart =
    let later = named_at rows p s apart.2 in
    elim (cases_Bool (list_any (λ q. q == p) row.1)) [
      | inl e ↦ (
        (λ h. or_left _ (is_named rows p s) (and_from (row.0 == s) _ (eq-eqb row.0 s (some_same (sym (home_first row rows p e) ∙ h))) e)),
        (λ h. elim (or_cases _ (is_named rows p s) h) [
          | inl n ↦ home_first row rows p e ∙ ap Some (eqb-true row.0 s (and_parts (row.0 == s) _ n).0)
          | inr n ↦ absurd (none-some _ (sym (apart.0 p e) ∙ later.1 n))
        ]),
      )
      | inr e ↦ (
        (λ h. or_right _ (is_named rows p s) (later.0 (sym (home_later row rows p e) ∙ h))),
        (λ h. elim (or_cases _ (is_named rows p s) h) [
          | inl n ↦ absurd (not_both (and_parts (row.0 == s) _ n).1 e)
          | inr n ↦ home_later row rows p e ∙ later.1 n
        ]),
      )
    ]
