-- Messages that are taken out of queues and held against others.
use Rattle.std.proofs.Common.{◌≡◌, ℕ, ◌+◌, ◌<◌, ◌==◌, ◌&&◌, ◌||◌, Bool, true, false, List, ◌∷◌, ◌++◌, length, drop, get_or, inl, inr, refl, sym, ap, ◌∙◌, subst}
use Rattle.std.proofs.lemmas.Bool.{cases_eq, eq-eqb, ne_eqb, or_parts, true≢false}
use Rattle.std.proofs.lemmas.List.{drop_more}
use Rattle.cmh_frames.specs.Rows.{repeats}
use Rattle.cmh_audit3.specs.Set.{has_site}

-- ---- sites that are left

split : (sites : List ℕ) (i to : ℕ) → i < length sites → to ≡ get_or sites i to → drop i sites ≡ to ∷ drop (i + 1) sites
split sites i to l is = drop_more sites i to l ∙ ap (λ x. x ∷ drop (i + 1) sites) (sym is)

first_in : (sites : List ℕ) (i to : ℕ) → i < length sites → to ≡ get_or sites i to → has_site (drop i sites) to ≡ true
first_in sites i to l is = ap (λ xs. has_site xs to) (split sites i to l is) ∙ ap (λ z. z || has_site (drop (i + 1) sites) to) (eq-eqb to to refl)

later_in : (sites : List ℕ) (i to b : ℕ) → i < length sites → to ≡ get_or sites i to → has_site (drop (i + 1) sites) b ≡ true → has_site (drop i sites) b ≡ true
later_in sites i to b l is there = ap (λ xs. has_site xs b) (split sites i to l is) ∙ go (to == b)
  where
    go : (z : Bool) → (z || has_site (drop (i + 1) sites) b) ≡ true
    go true = refl
    go false = there

parts : (sites : List ℕ) (i to : ℕ) → i < length sites → to ≡ get_or sites i to → repeats (drop i sites) ≡ false → (has_site (drop (i + 1) sites) to ≡ false) × (repeats (drop (i + 1) sites) ≡ false)
parts sites i to l is distinct = or_parts (has_site (drop (i + 1) sites) to) (repeats (drop (i + 1) sites)) (subst (λ xs. repeats xs ≡ false) (split sites i to l is) distinct)

apart_from : (xs : List ℕ) (to b : ℕ) → has_site xs to ≡ false → has_site xs b ≡ true → (to == b) ≡ false
apart_from xs to b none there = elim (cases_eq to b) [
  | inl e ↦ absurd (true≢false (sym there ∙ ap (has_site xs) (sym e) ∙ none))
  | inr n ↦ ne_eqb to b n
]

module _ {F : Type 0} where
  -- ---- those of one link

  -- the first of the messages have been taken out
  pub record Taken (before now : ℕ → ℕ → List F) (from to : ℕ) (taken messages : List F) : Type 0 where
    pub rest : before from to ≡ taken ++ now from to
    pub long : length (before from to) ≡ length messages
    pub others : (a b : ℕ) → ((from == a) && (to == b)) ≡ false → now a b ≡ before a b

  -- ---- those from one site

  -- those to the sites that are left have not been taken out, and none from other sites
  pub record LeftFrom (before now : ℕ → ℕ → List F) (from : ℕ) (left : List ℕ) : Type 0 where
    pub distinct : repeats left ≡ false
    pub left_in : (b : ℕ) → has_site left b ≡ true → now from b ≡ before from b
    pub others : (a b : ℕ) → (from == a) ≡ false → now a b ≡ before a b

  pub from_here : (before now : ℕ → ℕ → List F) (from : ℕ) (sites : List ℕ) (i to : ℕ) → i < length sites → to ≡ get_or sites i to → LeftFrom before now from (drop i sites) → now from to ≡ before from to
  from_here before now from sites i to l is left = left.left_in to (first_in sites i to l is)

  pub from_next : (before old new : ℕ → ℕ → List F) (from : ℕ) (sites : List ℕ) (i to : ℕ) → i < length sites → to ≡ get_or sites i to → LeftFrom before old from (drop i sites)
      → ((a b : ℕ) → ((from == a) && (to == b)) ≡ false → new a b ≡ old a b) → LeftFrom before new from (drop (i + 1) sites)
  from_next before old new from sites i to l is left same =
      let two = parts sites i to l is left.distinct in
      record {
        distinct = two.1;
        left_in = λ b there. same from b (and_no (from == from) (to == b) (apart_from (drop (i + 1) sites) to b two.0 there)) ∙ left.left_in b (later_in sites i to b l is there);
        others = λ a b far. same a b (ap (λ z. z && (to == b)) far) ∙ left.others a b far;
      }
    where
      and_no : (y z : Bool) → z ≡ false → (y && z) ≡ false
      and_no true z e = e
      and_no false z e = refl

  -- ---- all

  -- those from the sites that are left have not been taken out
  pub record LeftAll (before now : ℕ → ℕ → List F) (left : List ℕ) : Type 0 where
    pub distinct : repeats left ≡ false
    pub left_in : (a b : ℕ) → has_site left a ≡ true → now a b ≡ before a b

  pub all_here : (before now : ℕ → ℕ → List F) (sites : List ℕ) (i from : ℕ) → i < length sites → from ≡ get_or sites i from → LeftAll before now (drop i sites) → (b : ℕ) → now from b ≡ before from b
  all_here before now sites i from l is left b = left.left_in from b (first_in sites i from l is)

  pub all_next : (before old new : ℕ → ℕ → List F) (sites : List ℕ) (i from : ℕ) → i < length sites → from ≡ get_or sites i from → LeftAll before old (drop i sites)
      → ((a b : ℕ) → (from == a) ≡ false → new a b ≡ old a b) → LeftAll before new (drop (i + 1) sites)
  all_next before old new sites i from l is left same =
      let two = parts sites i from l is left.distinct in
      record {
        distinct = two.1;
        left_in = λ a b there. same a b (apart_from (drop (i + 1) sites) from a two.0 there) ∙ left.left_in a b (later_in sites i from a l is there);
      }
