-- What is under way is put into the queues, site by site.
use Rattle.std.proofs.Common.{◌≡◌, ℕ, suc, ◌+◌, ◌<◌, ◌==◌, ◌&&◌, ◌||◌, Bool, true, false, List, [], ◌∷◌, ◌++◌, length, take, drop, get_or, if◌then◌else◌, inl, inr, refl, sym, ap, ◌∙◌, subst, arith, append_assoc, append-nil}
use Rattle.std.specs.List.Sorted.{IsStrictlyIncreasing}
use Rattle.std.proofs.lemmas.Bool.{cases_eq, eqb-true, ne_eqb, or_parts}
use Rattle.std.proofs.lemmas.List.{drop_more, take_more}
use Rattle.std.proofs.lemmas.List.Folds.{list_any_none}
use Rattle.std.proofs.lemmas.List.Kept.{AllPairs-from_increasing}
use Rattle.std.specs.List.{AllPairs}
use Rattle.cmh_frames.specs.Rows.{repeats}
use Rattle.cmh_audit3.specs.Set.{has_site}

-- ---- sites that rise are not repeated

pairs_distinct : (xs : List ℕ) → AllPairs (λ x y. x < y) xs → repeats xs ≡ false
pairs_distinct [] rise = refl
pairs_distinct (x ∷ xs) rise =
    let first : has_site xs x ≡ false = list_any_none (λ q. q == x) xs (λ k d l. ne_eqb (get_or xs k d) x (λ e. let below = rise 0 (suc k) d (omega arith) (omega (arith, l)) in omega (arith, below, e))) in
    let rest : repeats xs ≡ false = pairs_distinct xs (λ i j d l m. rise (suc i) (suc j) d (omega (arith, l)) (omega (arith, m))) in
    ap (λ z. z || repeats xs) first ∙ rest

pub rise_distinct : (xs : List ℕ) → IsStrictlyIncreasing xs → repeats xs ≡ false
rise_distinct xs rise = pairs_distinct xs (AllPairs-from_increasing xs rise)

module _ {F : Type 0} where
  -- what is given where both hold
  abbrev pub where_both : Bool → Bool → List F → List F
  where_both y z given = if y && z then given else []

  first_part : (y p q : Bool) (given : List F) → (p ≡ true → q ≡ false) → where_both y p given ++ where_both y q given ≡ where_both y (p || q) given
  first_part false p q given apart = refl
  first_part true true q given apart = ap (λ z. given ++ where_both true z given) (apart refl) ∙ append-nil given
  first_part true false q given apart = refl

  second_part : (y p q : Bool) (given : List F) → (p ≡ true → q ≡ false) → where_both p y given ++ where_both q y given ≡ where_both (p || q) y given
  second_part y false q given apart = refl
  second_part true true q given apart = ap (λ z. given ++ where_both z true given) (apart refl) ∙ append-nil given
  second_part false true q given apart = ap (λ z. where_both z false given) (apart refl)

  none_there : (y : Bool) (given : List F) → where_both y false given ≡ []
  none_there true given = refl
  none_there false given = refl

  -- ---- the messages of one link

  -- of these messages the first are in the queues
  abbrev pub FirstSent : (ℕ → ℕ → List F) → (ℕ → ℕ → List F) → ℕ → ℕ → List F → Type 0
  FirstSent before now from to sent = (a b : ℕ) → now a b ≡ before a b ++ where_both (from == a) (to == b) sent

  pub none_sent : (before : ℕ → ℕ → List F) (from to : ℕ) → FirstSent before before from to []
  none_sent before from to a b = sym (ap (λ l. before a b ++ l) (go ((from == a) && (to == b))) ∙ append-nil (before a b))
    where
      go : (z : Bool) → ◌≡◌ {A = List F} (if z then [] else []) []
      go true = refl
      go false = refl

  pub one_sent : (before old new : ℕ → ℕ → List F) (from to i : ℕ) (messages : List F) (m : F) → i < length messages → m ≡ get_or messages i m → FirstSent before old from to (take i messages)
      → ((a b : ℕ) → new a b ≡ old a b ++ where_both (from == a) (to == b) (m ∷ [])) → FirstSent before new from to (take (i + 1) messages)
  one_sent before old new from to i messages m l is so_far sent a b =
      let next : take (i + 1) messages ≡ take i messages ++ m ∷ [] = take_more messages i m l ∙ ap (λ y. take i messages ++ y ∷ []) (sym is) in
      sent a b ∙ ap (λ x. x ++ where_both (from == a) (to == b) (m ∷ [])) (so_far a b)
      ∙ append_assoc (before a b) (where_both (from == a) (to == b) (take i messages)) (where_both (from == a) (to == b) (m ∷ []))
      ∙ ap (λ x. before a b ++ x) (go ((from == a) && (to == b))) ∙ ap (λ x. before a b ++ where_both (from == a) (to == b) x) (sym next)
    where
      go : (z : Bool) → (if z then take i messages else []) ++ (if z then m ∷ [] else []) ≡ (if z then take i messages ++ m ∷ [] else [])
      go true = refl
      go false = refl

  -- ---- the links of one site

  -- what is under way to the sites that are left is not in the queues yet
  pub record FromGoing (all : ℕ → ℕ → List F) (before now : ℕ → ℕ → List F) (from : ℕ) (sites left : List ℕ) : Type 0 where
    pub distinct : repeats left ≡ false
    pub sent : (a b : ℕ) → now a b ++ where_both (from == a) (has_site left b) (all a b) ≡ before a b ++ where_both (from == a) (has_site sites b) (all a b)

  pub from_more : (all before old new : ℕ → ℕ → List F) (from : ℕ) (sites : List ℕ) (i to : ℕ) (messages : List F) → i < length sites → to ≡ get_or sites i to → messages ≡ all from to
      → FromGoing all before old from sites (drop i sites) → FirstSent old new from to messages → FromGoing all before new from sites (drop (i + 1) sites)
  from_more all before old new from sites i to messages l is are so_far sent = record { distinct = parts.1; sent = more }
    where
      left : drop i sites ≡ to ∷ drop (i + 1) sites
      left = drop_more sites i to l ∙ ap (λ x. x ∷ drop (i + 1) sites) (sym is)

      parts : (has_site (drop (i + 1) sites) to ≡ false) × (repeats (drop (i + 1) sites) ≡ false)
      parts = or_parts (has_site (drop (i + 1) sites) to) (repeats (drop (i + 1) sites)) (subst (λ xs. repeats xs ≡ false) left so_far.distinct)

      -- the messages are those of their link
      same : (a b : ℕ) → where_both (from == a) (to == b) messages ≡ where_both (from == a) (to == b) (all a b)
      same a b = elim (cases_eq from a) [
        | inr far ↦ ap (λ z. where_both z (to == b) messages) (ne_eqb from a far) ∙ sym (ap (λ z. where_both z (to == b) (all a b)) (ne_eqb from a far))
        | inl here ↦ elim (cases_eq to b) [
          | inr far ↦ ap (λ z. where_both (from == a) z messages) (ne_eqb to b far) ∙ none_there (from == a) messages ∙ sym (ap (λ z. where_both (from == a) z (all a b)) (ne_eqb to b far) ∙ none_there (from == a) (all a b))
          | inl there ↦ ap (λ x. where_both (from == a) (to == b) x) (are ∙ (λ j. all (here j) (there j)))
        ]
      ]

      apart : (b : ℕ) → (to == b) ≡ true → has_site (drop (i + 1) sites) b ≡ false
      apart b e = subst (λ x. has_site (drop (i + 1) sites) x ≡ false) (eqb-true to b e) parts.0

      more : (a b : ℕ) → new a b ++ where_both (from == a) (has_site (drop (i + 1) sites) b) (all a b) ≡ before a b ++ where_both (from == a) (has_site sites b) (all a b)
      more a b =
          ap (λ x. x ++ where_both (from == a) (has_site (drop (i + 1) sites) b) (all a b)) (sent a b ∙ ap (λ x. old a b ++ x) (same a b))
          ∙ append_assoc (old a b) (where_both (from == a) (to == b) (all a b)) (where_both (from == a) (has_site (drop (i + 1) sites) b) (all a b))
          ∙ ap (λ x. old a b ++ x) (first_part (from == a) (to == b) (has_site (drop (i + 1) sites) b) (all a b) (apart b))
          ∙ ap (λ xs. old a b ++ where_both (from == a) (has_site xs b) (all a b)) (sym left)
          ∙ so_far.sent a b

  pub from_all : (all before now : ℕ → ℕ → List F) (from : ℕ) (sites left : List ℕ) → length left ≡ 0 → FromGoing all before now from sites left
      → (a b : ℕ) → now a b ≡ before a b ++ where_both (from == a) (has_site sites b) (all a b)
  from_all all before now from sites [] none going a b = sym (ap (λ x. now a b ++ x) (none_there (from == a) (all a b)) ∙ append-nil (now a b)) ∙ going.sent a b
  from_all all before now from sites (x ∷ left) none going a b = absurd (omega (arith, none))

  -- ---- all links

  -- what is under way from the sites that are left is not in the queues yet
  pub record BetweenGoing (all now : ℕ → ℕ → List F) (sites left : List ℕ) : Type 0 where
    pub distinct : repeats left ≡ false
    pub sent : (a b : ℕ) → now a b ++ where_both (has_site left a) (has_site sites b) (all a b) ≡ where_both (has_site sites a) (has_site sites b) (all a b)

  pub between_more : (all old new : ℕ → ℕ → List F) (sites : List ℕ) (i from : ℕ) → i < length sites → from ≡ get_or sites i from → BetweenGoing all old sites (drop i sites)
      → ((a b : ℕ) → new a b ≡ old a b ++ where_both (from == a) (has_site sites b) (all a b)) → BetweenGoing all new sites (drop (i + 1) sites)
  between_more all old new sites i from l is so_far sent = record { distinct = parts.1; sent = more }
    where
      left : drop i sites ≡ from ∷ drop (i + 1) sites
      left = drop_more sites i from l ∙ ap (λ x. x ∷ drop (i + 1) sites) (sym is)

      parts : (has_site (drop (i + 1) sites) from ≡ false) × (repeats (drop (i + 1) sites) ≡ false)
      parts = or_parts (has_site (drop (i + 1) sites) from) (repeats (drop (i + 1) sites)) (subst (λ xs. repeats xs ≡ false) left so_far.distinct)

      apart : (a : ℕ) → (from == a) ≡ true → has_site (drop (i + 1) sites) a ≡ false
      apart a e = subst (λ x. has_site (drop (i + 1) sites) x ≡ false) (eqb-true from a e) parts.0

      more : (a b : ℕ) → new a b ++ where_both (has_site (drop (i + 1) sites) a) (has_site sites b) (all a b) ≡ where_both (has_site sites a) (has_site sites b) (all a b)
      more a b =
          ap (λ x. x ++ where_both (has_site (drop (i + 1) sites) a) (has_site sites b) (all a b)) (sent a b)
          ∙ append_assoc (old a b) (where_both (from == a) (has_site sites b) (all a b)) (where_both (has_site (drop (i + 1) sites) a) (has_site sites b) (all a b))
          ∙ ap (λ x. old a b ++ x) (second_part (has_site sites b) (from == a) (has_site (drop (i + 1) sites) a) (all a b) (apart a))
          ∙ ap (λ xs. old a b ++ where_both (has_site xs a) (has_site sites b) (all a b)) (sym left)
          ∙ so_far.sent a b

  pub between_all : (all now : ℕ → ℕ → List F) (sites left : List ℕ) → length left ≡ 0 → BetweenGoing all now sites left → (a b : ℕ) → now a b ≡ where_both (has_site sites a) (has_site sites b) (all a b)
  between_all all now sites [] none going a b = sym (append-nil (now a b)) ∙ going.sent a b
  between_all all now sites (x ∷ left) none going a b = absurd (omega (arith, none))
