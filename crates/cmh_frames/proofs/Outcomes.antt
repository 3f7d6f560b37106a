-- The rules leave no choice: an accepted event has one outcome.
use Rattle.std.proofs.Common.{◌≡◌, ◌⊎◌, ◌<◌, ℕ, suc, zero, true, List, [], ◌∷◌, ◌++◌, map, Contains, get_or, length, refl, sym, ap, ◌∙◌, subst, inl, inr, true≢false, Option, None, arith, is_lt, Ordering, Less, Equal, Greater}
use Rattle.std.specs.List.{AllByRecursion}
use Rattle.std.specs.Cmp.{tied_itself}
use Rattle.std.specs.List.Sorted.{IsStrictlySortedBy}
use Rattle.std.proofs.lemmas.Map.Keys.{sorted_head, sorted_tail}
use Rattle.std.specs.Ordering.{ordering_reverse}
use Rattle.std.proofs.lemmas.Bool.{cases_Bool, MatchBool-at_true, MatchBool-at_false}
use Rattle.cmh_frames.specs.declared.frame.Frame.{Frame}
use Rattle.cmh_frames.specs.declared.frame.Frame.TheVariants.{Request, Reply as Reply_frame, Probe}
use Rattle.cmh_frames.specs.declared.event.Event.{Event}
use Rattle.cmh_frames.specs.declared.event.Event.TheVariants.{Ask, Reply, Start, Got}
use Rattle.cmh_frames.specs.Edition.{starts_at_ask}
use Rattle.cmh_frames.specs.Topology.{Topology, site_of}
use Rattle.cmh_frames.specs.Relation.{Relation, pair_cmp}
use Rattle.cmh_frames.specs.State.{State}
use Rattle.cmh_frames.specs.Rules.{Sends, DeclaresOrProbes, AreProbes, after, requests, probe_acts}
use Rattle.cmh_frames.proofs.Pairs.{pair_cmp_total}

-- x is one of the list
abbrev pub In : ℕ × ℕ → List (ℕ × ℕ) → Type 0
In x [] = ⊥
In x (y ∷ ys) = (x ≡ y) ⊎ In x ys

-- a member is contained
pub in_contains : (x : ℕ × ℕ) (xs : List (ℕ × ℕ)) → In x xs → Contains xs x
in_contains x [] h = absurd h
in_contains x (y ∷ ys) (inl e) = (0, omega arith, sym e)
in_contains x (y ∷ ys) (inr h) = let r = in_contains x ys h in (suc r.0, omega arith, r.2)

-- what is contained is a member
pub contains_in : (x : ℕ × ℕ) (xs : List (ℕ × ℕ)) → Contains xs x → In x xs
contains_in x xs h = go xs h.0 h.1 h.2
  where
    go : (xs : List (ℕ × ℕ)) (k : ℕ) → k < length xs → get_or xs k x ≡ x → In x xs
    go [] k l e = absurd (omega arith)
    go (y ∷ ys) zero l e = inl (sym e)
    go (y ∷ ys) (suc k) l e = inr (go ys k (omega arith) e)

-- the first of a sorted list is below each later member
pub below_each : (x y : ℕ × ℕ) (xs : List (ℕ × ℕ)) → AllByRecursion (λ z. pair_cmp x z ≡ Less) xs → In y xs → pair_cmp x y ≡ Less
below_each x y [] all h = absurd h
below_each x y (z ∷ zs) all (inl e) = subst (λ w. pair_cmp x w ≡ Less) (sym e) all.0
below_each x y (z ∷ zs) all (inr h) = below_each x y zs all.1 h

-- no two are each below the other
not_both_ways : (r q : Ordering) → r ≡ ordering_reverse q → is_lt r ≡ true → is_lt q ≡ true → ⊥
not_both_ways r Less e h g = true≢false (sym h ∙ ap is_lt e)
not_both_ways r Equal e h g = true≢false (sym g)
not_both_ways r Greater e h g = true≢false (sym g)

-- no two pairs are
apart : (x y : ℕ × ℕ) → pair_cmp x y ≡ Less → pair_cmp y x ≡ Less → ⊥
apart x y h g = not_both_ways (pair_cmp x y) (pair_cmp y x) (pair_cmp_total.antisymm x y) (ap is_lt h) (ap is_lt g)

-- no pair is below itself
not_itself : (x : ℕ × ℕ) → pair_cmp x x ≡ Less → ⊥
not_itself x h = true≢false (sym (ap is_lt h) ∙ ap is_lt (tied_itself pair_cmp_total x))

-- two lists in order with the same members are equal
same_ascending : (xs ys : List (ℕ × ℕ)) → IsStrictlySortedBy pair_cmp xs → IsStrictlySortedBy pair_cmp ys → ((p : ℕ × ℕ) → In p xs → In p ys) → ((p : ℕ × ℕ) → In p ys → In p xs) → xs ≡ ys
same_ascending [] [] a b f g = refl
same_ascending [] (y ∷ ys) a b f g = absurd (g y (inl refl))
same_ascending (x ∷ xs) [] a b f g = absurd (f x (inl refl))
same_ascending (x ∷ xs) (y ∷ ys) a b f g =
    let first = heads (f x (inl refl)) (g y (inl refl)) in
    λ i. first i ∷ same_ascending xs ys (sorted_tail pair_cmp x xs a) (sorted_tail pair_cmp y ys b)
    (λ p h. later p y ys (f p (inr h)) (λ e. not_itself p (subst (λ z. pair_cmp z p ≡ Less) (first ∙ sym e) (below_each x p xs (sorted_head pair_cmp x xs a) h))))
    (λ p h. later p x xs (g p (inr h)) (λ e. not_itself p (subst (λ z. pair_cmp z p ≡ Less) (sym first ∙ sym e) (below_each y p ys (sorted_head pair_cmp y ys b) h)))) i
  where
    heads : In x (y ∷ ys) → In y (x ∷ xs) → x ≡ y
    heads (inl e) h = e
    heads (inr h) (inl e) = sym e
    heads (inr h) (inr k) = absurd (apart x y (below_each x y xs (sorted_head pair_cmp x xs a) k) (below_each y x ys (sorted_head pair_cmp y ys b) h))

    later : (p q : ℕ × ℕ) (zs : List (ℕ × ℕ)) → In p (q ∷ zs) → (p ≡ q → ⊥) → In p zs
    later p q zs (inl e) n = absurd (n e)
    later p q zs (inr h) n = h

-- the probes from a place are one list
same_probes : (t : Topology) (s : ℕ) (waits : Relation) (i p : ℕ) (sent sent' : List (ℕ × Frame)) → AreProbes t s waits i p sent → AreProbes t s waits i p sent' → sent ≡ sent'
same_probes t s waits i p sent sent' a b =
    let edges = same_ascending a.edges b.edges a.ascending b.ascending
    (λ q h. contains_in q b.edges ((b.all q).1 ((a.all q).0 (in_contains q a.edges h))))
    (λ q h. contains_in q a.edges ((a.all q).1 ((b.all q).0 (in_contains q b.edges h)))) in
    a.are ∙ ap (map (λ (edge : ℕ × ℕ). (site_of t edge.1, Probe (i, edge.0, edge.1)))) edges ∙ sym b.are

-- a start or a receipt that acts has one outcome
one_answer : (t : Topology) (s : ℕ) (v : State) (Deadlocked : Type 0) (i p : ℕ) (sent sent' : List (ℕ × Frame)) (d d' : Option ℕ)
    → DeclaresOrProbes t s v Deadlocked i p sent d → DeclaresOrProbes t s v Deadlocked i p sent' d' → (sent ≡ sent') × (d ≡ d')
one_answer t s v Dl i p sent sent' d d' (inl x) (inl y) = (x.1 ∙ sym y.1, x.2 ∙ sym y.2)
one_answer t s v Dl i p sent sent' d d' (inl x) (inr y) = absurd (y.0 x.0)
one_answer t s v Dl i p sent sent' d d' (inr x) (inl y) = absurd (x.0 y.0)
one_answer t s v Dl i p sent sent' d d' (inr x) (inr y) = (same_probes t s v.waits i p sent sent' x.1 y.1, x.2 ∙ sym y.2)

-- an event has one outcome
pub one_outcome : (t : Topology) (s : ℕ) (v : State) (ev : Event) (sent sent' : List (ℕ × Frame)) (d d' : Option ℕ) → Sends t s v ev sent d → Sends t s v ev sent' d' → (sent ≡ sent') × (d ≡ d')
one_outcome t s v (Ask asker targets) sent sent' d d' h g = elim (cases_Bool (starts_at_ask t.edition)) [
  | inl e ↦
      let x = MatchBool-at_true _ _ e h in
      let y = MatchBool-at_true _ _ e g in
      let one = one_answer t s (after t s v (Ask asker targets) None) _ asker asker x.0 y.0 d d' x.2 y.2 in
      (x.1 ∙ ap (λ z. requests t s asker targets ++ z) one.0 ∙ sym y.1, one.1)
  | inr e ↦
      let x = MatchBool-at_false _ _ e h in
      let y = MatchBool-at_false _ _ e g in
      (x.0 ∙ sym y.0, x.1 ∙ sym y.1)
]
one_outcome t s v (Reply holder asker) sent sent' d d' h g = (h.0 ∙ sym g.0, h.1 ∙ sym g.1)
one_outcome t s v (Start i) sent sent' d d' h g = one_answer t s v _ i i sent sent' d d' h g
one_outcome t s v (Got a (Request (x, y))) sent sent' d d' h g = (h.0 ∙ sym g.0, h.1 ∙ sym g.1)
one_outcome t s v (Got a (Reply_frame (x, y))) sent sent' d d' h g = (h.0 ∙ sym g.0, h.1 ∙ sym g.1)
one_outcome t s v (Got a (Probe (o, f, to))) sent sent' d d' h g = elim (cases_Bool (probe_acts v o f to)) [
  | inl e ↦ one_answer t s v _ o to sent sent' d d' (MatchBool-at_true _ _ e h) (MatchBool-at_true _ _ e g)
  | inr e ↦
      let x = MatchBool-at_false _ _ e h in
      let y = MatchBool-at_false _ _ e g in
      (x.0 ∙ sym y.0, x.1 ∙ sym y.1)
]
