-- The probes of an ask: one along each wait, and no choice.
use Rattle.std.proofs.Common.{◌≡◌, ◌≢◌, ℕ, suc, true, List, [], ◌∷◌, ◌++◌, map, Contains, refl, sym, ap, ◌∙◌, subst, inl, inr, Option, arith, Less}
use Rattle.std.specs.List.{AllByRecursion}
use Rattle.std.specs.List.Sorted.{IsStrictlySortedBy}
use Rattle.std.proofs.lemmas.Bool.{cases_Bool, MatchBool-at_true, MatchBool-at_false}
use Rattle.cmh_model3.specs.declared.frame.Frame.TheVariants.{Request, Reply as Reply_frame, Withdraw as Withdraw_frame, Probe}
use Rattle.cmh_model3.specs.declared.frame.Message.{Message}
use Rattle.cmh_model3.specs.declared.event.Event.TheVariants.{Ask, Reply, Withdraw, Got, Turn}
use Rattle.cmh_model3.specs.Lists.{pair_cmp}
use Rattle.cmh_model3.specs.State.{State, counts}
use Rattle.cmh_model3.specs.Paths.{ReachesLocally}
use Rattle.cmh_model3.specs.Rules.{AreProbes, DeclaresOrProbes, changed, probe_acts, probe_along, requests}
use Rattle.cmh_model3.specs.Laws.{OneOutcome}
use Rattle.cmh_model3.proofs.Pairs.{In}
use Rattle.cmh_model3.proofs.Sorting.{contains_in, head_below, in_contains, not_itself, same_ascending, tail_sorted}

abbrev pub AreDistinct : {X : Type 0} → List X → Type 0
AreDistinct [] = Unit {0}
AreDistinct (x ∷ xs) = AllByRecursion (λ y. x ≢ y) xs × AreDistinct xs

module _ (home : ℕ → ℕ) where
  -- a probe along a wait that counts and leaves the site, of a process that p reaches locally
  abbrev pub IsProbe : ℕ → State → ℕ → ℕ → ℕ → ℕ → ℕ × Message → Type 0
  IsProbe s v c i n p m =
      (j : ℕ) × (k : ℕ) × (m.0 ≡ home k) × (home k ≢ s) × (counts v n i j k ≡ true) × ReachesLocally home s v n i p j
      × (m.1 ≡ record { clock = c; frame = Probe i n j k })

  -- such probes, one along each of these waits
  pub record AreEachProbe (s : ℕ) (v : State) (c i n p : ℕ) (sent : List (ℕ × Message)) : Type 0 where
    pub each : AllByRecursion (IsProbe s v c i n p) sent
    pub all : (j k : ℕ) → ReachesLocally home s v n i p j → counts v n i j k ≡ true → home k ≢ s
        → Contains sent (home k, record { clock = c; frame = Probe i n j k })
    pub once : AreDistinct sent

  module _ (c i n : ℕ) where
    apart_along : (x y : ℕ × ℕ) → probe_along home c i n x ≡ probe_along home c i n y → x ≡ y
    apart_along (a, b) (q, r) h =
        let f : Probe i n a b ≡ Probe i n q r = ap (λ z. z.1.frame) h in
        let e : a ≡ q = cc f in
        let g : b ≡ r = cc f in
        (λ t. (e t, g t))

    along_contains : (x : ℕ × ℕ) (xs : List (ℕ × ℕ)) → In x xs → Contains (map (probe_along home c i n) xs) (probe_along home c i n x)
    along_contains x [] h = absurd h
    along_contains x (y ∷ ys) (inl e) = (0, omega arith, ap (probe_along home c i n) e)
    along_contains x (y ∷ ys) (inr m) = let r = along_contains x ys m in let l = r.1 in (suc r.0, omega (arith, l), r.2)

    along_all : (P : ℕ × Message → Type 0) (xs : List (ℕ × ℕ)) → ((x : ℕ × ℕ) → In x xs → P (probe_along home c i n x)) → AllByRecursion P (map (probe_along home c i n) xs)
    along_all P [] f = tt
    along_all P (x ∷ xs) f = (f x (inl refl), along_all P xs (λ y m. f y (inr m)))

    along_distinct : (xs : List (ℕ × ℕ)) → IsStrictlySortedBy pair_cmp xs → AreDistinct (map (probe_along home c i n) xs)
    along_distinct [] up = tt
    along_distinct (x ∷ xs) up = (
      along_all (λ m. probe_along home c i n x ≢ m) xs (λ y m e. not_itself x (subst (λ z. pair_cmp x z ≡ Less) (sym (apart_along x y e)) (head_below x y xs up m))),
      along_distinct xs (tail_sorted x xs up),
    )

  pub each_probe : (s : ℕ) (v : State) (c i n p : ℕ) (sent : List (ℕ × Message)) → AreProbes home s v c i n p sent → AreEachProbe s v c i n p sent
  each_probe s v c i n p sent h = subst (AreEachProbe s v c i n p) (sym h.are) (record {
    each = along_all c i n (IsProbe s v c i n p) h.edges (λ x m.
        let r = (h.all x).0 (in_contains x h.edges m) in
        (x.0, x.1, refl, r.2, r.1, r.0, refl));
    all = λ j k r cnt far. along_contains c i n (j, k) h.edges (contains_in (j, k) h.edges ((h.all (j, k)).1 (r, cnt, far)));
    once = along_distinct c i n h.edges h.ascending;
  })

  -- ---- one outcome

  same_probes : (s : ℕ) (v : State) (c i n p : ℕ) (sent others : List (ℕ × Message)) → AreProbes home s v c i n p sent → AreProbes home s v c i n p others → sent ≡ others
  same_probes s v c i n p sent others a b =
      let edges = same_ascending a.edges b.edges a.ascending b.ascending
      (λ q h. contains_in q b.edges ((b.all q).1 ((a.all q).0 (in_contains q a.edges h))))
      (λ q h. contains_in q a.edges ((a.all q).1 ((b.all q).0 (in_contains q b.edges h)))) in
      a.are ∙ ap (map (probe_along home c i n)) edges ∙ sym b.are

  one_answer : (D : Type 0) (s : ℕ) (v : State) (c i n p : ℕ) (sent others : List (ℕ × Message)) (d other : Option ℕ)
      → DeclaresOrProbes home D s v c i n p sent d → DeclaresOrProbes home D s v c i n p others other → (sent ≡ others) × (d ≡ other)
  one_answer D s v c i n p sent others d other (inl x) (inl y) = (x.1 ∙ sym y.1, x.2 ∙ sym y.2)
  one_answer D s v c i n p sent others d other (inl x) (inr y) = absurd (y.0 x.0)
  one_answer D s v c i n p sent others d other (inr x) (inl y) = absurd (x.0 y.0)
  one_answer D s v c i n p sent others d other (inr x) (inr y) = (same_probes s v c i n p sent others x.1 y.1, x.2 ∙ sym y.2)

pub one_outcome : OneOutcome
one_outcome home s v (Ask j ks) sent others d other h g =
    let one = one_answer home _ s (changed home s v (Ask j ks)) _ j _ j h.0 g.0 d other h.2 g.2 in
    (h.1 ∙ ap (λ z. requests home s _ j ks ++ z) one.0 ∙ sym g.1, one.1)
one_outcome home s v (Reply k j) sent others d other h g = (h.0 ∙ sym g.0, h.1 ∙ sym g.1)
one_outcome home s v (Withdraw j ks) sent others d other h g = (h.0 ∙ sym g.0, h.1 ∙ sym g.1)
one_outcome home s v (Turn c) sent others d other h g = (h.0 ∙ sym g.0, h.1 ∙ sym g.1)
one_outcome home s v (Got a c (Request j k)) sent others d other h g = (h.0 ∙ sym g.0, h.1 ∙ sym g.1)
one_outcome home s v (Got a c (Reply_frame k j)) sent others d other h g = (h.0 ∙ sym g.0, h.1 ∙ sym g.1)
one_outcome home s v (Got a c (Withdraw_frame j k)) sent others d other h g = (h.0 ∙ sym g.0, h.1 ∙ sym g.1)
one_outcome home s v (Got a c (Probe i n j k)) sent others d other h g = elim (cases_Bool (probe_acts v i n j k)) [
  | inl e ↦ one_answer home _ s v _ i n k sent others d other (MatchBool-at_true _ _ e h) (MatchBool-at_true _ _ e g)
  | inr e ↦
      let x = MatchBool-at_false _ _ e h in
      let y = MatchBool-at_false _ _ e g in
      (x.0 ∙ sym y.0, x.1 ∙ sym y.1)
]
