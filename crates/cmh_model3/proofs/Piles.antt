-- Sums over blocked processes and asks, and lists of pairs.
use Rattle.std.proofs.Common.{◌≡◌, ◌≢◌, ◌⊎◌, ℕ, ◌+◌, ◌*◌, ◌≤◌, Bool, true, false, ◌||◌, List, [], ◌∷◌, ◌++◌, ◌==◌, if◌then◌else◌, length, suc, refl, sym, ap, ◌∙◌, subst, inl, inr, true≢false, arith}
use Rattle.std.proofs.lemmas.Bool.{eqb-true, eq-eqb, or_cases}
use Rattle.std.proofs.Math.Nat.{suc-mul, mul-add}
use Rattle.std.specs.List.{AllByRecursion}
use Rattle.cmh_model3.specs.declared.frame.Message.{Message}
use Rattle.cmh_model3.specs.Lists.{in_list}
use Rattle.cmh_model3.specs.Entries.{WorldEvent}
use Rattle.cmh_model3.specs.State.{is_blocked}
use Rattle.cmh_model3.specs.Runs.{state_of}
use Rattle.cmh_model3.specs.Rest.{askers, each_name, blocked_of, blocked, far_waits, waits_from, waits_beside, all_beside}
use Rattle.cmh_model3.proofs.Pairs.{In}
use Rattle.cmh_model3.proofs.Senders.{in_front, in_back}
use Rattle.cmh_model3.proofs.Counts.{or_yes}
use Rattle.cmh_model3.proofs.Sent.{AreDistinct}

abbrev pub part : (ℕ → ℕ → Bool) → ℕ → List (ℕ × ℕ) → ℕ
part o c [] = 0
part o c (x ∷ xs) = (if o x.0 x.1 then c else 0) + part o c xs

if_le : (p q : Bool) (c : ℕ) → (p ≡ true → q ≡ true) → (if p then c else 0) ≤ (if q then c else 0)
if_le false q c f = omega arith
if_le true q c f = let e = ap (λ z. if z then c else 0) (f refl) in omega (arith, e)

part_le : (o u : ℕ → ℕ → Bool) (c : ℕ) (xs : List (ℕ × ℕ)) → ((i n : ℕ) → o i n ≡ true → u i n ≡ true) → part o c xs ≤ part u c xs
part_le o u c [] f = omega arith
part_le o u c (x ∷ xs) f = let a = if_le (o x.0 x.1) (u x.0 x.1) c (f x.0 x.1) in let b = part_le o u c xs f in omega (arith, a, b)

part_less : (o u : ℕ → ℕ → Bool) (c : ℕ) (xs : List (ℕ × ℕ)) → ((i n : ℕ) → o i n ≡ true → u i n ≡ true) → (i n : ℕ) → In (i, n) xs → o i n ≡ false → u i n ≡ true → part o c xs + c ≤ part u c xs
part_less o u c [] f i n h no' yes' = absurd h
part_less o u c (x ∷ xs) f i n (inl e) no' yes' =
    let a = ap (λ (p : ℕ × ℕ). if o p.0 p.1 then c else 0) e ∙ ap (λ z. if z then c else 0) no' in
    let b = ap (λ (p : ℕ × ℕ). if u p.0 p.1 then c else 0) e ∙ ap (λ z. if z then c else 0) yes' in
    let r = part_le o u c xs f in
    omega (arith, a, b, r)
part_less o u c (x ∷ xs) f i n (inr m) no' yes' = let a = if_le (o x.0 x.1) (u x.0 x.1) c (f x.0 x.1) in let r = part_less o u c xs f i n m no' yes' in omega (arith, a, r)

part_most : (o : ℕ → ℕ → Bool) (c : ℕ) (xs : List (ℕ × ℕ)) → part o c xs ≤ length xs * c
part_most o c [] = omega arith
part_most o c (x ∷ xs) =
    let r = part_most o c xs in
    let m = suc-mul (length xs) c in
    let a = if_le (o x.0 x.1) true c (λ h. refl) in
    omega (arith, r, m, a)

abbrev pub parts : (ℕ → ℕ → ℕ → Bool) → (ℕ → ℕ) → List (ℕ × ℕ) → List ℕ → ℕ
parts o c ds [] = 0
parts o c ds (k ∷ ks) = part (o k) (c k) ds + parts o c ds ks

pub parts_le : (o u : ℕ → ℕ → ℕ → Bool) (c : ℕ → ℕ) (ds : List (ℕ × ℕ)) (ks : List ℕ) → ((k i n : ℕ) → o k i n ≡ true → u k i n ≡ true) → parts o c ds ks ≤ parts u c ds ks
parts_le o u c ds [] f = omega arith
parts_le o u c ds (k ∷ ks) f = let a = part_le (o k) (u k) (c k) ds (f k) in let r = parts_le o u c ds ks f in omega (arith, a, r)

pub parts_less : (o u : ℕ → ℕ → ℕ → Bool) (c : ℕ → ℕ) (ds : List (ℕ × ℕ)) (ks : List ℕ) → ((k i n : ℕ) → o k i n ≡ true → u k i n ≡ true)
    → (k i n : ℕ) → in_list ks k ≡ true → In (i, n) ds → o k i n ≡ false → u k i n ≡ true → parts o c ds ks + c k ≤ parts u c ds ks
parts_less o u c ds [] f k i n h d no' yes' = absurd (true≢false (sym h))
parts_less o u c ds (q ∷ qs) f k i n h d no' yes' = elim (or_cases (q == k) (in_list qs k) h) [
  | inl e ↦
      let same = eqb-true q k e in
      let a = part_less (o q) (u q) (c q) ds (f q) i n d (ap (λ z. o z i n) same ∙ no') (ap (λ z. u z i n) same ∙ yes') in
      let r = parts_le o u c ds qs f in
      let s = ap c same in
      omega (arith, a, r, s)
  | inr m ↦ let a = part_le (o q) (u q) (c q) ds (f q) in let r = parts_less o u c ds qs f k i n m d no' yes' in omega (arith, a, r)
]

pub parts_most : (home : ℕ → ℕ) (before : List WorldEvent) (o : ℕ → ℕ → ℕ → Bool) (ds : List (ℕ × ℕ)) (ks : List ℕ) → parts o (waits_beside home before) ds ks ≤ length ds * all_beside home before ks
parts_most home before o ds [] = omega arith
parts_most home before o ds (k ∷ ks) =
    let a = part_most (o k) (waits_beside home before k) ds in
    let r = parts_most home before o ds ks in
    let m = mul-add (length ds) (waits_beside home before k) (all_beside home before ks) in
    omega (arith, a, r, m)

-- ---- distinct messages, each of another pair
drop_pair : (y : ℕ × ℕ) (ys : List (ℕ × ℕ)) → In y ys → (zs : List (ℕ × ℕ)) × (length ys ≡ suc (length zs)) × ((x : ℕ × ℕ) → In x ys → (y ≡ x) ⊎ In x zs)
drop_pair y [] h = absurd h
drop_pair y (z ∷ ys) (inl e) = (ys, refl, (λ x g. elim g [ inl q ↦ inl (sym e ∙ q) | inr m ↦ inr m ]))
drop_pair y (z ∷ ys) (inr m) =
    let r = drop_pair y ys m in
    (z ∷ r.0, ap suc r.1, (λ x g. elim g [ inl q ↦ inr (inl q) | inr k ↦ elim (r.2 x k) [ inl e ↦ inl e | inr t ↦ inr (inr t) ] ]))

abbrev pub Of : (ℕ × ℕ → ℕ × Message) → List (ℕ × ℕ) → ℕ × Message → Type 0
Of f ys q = (z : ℕ × ℕ) × In z ys × (q ≡ f z)

moved : (f : ℕ × ℕ → ℕ × Message) (y : ℕ × ℕ) (x : ℕ × Message) → x ≡ f y → (ys zs : List (ℕ × ℕ)) → ((z : ℕ × ℕ) → In z ys → (y ≡ z) ⊎ In z zs) → (xs : List (ℕ × Message))
    → AllByRecursion (λ q. x ≢ q) xs → AllByRecursion (Of f ys) xs → AllByRecursion (Of f zs) xs
moved f y x is ys zs split [] d h = tt
moved f y x is ys zs split (q ∷ qs) d h = (
  elim (split h.0.0 h.0.1) [ inl e ↦ absurd (d.0 (is ∙ ap f e ∙ sym h.0.2)) | inr m ↦ (h.0.0, m, h.0.2) ],
  moved f y x is ys zs split qs d.1 h.1,
)

pub at_most : (f : ℕ × ℕ → ℕ × Message) (xs : List (ℕ × Message)) (ys : List (ℕ × ℕ)) → AreDistinct xs → AllByRecursion (Of f ys) xs → length xs ≤ length ys
at_most f [] ys d h = omega arith
at_most f (x ∷ xs) ys d h =
    let r = drop_pair h.0.0 ys h.0.1 in
    let l = r.1 in
    let more = at_most f xs r.0 d.1 (moved f h.0.0 x h.0.2 ys r.0 r.2 xs d.0 h.1) in
    omega (arith, l, more)

-- ---- who is blocked, and waits beside
in_name : (ks : List ℕ) (k : ℕ) → in_list ks k ≡ true → in_list (each_name ks) k ≡ true
in_name [] k h = h
in_name (q ∷ qs) k h = go (in_name qs k) (in_list qs q) refl (or_cases (q == k) (in_list qs k) h)
  where
    go : (in_list qs k ≡ true → in_list (each_name qs) k ≡ true) → (z : Bool) → in_list qs q ≡ z → ((q == k) ≡ true) ⊎ (in_list qs k ≡ true) → in_list (if z then each_name qs else q ∷ each_name qs) k ≡ true
    go f true e (inl g) = f (ap (in_list qs) (sym (eqb-true q k g)) ∙ e)
    go f true e (inr m) = f m
    go f false e (inl g) = ap (λ z. z || in_list (each_name qs) k) g
    go f false e (inr m) = ap (λ z. (q == k) || z) (f m) ∙ or_yes (q == k)

module _ (home : ℕ → ℕ) (events : List WorldEvent) where
  in_blocked_of : (ks : List ℕ) (k : ℕ) → in_list ks k ≡ true → is_blocked (state_of home (home k) events) k ≡ true → in_list (blocked_of home events ks) k ≡ true
  in_blocked_of [] k h b = h
  in_blocked_of (q ∷ qs) k h b = go (λ m. in_blocked_of qs k m b) (is_blocked (state_of home (home q) events) q) refl (or_cases (q == k) (in_list qs k) h)
    where
      go : (in_list qs k ≡ true → in_list (blocked_of home events qs) k ≡ true) → (z : Bool) → is_blocked (state_of home (home q) events) q ≡ z → ((q == k) ≡ true) ⊎ (in_list qs k ≡ true)
          → in_list (if z then q ∷ blocked_of home events qs else blocked_of home events qs) k ≡ true
      go f true e (inl g) = ap (λ z. z || in_list (blocked_of home events qs) k) g
      go f true e (inr m) = ap (λ z. (q == k) || z) (f m) ∙ or_yes (q == k)
      go f false e (inl g) = absurd (true≢false (sym (ap (λ z. is_blocked (state_of home (home z) events) z) (eqb-true q k g) ∙ b) ∙ e))
      go f false e (inr m) = f m

  pub in_blocked : (k : ℕ) → in_list (askers events) k ≡ true → is_blocked (state_of home (home k) events) k ≡ true → in_list (blocked home events) k ≡ true
  in_blocked k h b = in_blocked_of (each_name (askers events)) k (in_name (askers events) k h) b

  in_far : (j k : ℕ) (ks : List ℕ) → in_list ks k ≡ true → home k ≢ home j → In (j, k) (far_waits home events j ks)
  in_far j k [] h far = absurd (true≢false (sym h))
  in_far j k (q ∷ qs) h far = go (λ m. in_far j k qs m far) (home q == home j) refl (or_cases (q == k) (in_list qs k) h)
    where
      go : (in_list qs k ≡ true → In (j, k) (far_waits home events j qs)) → (z : Bool) → (home q == home j) ≡ z → ((q == k) ≡ true) ⊎ (in_list qs k ≡ true) → In (j, k) (if z then far_waits home events j qs else (j, q) ∷ far_waits home events j qs)
      go f true e (inl g) = absurd (far (ap home (sym (eqb-true q k g)) ∙ eqb-true (home q) (home j) e))
      go f true e (inr m) = f m
      go f false e (inl g) = let same = eqb-true q k g in inl (λ t. (j, same t))
      go f false e (inr m) = inr (f m)

  pub in_beside : (s j k : ℕ) (js : List ℕ) → in_list js j ≡ true → home j ≡ s → in_list ((state_of home s events).waits j) k ≡ true → home k ≢ s → In (j, k) (waits_from home events s js)
  in_beside s j k [] h at w far = absurd (true≢false (sym h))
  in_beside s j k (q ∷ qs) h at w far = go (λ m. in_beside s j k qs m at w far) (home q == s) refl (or_cases (q == j) (in_list qs j) h)
    where
      go : (in_list qs j ≡ true → In (j, k) (waits_from home events s qs)) → (z : Bool) → (home q == s) ≡ z → ((q == j) ≡ true) ⊎ (in_list qs j ≡ true)
          → In (j, k) (if z then far_waits home events q ((state_of home s events).waits q) ++ waits_from home events s qs else waits_from home events s qs)
      go f true e (inl g) = in_front (j, k) (far_waits home events q ((state_of home s events).waits q)) (waits_from home events s qs)
          (subst (λ t. In (j, k) (far_waits home events t ((state_of home s events).waits t))) (sym (eqb-true q j g)) (in_far j k ((state_of home s events).waits j) w (λ g. far (g ∙ at))))
      go f true e (inr m) = in_back (j, k) (far_waits home events q ((state_of home s events).waits q)) (waits_from home events s qs) (f m)
      go f false e (inl g) = absurd (true≢false (sym (ap (λ z. home z == s) (eqb-true q j g) ∙ eq-eqb (home j) s at) ∙ e))
      go f false e (inr m) = f m
