-- Counting frames.
use Rattle.std.proofs.Common.{◌≡◌, ◌≢◌, ◌⊎◌, ℕ, ◌+◌, ◌≤◌, ◌<◌, Bool, true, false, not, ◌&&◌, ◌||◌, List, [], ◌∷◌, ◌++◌, ◌==◌, if◌then◌else◌, refl, sym, ap, ◌∙◌, subst, inl, inr, Option, arith}
use Rattle.std.specs.List.{AllByRecursion}
use Rattle.std.specs.Prelude.{ltb}
use Rattle.std.proofs.lemmas.Bool.{cases_Bool, cases_eq, eqb-true, eq-eqb, ne_eqb, and_parts, and_from}
use Rattle.cmh_model3.specs.declared.frame.Frame.TheVariants.{Request, Withdraw as Withdraw_frame, Probe}
use Rattle.cmh_model3.specs.declared.frame.Message.{Message}
use Rattle.cmh_model3.specs.Lists.{with_one, with_each, in_list, without, without_all, is_nonempty, IsAscending}
use Rattle.cmh_model3.specs.State.{State}
use Rattle.cmh_model3.specs.Rules.{requests, withdraws, DeclaresOrProbes}
use Rattle.cmh_model3.specs.Journals.{frames_to}
use Rattle.cmh_model3.specs.Frames.{bit, count}
use Rattle.cmh_model3.proofs.World.{is_request}
use Rattle.cmh_model3.proofs.Sent.{IsProbe, each_probe}

pub bit_zero : (x : Bool) → bit x ≡ 0 → x ≡ false
bit_zero true h = absurd (omega arith)
bit_zero false h = refl

pub bit_at_most : (x : Bool) → bit x ≤ 1
bit_at_most true = omega arith
bit_at_most false = omega arith

pub bit_same : (x y : Bool) → bit x ≡ bit y → x ≡ y
bit_same true true h = refl
bit_same true false h = absurd (omega arith)
bit_same false true h = absurd (omega arith)
bit_same false false h = refl

pub and_no : (x : Bool) → (x && false) ≡ false
and_no true = refl
and_no false = refl

pub or_no : (x : Bool) → (x || false) ≡ x
or_no true = refl
or_no false = refl

pub and_yes : (x : Bool) → (x && true) ≡ x
and_yes true = refl
and_yes false = refl

-- two pairs are equal, or the test says not
pub both_or_not : (a b x y : ℕ) → ((a ≡ x) × (b ≡ y)) ⊎ (((a == x) && (b == y)) ≡ false)
both_or_not a b x y = elim (cases_Bool ((a == x) && (b == y))) [
  | inl e ↦ let both = and_parts (a == x) (b == y) e in inl (eqb-true a x both.0, eqb-true b y both.1)
  | inr e ↦ inr e
]

pub both_yes : (a b x y : ℕ) → a ≡ x → b ≡ y → ((a == x) && (b == y)) ≡ true
both_yes a b x y e f = and_from (a == x) (b == y) (eq-eqb a x e) (eq-eqb b y f)

pub eqb_sym : (a b : ℕ) → (a == b) ≡ (b == a)
eqb_sym a b = elim (cases_eq a b) [ inl e ↦ eq-eqb a b e ∙ sym (eq-eqb b a (sym e)) | inr n ↦ ne_eqb a b n ∙ sym (ne_eqb b a (λ h. n (sym h))) ]

-- the other way round
pub swap : (a b x y : ℕ) → ((a == x) && (b == y)) ≡ ((x == a) && (y == b))
swap a b x y = ap (λ z. z && (b == y)) (eqb_sym a x) ∙ ap (λ z. (x == a) && z) (eqb_sym b y)

pub count-append : (p : Message → Bool) (xs ys : List Message) → count p (xs ++ ys) ≡ count p xs + count p ys
count-append p [] ys = omega arith
count-append p (x ∷ xs) ys = omega (arith, count-append p xs ys)

pub count_if : (p : Message → Bool) (z : Bool) (m : Message) → count p (if z then m ∷ [] else []) ≡ bit (z && p m)
count_if p true m = omega arith
count_if p false m = refl

pub count_cons : (p : Message → Bool) (b : ℕ) (x : ℕ × Message) (xs : List (ℕ × Message)) → count p (frames_to b (x ∷ xs)) ≡ bit ((x.0 == b) && p x.1) + count p (frames_to b xs)
count_cons p b x xs = go (x.0 == b)
  where
    go : (z : Bool) → count p (if z then x.1 ∷ frames_to b xs else frames_to b xs) ≡ bit (z && p x.1) + count p (frames_to b xs)
    go true = refl
    go false = omega arith

pub count_sent_append : (p : Message → Bool) (b : ℕ) (xs ys : List (ℕ × Message)) → count p (frames_to b (xs ++ ys)) ≡ count p (frames_to b xs) + count p (frames_to b ys)
count_sent_append p b [] ys = omega arith
count_sent_append p b (x ∷ xs) ys = omega (arith, count_sent_append p b xs ys, count_cons p b x (xs ++ ys), count_cons p b x xs)

pub count_empty : (p : Message → Bool) (b : ℕ) (xs : List (ℕ × Message)) → xs ≡ [] → count p (frames_to b xs) ≡ 0
count_empty p b xs h = ap (λ l. count p (frames_to b l)) h

-- none of these counts
abbrev pub NoneOf : (Message → Bool) → List (ℕ × Message) → Type 0
NoneOf p sent = AllByRecursion (λ (m : ℕ × Message). p m.1 ≡ false) sent

pub count_none : (p : Message → Bool) (b : ℕ) (xs : List (ℕ × Message)) → NoneOf p xs → count p (frames_to b xs) ≡ 0
count_none p b [] h = refl
count_none p b (x ∷ xs) h =
    let one = count_cons p b x xs in
    let no : bit ((x.0 == b) && p x.1) ≡ 0 = ap (λ z. bit ((x.0 == b) && z)) h.0 ∙ ap bit (and_no (x.0 == b)) in
    omega (arith, one, no, count_none p b xs h.1)

pub requests_none : (home : ℕ → ℕ) (p : Message → Bool) (s c j : ℕ) (ks : List ℕ) → ((q : ℕ) → p (record { clock = c; frame = Request j q }) ≡ false) → NoneOf p (requests home s c j ks)
requests_none home p s c j [] h = tt
requests_none home p s c j (q ∷ ks) h = go (home q == s)
    (requests_none home p s c j ks h)
  where
    go : (z : Bool) → NoneOf p (requests home s c j ks) → NoneOf p (if z then requests home s c j ks else (home q, record { clock = c; frame = Request j q }) ∷ requests home s c j ks)
    go true g = g
    go false g = (h q, g)

pub withdraws_none : (home : ℕ → ℕ) (p : Message → Bool) (s c j : ℕ) (ks : List ℕ) → ((q : ℕ) → p (record { clock = c; frame = Withdraw_frame j q }) ≡ false) → NoneOf p (withdraws home s c j ks)
withdraws_none home p s c j [] h = tt
withdraws_none home p s c j (q ∷ ks) h = go (home q == s)
    (withdraws_none home p s c j ks h)
  where
    go : (z : Bool) → NoneOf p (withdraws home s c j ks) → NoneOf p (if z then withdraws home s c j ks else (home q, record { clock = c; frame = Withdraw_frame j q }) ∷ withdraws home s c j ks)
    go true g = g
    go false g = (h q, g)

pub outcome_counts : (home : ℕ → ℕ) (D : Type 0) (p : Message → Bool) (b s : ℕ) (v : State) (c i n q : ℕ) (sent : List (ℕ × Message)) (d : Option ℕ) → ((c i n a b : ℕ) → p (record { clock = c; frame = Probe i n a b }) ≡ false) → DeclaresOrProbes home D s v c i n q sent d → count p (frames_to b sent) ≡ 0
outcome_counts home D p b s v c i n q sent d blind (inl h) = count_empty p b sent h.1
outcome_counts home D p b s v c i n q sent d blind (inr h) = count_none p b sent (go sent (each_probe home s v c i n q sent h.1).each)
  where
    go : (xs : List (ℕ × Message)) → AllByRecursion (IsProbe home s v c i n q) xs → NoneOf p xs
    go [] g = tt
    go (x ∷ xs) g = (ap p g.0.6 ∙ blind c i n g.0.0 g.0.1, go xs g.1)

-- ---- lists of waits

pub not_after : (q : ℕ) (ks : List ℕ) → AllByRecursion (λ y. q < y) ks → in_list ks q ≡ false
not_after q [] h = refl
not_after q (k ∷ ks) h = let l = h.0 in ap (λ z. z || in_list ks q) (ne_eqb k q (λ e. absurd (omega (arith, e, l)))) ∙ not_after q ks h.1

pub without_same : (ks : List ℕ) (k : ℕ) → in_list (without ks k) k ≡ false
without_same [] k = refl
without_same (q ∷ ks) k = elim (cases_Bool (q == k)) [
  | inl e ↦ ap (λ z. in_list (if z then without ks k else q ∷ without ks k) k) e ∙ without_same ks k
  | inr e ↦ ap (λ z. in_list (if z then without ks k else q ∷ without ks k) k) e ∙ ap (λ z. z || in_list (without ks k) k) e ∙ without_same ks k
]

pub without_other : (ks : List ℕ) (h k : ℕ) → h ≢ k → in_list (without ks h) k ≡ in_list ks k
without_other [] h k n = refl
without_other (q ∷ ks) h k n = elim (cases_eq q h) [
  | inl e ↦ ap (λ z. in_list (if z then without ks h else q ∷ without ks h) k) (eq-eqb q h e) ∙ without_other ks h k n ∙ ap (λ z. z || in_list ks k) (sym (ne_eqb q k (λ f. n (sym e ∙ f))))
  | inr e ↦ ap (λ z. in_list (if z then without ks h else q ∷ without ks h) k) (ne_eqb q h e) ∙ ap (λ z. (q == k) || z) (without_other ks h k n)
]

pub none_in : (ks : List ℕ) (k : ℕ) → is_nonempty ks ≡ false → in_list ks k ≡ false
none_in [] k h = refl
none_in (q ∷ ks) k h = absurd (cc h)

pub in_joined : (xs ys : List ℕ) (k : ℕ) → in_list (xs ++ ys) k ≡ (in_list xs k || in_list ys k)
in_joined [] ys k = refl
in_joined (x ∷ xs) ys k = ap (λ z. (x == k) || z) (in_joined xs ys k) ∙ go (x == k) (in_list xs k) (in_list ys k)
  where
    go : (a b c : Bool) → (a || (b || c)) ≡ ((a || b) || c)
    go true b c = refl
    go false b c = refl

pub in_minus : (xs ks : List ℕ) (k : ℕ) → in_list (without_all xs ks) k ≡ (in_list xs k && not (in_list ks k))
in_minus [] ks k = refl
in_minus (q ∷ xs) ks k = elim (cases_Bool (in_list ks q)) [
  | inl gone ↦ ap (λ z. in_list (if z then without_all xs ks else q ∷ without_all xs ks) k) gone ∙ in_minus xs ks k ∙ elim (cases_eq q k) [
    | inl e ↦
        let here : in_list ks k ≡ true = subst (λ z. in_list ks z ≡ true) e gone in
        ap (λ z. in_list xs k && not z) here ∙ and_no (in_list xs k) ∙ sym (ap (λ z. ((q == k) || in_list xs k) && not z) here ∙ and_no ((q == k) || in_list xs k))
    | inr n ↦ ap (λ z. (z || in_list xs k) && not (in_list ks k)) (sym (ne_eqb q k n))
  ]
  | inr kept ↦ ap (λ z. in_list (if z then without_all xs ks else q ∷ without_all xs ks) k) kept ∙ ap (λ z. (q == k) || z) (in_minus xs ks k) ∙ elim (cases_eq q k) [
    | inl e ↦ ap (λ z. z || (in_list xs k && not (in_list ks k))) (eq-eqb q k e) ∙ sym (ap (λ z. (z || in_list xs k) && not (in_list ks k)) (eq-eqb q k e) ∙ ap not (subst (λ z. in_list ks z ≡ false) e kept))
    | inr n ↦ ap (λ z. z || (in_list xs k && not (in_list ks k))) (ne_eqb q k n) ∙ sym (ap (λ z. (z || in_list xs k) && not (in_list ks k)) (ne_eqb q k n))
  ]
]

pub or_yes : (x : Bool) → (x || true) ≡ true
or_yes true = refl
or_yes false = refl

in_one : (qs : List ℕ) (k x : ℕ) → in_list (with_one qs k) x ≡ (in_list qs x || (k == x))
in_one [] k x = or_no (k == x)
in_one (q ∷ qs) k x = go (ltb k q) (in_one qs k x)
  where
    turned : (a b c : Bool) → (a || (b || c)) ≡ ((b || c) || a)
    turned true b c = sym (or_yes (b || c))
    turned false b c = sym (or_no (b || c))

    grouped : (a b c : Bool) → (a || (b || c)) ≡ ((a || b) || c)
    grouped true b c = refl
    grouped false b c = refl

    go : (z : Bool) → in_list (with_one qs k) x ≡ (in_list qs x || (k == x)) → in_list (if z then k ∷ q ∷ qs else q ∷ with_one qs k) x ≡ ((q == x) || in_list qs x) || (k == x)
    go true h = turned (k == x) (q == x) (in_list qs x)
    go false h = ap (λ z. (q == x) || z) h ∙ grouped (q == x) (in_list qs x) (k == x)

pub in_with : (qs ks : List ℕ) (x : ℕ) → in_list (with_each qs ks) x ≡ (in_list qs x || in_list ks x)
in_with qs [] x = sym (or_no (in_list qs x))
in_with qs (k ∷ ks) x = in_one (with_each qs ks) k x ∙ ap (λ z. z || (k == x)) (in_with qs ks x) ∙ last (in_list qs x) (in_list ks x) (k == x)
  where
    last : (a b c : Bool) → ((a || b) || c) ≡ (a || (c || b))
    last true b c = refl
    last false true true = refl
    last false true false = refl
    last false false true = refl
    last false false false = refl

pub or_swap : (x y : Bool) → (x || y) ≡ (y || x)
or_swap true y = sym (or_yes y)
or_swap false y = sym (or_no y)

pub and_swap : (x y : Bool) → (x && y) ≡ (y && x)
and_swap true y = sym (and_yes y)
and_swap false y = sym (and_no y)

-- the requests of an ask are one for each target elsewhere
pub count_requests : (home : ℕ → ℕ) (s c i j k : ℕ) (ks : List ℕ) → home k ≢ s → IsAscending ks → count (is_request j k) (frames_to (home k) (requests home s c i ks)) ≡ bit ((i == j) && in_list ks k)
count_requests home s c i j k [] far up = sym (ap bit (and_no (i == j)))
count_requests home s c i j k (q ∷ ks) far up =
    let more = count_requests home s c i j k ks far up.1 in
    let m : ℕ × Message = (home q, record { clock = c; frame = Request i q }) in
    elim (cases_eq q k) [
      | inl e ↦
          let away : (home q == s) ≡ false = ne_eqb (home q) s (λ h. far (ap home (sym e) ∙ h)) in
          let first = ap (λ z. count (is_request j k) (frames_to (home k) (if z then requests home s c i ks else m ∷ requests home s c i ks))) away in
          let one = count_cons (is_request j k) (home k) m (requests home s c i ks) in
          let hit : bit ((home q == home k) && ((i == j) && (q == k))) ≡ bit (i == j) =
          ap (λ z. bit (z && ((i == j) && (q == k)))) (eq-eqb (home q) (home k) (ap home e)) ∙ ap (λ z. bit ((i == j) && z)) (eq-eqb q k e) ∙ ap bit (and_yes (i == j)) in
          let once : bit ((i == j) && in_list ks k) ≡ 0 = ap (λ z. bit ((i == j) && z)) (subst (λ x. in_list ks x ≡ false) e (not_after q ks up.0)) ∙ ap bit (and_no (i == j)) in
          let all : bit ((i == j) && ((q == k) || in_list ks k)) ≡ bit (i == j) = ap (λ z. bit ((i == j) && (z || in_list ks k))) (eq-eqb q k e) ∙ ap bit (and_yes (i == j)) in
          omega (arith, first, one, hit, once, all, more)
      | inr n ↦
          let all : bit ((i == j) && ((q == k) || in_list ks k)) ≡ bit ((i == j) && in_list ks k) = ap (λ z. bit ((i == j) && (z || in_list ks k))) (ne_eqb q k n) in
          let miss : bit ((home q == home k) && ((i == j) && (q == k))) ≡ 0 =
          ap (λ z. bit ((home q == home k) && ((i == j) && z))) (ne_eqb q k n) ∙ ap (λ z. bit ((home q == home k) && z)) (and_no (i == j)) ∙ ap bit (and_no (home q == home k)) in
          let one = count_cons (is_request j k) (home k) m (requests home s c i ks) in
          elim (cases_Bool (home q == s)) [
            | inl z ↦ let first = ap (λ z. count (is_request j k) (frames_to (home k) (if z then requests home s c i ks else m ∷ requests home s c i ks))) z in omega (arith, first, more, all)
            | inr z ↦ let first = ap (λ z. count (is_request j k) (frames_to (home k) (if z then requests home s c i ks else m ∷ requests home s c i ks))) z in omega (arith, first, more, all, miss, one)
          ]
    ]
