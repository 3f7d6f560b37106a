-- Each stream reads in some way.
use Rattle.std.proofs.Common.{inl, inr, ◌⊎◌, ◌≡◌, ◌≢◌, ℕ, zero, suc, ◌+◌, ◌*◌, ◌/◌, ◌%◌, ◌<◌, ◌≤◌, List, [], ◌∷◌, ◌++◌, length, get_or, refl, sym, ap, ◌∙◌, subst, arith, append_assoc, length-append}
use Rattle.std.specs.Prelude.{Contains}
use Rattle.std.specs.List.{AllByRecursion}
use Rattle.std.proofs.lemmas.Bool.{cases_lt, cases_eq}
use Rattle.std.proofs.lemmas.List.Elements.{Contains-append_cases, Contains-append_left, Contains-append_right, Contains-push, Contains-push_cases}
use Rattle.cmh_frames.specs.declared.edition.Edition.{Edition}
use Rattle.cmh_frames.specs.declared.frame.Frame.{Frame}
use Rattle.cmh_frames.specs.declared.frame.Frame.TheVariants.{Request, Reply, Probe}
use Rattle.cmh_frames.specs.Edition.{number_of}
use Rattle.cmh_frames.specs.Number.{IsNumber}
use Rattle.cmh_frames.specs.Wire.{IsFrame, IsShort, spelling, spelled, hello}
use Rattle.cmh_reader.proofs.NoFrames.{BeginsNoFrame, length_of_kind}
use Rattle.cmh_reader.specs.declared.standing.Standing.{Standing}
use Rattle.cmh_reader.specs.declared.standing.Standing.TheVariants.{Greeting, NoHello, Stranger, Open, Broken}
use Rattle.cmh_reader.specs.Stream.{Splits, Reads, place_behind}

-- two cells spell a number, or none
number_or_not : (a b : ℕ) → ((j : ℕ) × IsNumber j × (a ≡ j / 256 % 256) × (b ≡ j % 256)) ⊎ ((j : ℕ) → IsNumber j → a ≡ j / 256 % 256 → b ≡ j % 256 → ⊥)
number_or_not a b = elim (cases_lt b 256) [
  | inr big ↦ inr (λ j J high low. absurd (omega arith))
  | inl small ↦ elim (cases_lt (a * 256 + b) 1) [
    | inl none ↦ inr (λ j J high low. let least : 1 ≤ j = J.least in let most : j ≤ 9999 = J.most in absurd (omega arith))
    | inr least ↦ elim (cases_lt 9999 (a * 256 + b)) [
      | inl many ↦ inr (λ j J high low. let most : j ≤ 9999 = J.most in absurd (omega arith))
      | inr most ↦ inl (a * 256 + b, record { least = least; most = most }, omega arith, omega arith)
    ]
  ]
]

-- four cells spell two numbers that differ, or not
IsPairOf : ℕ → ℕ → ℕ → ℕ → ℕ → ℕ → Type 0
IsPairOf a b c d j h = (IsNumber j × IsNumber h × (j ≢ h)) × ((a ≡ j / 256 % 256) × (b ≡ j % 256)) × ((c ≡ h / 256 % 256) × (d ≡ h % 256))

-- four cells are a pair, or of none
pair_or_not : (a b c d : ℕ) → ((j : ℕ) × (h : ℕ) × IsPairOf a b c d j h) ⊎ ((j h : ℕ) → IsPairOf a b c d j h → ⊥)
unfolding IsPairOf
pair_or_not a b c d = elim (number_or_not a b) [
  | inr none ↦ inr (λ j h p. none j p.0.0 p.1.0 p.1.1)
  | inl x ↦ elim (number_or_not c d) [
    | inr none ↦ inr (λ j h p. none h p.0.1 p.2.0 p.2.1)
    | inl y ↦ elim (cases_eq x.0 y.0) [
      | inl same ↦ inr (λ j h p. p.0.2 (same_numbers a b c d j h x.0 y.0 p.0.0.most p.0.1.most x.1.most y.1.most same p.1.0 p.1.1 p.2.0 p.2.1 x.2 x.3 y.2 y.3))
      | inr apart ↦ inl (x.0, y.0, ((x.1, y.1, apart), (x.2, x.3), (y.2, y.3)))
    ]
  ]
]
  where
    one_number : (a b j x : ℕ) → j ≤ 9999 → x ≤ 9999 → a ≡ j / 256 % 256 → b ≡ j % 256 → a ≡ x / 256 % 256 → b ≡ x % 256 → j ≡ x
    one_number a b j x J X p q r s = omega arith

    same_numbers : (a b c d j h x y : ℕ) → j ≤ 9999 → h ≤ 9999 → x ≤ 9999 → y ≤ 9999 → x ≡ y → a ≡ j / 256 % 256 → b ≡ j % 256 → c ≡ h / 256 % 256 → d ≡ h % 256
        → a ≡ x / 256 % 256 → b ≡ x % 256 → c ≡ y / 256 % 256 → d ≡ y % 256 → j ≡ h
    same_numbers a b c d j h x y J H X Y same p q r s t u v w = one_number a b j x J X p q t u ∙ same ∙ sym (one_number c d h y H Y r s v w)

-- no spelling is as short as this
too_few : (bytes : List ℕ) → length bytes < 5 → BeginsNoFrame bytes
too_few bytes few (Request (j, h)) more F e = absurd (omega (arith, ap length e))
too_few bytes few (Reply (h, j)) more F e = absurd (omega (arith, ap length e))
too_few bytes few (Probe (i, j, h)) more F e = absurd (omega (arith, ap length e))

-- none of these is a frame's kind
no_kind : (k : ℕ) (body : List ℕ) → k ≢ 1 → k ≢ 2 → k ≢ 3 → BeginsNoFrame (k ∷ body)
no_kind k body n1 n2 n3 (Request (j, h)) more F e = n1 (ap (λ l. get_or l 0 0) e)
no_kind k body n1 n2 n3 (Reply (h, j)) more F e = n2 (ap (λ l. get_or l 0 0) e)
no_kind k body n1 n2 n3 (Probe (i, j, h)) more F e = n3 (ap (λ l. get_or l 0 0) e)

-- where no pair follows the kind of requests, no frame begins
no_request : (k a b c d : ℕ) (rest : List ℕ) → k ≡ 1 → ((j h : ℕ) → IsPairOf a b c d j h → ⊥) → BeginsNoFrame (k ∷ a ∷ b ∷ c ∷ d ∷ rest)
unfolding IsPairOf
no_request k a b c d rest is none (Request (j, h)) more F e = none j h (F, (ap (λ l. get_or l 1 0) e, ap (λ l. get_or l 2 0) e), (ap (λ l. get_or l 3 0) e, ap (λ l. get_or l 4 0) e))
no_request k a b c d rest is none (Reply (h, j)) more F e = absurd (omega (arith, ap (λ l. get_or l 0 0) e))
no_request k a b c d rest is none (Probe (i, j, h)) more F e = absurd (omega (arith, ap (λ l. get_or l 0 0) e))

-- the same of replies
no_reply : (k a b c d : ℕ) (rest : List ℕ) → k ≡ 2 → ((j h : ℕ) → IsPairOf a b c d j h → ⊥) → BeginsNoFrame (k ∷ a ∷ b ∷ c ∷ d ∷ rest)
unfolding IsPairOf
no_reply k a b c d rest is none (Reply (h, j)) more F e = none h j (F, (ap (λ l. get_or l 1 0) e, ap (λ l. get_or l 2 0) e), (ap (λ l. get_or l 3 0) e, ap (λ l. get_or l 4 0) e))
no_reply k a b c d rest is none (Request (j, h)) more F e = absurd (omega (arith, ap (λ l. get_or l 0 0) e))
no_reply k a b c d rest is none (Probe (i, j, h)) more F e = absurd (omega (arith, ap (λ l. get_or l 0 0) e))

-- a probe has seven bytes
no_probe_few : (k : ℕ) (body : List ℕ) → k ≡ 3 → length body < 6 → BeginsNoFrame (k ∷ body)
no_probe_few k body is few (Request (j, h)) more F e = absurd (omega (arith, ap (λ l. get_or l 0 0) e))
no_probe_few k body is few (Reply (h, j)) more F e = absurd (omega (arith, ap (λ l. get_or l 0 0) e))
no_probe_few k body is few (Probe (i, j, h)) more F e = absurd (omega (arith, ap length e))

-- where no three numbers follow the kind of probes, no frame begins
no_probe : (k a b c d x y : ℕ) (rest : List ℕ) → k ≡ 3 → ((i j h : ℕ) → IsNumber i → a ≡ i / 256 % 256 → b ≡ i % 256 → IsPairOf c d x y j h → ⊥) → BeginsNoFrame (k ∷ a ∷ b ∷ c ∷ d ∷ x ∷ y ∷ rest)
unfolding IsPairOf
no_probe k a b c d x y rest is none (Request (j, h)) more F e = absurd (omega (arith, ap (λ l. get_or l 0 0) e))
no_probe k a b c d x y rest is none (Reply (h, j)) more F e = absurd (omega (arith, ap (λ l. get_or l 0 0) e))
no_probe k a b c d x y rest is none (Probe (i, j, h)) more F e =
    none i j h F.0 (ap (λ l. get_or l 1 0) e) (ap (λ l. get_or l 2 0) e)
    ((F.1, F.2, F.3), (ap (λ l. get_or l 3 0) e, ap (λ l. get_or l 4 0) e), (ap (λ l. get_or l 5 0) e, ap (λ l. get_or l 6 0) e))

-- the bytes begin with a frame
BeginsFrame : List ℕ → Type 0
BeginsFrame bytes = (f : Frame) × (behind : List ℕ) × IsFrame f × (bytes ≡ spelling f ++ behind)

-- equal cells make equal rows
five_cells : (k a b c d k' a' b' c' d' : ℕ) (rest : List ℕ) → k ≡ k' → a ≡ a' → b ≡ b' → c ≡ c' → d ≡ d' → k ∷ a ∷ b ∷ c ∷ d ∷ rest ≡ k' ∷ a' ∷ b' ∷ c' ∷ d' ∷ rest
five_cells k a b c d k' a' b' c' d' rest p q r s t = cc

-- the same of seven
seven_cells : (k a b c d x y k' a' b' c' d' x' y' : ℕ) (rest : List ℕ) → k ≡ k' → a ≡ a' → b ≡ b' → c ≡ c' → d ≡ d' → x ≡ x' → y ≡ y' → k ∷ a ∷ b ∷ c ∷ d ∷ x ∷ y ∷ rest ≡ k' ∷ a' ∷ b' ∷ c' ∷ d' ∷ x' ∷ y' ∷ rest
seven_cells k a b c d x y k' a' b' c' d' x' y' rest p q r s t u v = cc

-- bytes of the kind of probes begin with one, or with no frame
probe_or_not : (k a b c d : ℕ) (rest : List ℕ) → k ≡ 3 → BeginsFrame (k ∷ a ∷ b ∷ c ∷ d ∷ rest) ⊎ BeginsNoFrame (k ∷ a ∷ b ∷ c ∷ d ∷ rest)
unfolding IsPairOf BeginsFrame
probe_or_not k a b c d [] is = inr (no_probe_few k (a ∷ b ∷ c ∷ d ∷ []) is (omega arith))
probe_or_not k a b c d (x ∷ []) is = inr (no_probe_few k (a ∷ b ∷ c ∷ d ∷ x ∷ []) is (omega arith))
probe_or_not k a b c d (x ∷ y ∷ rest) is = elim (number_or_not a b) [
  | inr none ↦ inr (no_probe k a b c d x y rest is (λ i j h I high low p. none i I high low))
  | inl i ↦ elim (pair_or_not c d x y) [
    | inr none ↦ inr (no_probe k a b c d x y rest is (λ _ j h _ _ _ p. none j h p))
    | inl p ↦ inl (
      Probe (i.0, p.0, p.1),
      rest,
      (i.1, p.2.0.0, p.2.0.1, p.2.0.2),
      seven_cells k a b c d x y 3 (i.0 / 256 % 256) (i.0 % 256) (p.0 / 256 % 256) (p.0 % 256) (p.1 / 256 % 256) (p.1 % 256) rest is i.2 i.3 p.2.1.0 p.2.1.1 p.2.2.0 p.2.2.1,
    )
  ]
]

-- bytes begin with a frame, or with none
frame_or_not : (bytes : List ℕ) → BeginsFrame bytes ⊎ BeginsNoFrame bytes
unfolding IsPairOf BeginsFrame
frame_or_not [] = inr (too_few [] (omega arith))
frame_or_not (k ∷ []) = inr (too_few (k ∷ []) (omega arith))
frame_or_not (k ∷ a ∷ []) = inr (too_few (k ∷ a ∷ []) (omega arith))
frame_or_not (k ∷ a ∷ b ∷ []) = inr (too_few (k ∷ a ∷ b ∷ []) (omega arith))
frame_or_not (k ∷ a ∷ b ∷ c ∷ []) = inr (too_few (k ∷ a ∷ b ∷ c ∷ []) (omega arith))
frame_or_not (k ∷ a ∷ b ∷ c ∷ d ∷ rest) = elim (cases_eq k 1) [
  | inl is ↦ elim (pair_or_not a b c d) [
    | inr none ↦ inr (no_request k a b c d rest is none)
    | inl p ↦ inl (
      Request (p.0, p.1),
      rest,
      p.2.0,
      five_cells k a b c d 1 (p.0 / 256 % 256) (p.0 % 256) (p.1 / 256 % 256) (p.1 % 256) rest is p.2.1.0 p.2.1.1 p.2.2.0 p.2.2.1,
    )
  ]
  | inr n1 ↦ elim (cases_eq k 2) [
    | inl is ↦ elim (pair_or_not a b c d) [
      | inr none ↦ inr (no_reply k a b c d rest is none)
      | inl p ↦ inl (
        Reply (p.0, p.1),
        rest,
        p.2.0,
        five_cells k a b c d 2 (p.0 / 256 % 256) (p.0 % 256) (p.1 / 256 % 256) (p.1 % 256) rest is p.2.1.0 p.2.1.1 p.2.2.0 p.2.2.1,
      )
    ]
    | inr n2 ↦ elim (cases_eq k 3) [
      | inl is ↦ probe_or_not k a b c d rest is
      | inr n3 ↦ inr (no_kind k (a ∷ b ∷ c ∷ d ∷ rest) n1 n2 n3)
    ]
  ]
]

-- bytes are less than a frame of their kind, or not
short_or_not : (bytes : List ℕ) → IsShort bytes ⊎ (IsShort bytes → ⊥)
short_or_not [] = inl tt
short_or_not (k ∷ body) = elim (cases_lt (length body + 1) (length_of_kind k)) [
  | inr long ↦ inr (λ s. let few : length body + 1 < length_of_kind k = s.1 in absurd (omega arith))
  | inl few ↦ elim (cases_lt k 1) [
    | inl low ↦ inr (λ s. let least : 1 ≤ k = s.0.least in absurd (omega arith))
    | inr least ↦ elim (cases_lt 3 k) [
      | inl high ↦ inr (λ s. let most : k ≤ 3 = s.0.most in absurd (omega arith))
      | inr most ↦ inl (record { least = least; most = most }, few)
    ]
  ]
]

-- a spelling has bytes
spelling_is_long : (f : Frame) → 1 ≤ length (spelling f)
spelling_is_long (Request (j, h)) = omega arith
spelling_is_long (Reply (h, j)) = omega arith
spelling_is_long (Probe (i, j, h)) = omega arith

-- spellings of frames, and then bytes that begin with none
HasFrames : List ℕ → Type 0
HasFrames bytes = (frames : List Frame) × (rest : List ℕ) × AllByRecursion IsFrame frames × (bytes ≡ spelled frames ++ rest) × BeginsNoFrame rest

-- bytes are the spellings of frames, and then begin with none
has_frames : (n : ℕ) (bytes : List ℕ) → length bytes ≤ n → HasFrames bytes
unfolding HasFrames BeginsFrame
has_frames zero bytes few = ([], bytes, tt, refl, too_few bytes (omega arith))
has_frames (suc n) bytes few = elim (frame_or_not bytes) [
  | inr none ↦ ([], bytes, tt, refl, none)
  | inl first ↦
      let f = first.0 in
      let shorter : length first.1 ≤ n = omega (arith, ap length first.3, length-append (spelling f) first.1, spelling_is_long f) in
      let more = has_frames n first.1 shorter in
      (f ∷ more.0, more.1, (first.2, more.2), first.3 ∙ ap (λ b. spelling f ++ b) more.3 ∙ sym (append_assoc (spelling f) (spelled more.0) more.1), more.4)
]

-- ---- the hello

-- a number is in a list, or not
contains_or_not : (xs : List ℕ) (x : ℕ) → Contains xs x ⊎ (Contains xs x → ⊥)
contains_or_not [] x = inr (λ h. let few : h.0 < 0 = h.1 in absurd (omega arith))
contains_or_not (y ∷ ys) x = elim (cases_eq y x) [
  | inl same ↦ inl (subst (Contains (y ∷ ys)) same (Contains-append_left (y ∷ []) ys y (Contains-push [] y)))
  | inr other ↦ elim (contains_or_not ys x) [
    | inl there ↦ inl (Contains-append_right (y ∷ []) ys x there)
    | inr nowhere ↦ inr (λ h. elim (Contains-append_cases (y ∷ []) ys x h) [ inl here ↦ other (only y x here) | inr there ↦ nowhere there ])
  ]
]
  where
    only : (y x : ℕ) → Contains (y ∷ []) x → y ≡ x
    only y x h = elim (Contains-push_cases [] y x h) [ inl none ↦ (let few : none.0 < 0 = none.1 in absurd (omega arith)) | inr same ↦ same ]

-- the same of six
six_cells : (c m h v a b c' m' h' v' a' b' : ℕ) (rest : List ℕ) → c ≡ c' → m ≡ m' → h ≡ h' → v ≡ v' → a ≡ a' → b ≡ b' → c ∷ m ∷ h ∷ v ∷ a ∷ b ∷ rest ≡ c' ∷ m' ∷ h' ∷ v' ∷ a' ∷ b' ∷ rest
six_cells c m h v a b c' m' h' v' a' b' rest p q r s t u = cc

-- the stream begins with a site's hello
BeginsHello : Edition → List ℕ → Type 0
BeginsHello edition stream = (site : ℕ) × (behind : List ℕ) × IsNumber site × (stream ≡ hello edition site ++ behind)

-- a stream begins with a hello, or with none
hello_or_not : (edition : Edition) (stream : List ℕ) → BeginsHello edition stream ⊎ ((site : ℕ) (behind : List ℕ) → IsNumber site → stream ≢ hello edition site ++ behind)
unfolding BeginsHello
hello_or_not edition [] = inr (λ s behind n e. absurd (omega (arith, ap length e)))
hello_or_not edition (c ∷ []) = inr (λ s behind n e. absurd (omega (arith, ap length e)))
hello_or_not edition (c ∷ m ∷ []) = inr (λ s behind n e. absurd (omega (arith, ap length e)))
hello_or_not edition (c ∷ m ∷ h ∷ []) = inr (λ s behind n e. absurd (omega (arith, ap length e)))
hello_or_not edition (c ∷ m ∷ h ∷ v ∷ []) = inr (λ s behind n e. absurd (omega (arith, ap length e)))
hello_or_not edition (c ∷ m ∷ h ∷ v ∷ a ∷ []) = inr (λ s behind n e. absurd (omega (arith, ap length e)))
hello_or_not edition (c ∷ m ∷ h ∷ v ∷ a ∷ b ∷ behind) = elim (cases_eq c 67) [
  | inr n ↦ inr (λ s more S e. n (ap (λ l. get_or l 0 0) e))
  | inl c_is ↦ elim (cases_eq m 77) [
    | inr n ↦ inr (λ s more S e. n (ap (λ l. get_or l 1 0) e))
    | inl m_is ↦ elim (cases_eq h 72) [
      | inr n ↦ inr (λ s more S e. n (ap (λ l. get_or l 2 0) e))
      | inl h_is ↦ elim (cases_eq v (number_of edition)) [
        | inr n ↦ inr (λ s more S e. n (ap (λ l. get_or l 3 0) e))
        | inl v_is ↦ elim (number_or_not a b) [
          | inr n ↦ inr (λ s more S e. n s S (ap (λ l. get_or l 4 0) e) (ap (λ l. get_or l 5 0) e))
          | inl s ↦ inl (s.0, behind, s.1, six_cells c m h v a b 67 77 72 (number_of edition) (s.0 / 256 % 256) (s.0 % 256) behind c_is m_is h_is v_is s.2 s.3)
        ]
      ]
    ]
  ]
]

-- every stream reads in some way
pub some_reading : (edition : Edition) (senders stream : List ℕ) → (frames : List Frame) × (standing : Standing) × Reads edition senders stream frames standing
unfolding BeginsHello HasFrames
some_reading edition senders stream = elim (cases_lt (length stream) 6) [
  | inl few ↦ ([], Greeting stream, (few, refl, refl))
  | inr long ↦ elim (hello_or_not edition stream) [
    | inr none ↦ ([], NoHello, (long, refl, none))
    | inl h ↦ elim (contains_or_not senders h.0) [
      | inr unexpected ↦ ([], Stranger, (record { site = h.0; behind = h.1; number = h.2; unexpected = unexpected; whole = h.3 }, refl))
      | inl expected ↦
          let all = has_frames (length h.1) h.1 (omega arith) in
          let splits : Splits edition senders stream h.0 all.0 all.1 = record {
            number = h.2;
            expected = expected;
            each = all.2;
            whole = h.3 ∙ ap (λ b. hello edition h.0 ++ b) all.3 ∙ sym (append_assoc (hello edition h.0) (spelled all.0) all.1);
          } in
          elim (short_or_not all.1) [
            | inl short ↦ (all.0, Open h.0 all.1 (place_behind all.0), (splits, short, refl))
            | inr bad ↦ (all.0, Broken h.0 (place_behind all.0), (all.1, splits, (bad, all.4), refl))
          ]
    ]
  ]
]
