-- A stream reads in one way.
use Rattle.std.proofs.Common.{◌≡◌, ℕ, ◌<◌, List, [], ◌∷◌, ◌++◌, length, refl, sym, ap, ◌∙◌, subst, arith, append_assoc}
use Rattle.std.specs.Prelude.{Contains}
use Rattle.std.proofs.lemmas.List.{append_cancel_left}
use Rattle.std.specs.List.{AllByRecursion}
use Rattle.cmh_frames.specs.declared.edition.Edition.{Edition}
use Rattle.cmh_frames.specs.declared.frame.Frame.{Frame}
use Rattle.cmh_frames.specs.declared.frame.Front.TheVariants.{Short, Bad}
use Rattle.cmh_frames.specs.Wire.{IsFrame, IsFront, spelling, spelled, hello}
use Rattle.cmh_reader.proofs.NoFrames.{BeginsNoFrame, BeginsNoHello}
use Rattle.cmh_frames.proofs.Fronts.{one_begins}
use Rattle.cmh_reader.specs.declared.standing.Standing.{Standing}
use Rattle.cmh_reader.specs.declared.standing.Standing.TheVariants.{Greeting, NoHello, Stranger, Open, Broken}
use Rattle.cmh_reader.specs.Stream.{Splits, Reads, BeginsStrange, place_behind}
use Rattle.cmh_reader.proofs.Fronts.{short_begins_none}
use Rattle.cmh_reader.proofs.Hellos.{one_hello}

-- of frames and a rest that begins with none, the bytes tell both
spelled_once : (frames others : List Frame) (rest rest' : List ℕ) → AllByRecursion IsFrame frames → AllByRecursion IsFrame others → BeginsNoFrame rest → BeginsNoFrame rest' → spelled frames ++ rest ≡ spelled others ++ rest' → (frames ≡ others) × (rest ≡ rest')
spelled_once [] [] rest rest' F G none none' e = (refl, e)
spelled_once [] (g ∷ others) rest rest' F G none none' e = absurd (none g (spelled others ++ rest') G.0 (e ∙ append_assoc (spelling g) (spelled others) rest'))
spelled_once (f ∷ frames) [] rest rest' F G none none' e = absurd (none' f (spelled frames ++ rest) F.0 (sym e ∙ append_assoc (spelling f) (spelled frames) rest))
spelled_once (f ∷ frames) (g ∷ others) rest rest' F G none none' e =
    let same : spelling f ++ (spelled frames ++ rest) ≡ spelling g ++ (spelled others ++ rest') = sym (append_assoc (spelling f) (spelled frames) rest) ∙ e ∙ append_assoc (spelling g) (spelled others) rest' in
    let first : f ≡ g = one_begins f g (spelled frames ++ rest) (spelled others ++ rest') F.0 G.0 same in
    let behind : spelled frames ++ rest ≡ spelled others ++ rest' = append_cancel_left (spelling g) (spelled frames ++ rest) (spelled others ++ rest') (ap (λ h. spelling h ++ (spelled frames ++ rest)) (sym first) ∙ same) in
    let more = spelled_once frames others rest rest' F.1 G.1 none none' behind in
    (ap (λ h. h ∷ frames) first ∙ ap (λ hs. g ∷ hs) more.0, more.1)

module _ (edition : Edition) (senders stream : List ℕ) where
  -- the hello in front
  pub greets : (sender : ℕ) (frames : List Frame) (rest : List ℕ) → Splits edition senders stream sender frames rest → stream ≡ hello edition sender ++ (spelled frames ++ rest)
  greets sender frames rest s = s.whole ∙ append_assoc (hello edition sender) (spelled frames) rest

  -- a stream splits in one way
  splits_once : (sender sender' : ℕ) (frames others : List Frame) (rest rest' : List ℕ) → BeginsNoFrame rest → BeginsNoFrame rest' → Splits edition senders stream sender frames rest → Splits edition senders stream sender' others rest' → (sender ≡ sender') × (frames ≡ others) × (rest ≡ rest')
  splits_once sender sender' frames others rest rest' none none' s t =
      let one = one_hello edition sender sender' (spelled frames ++ rest) (spelled others ++ rest') s.number t.number (sym (greets sender frames rest s) ∙ greets sender' others rest' t) in
      let same = spelled_once frames others rest rest' s.each t.each none none' one.1 in
      (one.0, same.0, same.1)

  -- a stream that begins with a hello isn't shorter
  pub no_greeting : (site : ℕ) (behind : List ℕ) → stream ≡ hello edition site ++ behind → length stream < 6 → ⊥
  no_greeting site behind same few = absurd (omega (arith, ap length same))

  -- no hello, or one
  no_hello : (sender : ℕ) (frames : List Frame) (rest : List ℕ) → BeginsNoHello edition stream → Splits edition senders stream sender frames rest → ⊥
  no_hello sender frames rest n s = n sender (spelled frames ++ rest) s.number (greets sender frames rest s)

  -- no hello, or a stranger's
  no_strange : BeginsNoHello edition stream → BeginsStrange edition senders stream → ⊥
  no_strange n s = n s.site s.behind s.number s.whole

  -- a stranger's hello, or an expected one
  no_stranger : (sender : ℕ) (frames : List Frame) (rest : List ℕ) → BeginsStrange edition senders stream → Splits edition senders stream sender frames rest → ⊥
  no_stranger sender frames rest n s =
      let one = one_hello edition sender n.site (spelled frames ++ rest) n.behind s.number n.number (sym (greets sender frames rest s) ∙ n.whole) in
      n.unexpected (subst (Contains senders) one.0 s.expected)

  -- a frame that isn't whole, or no frame
  short_or_bad : (sender sender' : ℕ) (frames others : List Frame) (rest rest' : List ℕ) → IsFront rest Short → IsFront rest' Bad → Splits edition senders stream sender frames rest → Splits edition senders stream sender' others rest' → ⊥
  short_or_bad sender sender' frames others rest rest' short bad s t =
      let same = splits_once sender sender' frames others rest rest' (short_begins_none rest short) bad.1 s t in
      bad.0 (subst (λ r. IsFront r Short) same.2 short)

  -- a stream reads in one way
  pub reads_once : (frames others : List Frame) (standing other : Standing) → Reads edition senders stream frames standing → Reads edition senders stream others other → (frames ≡ others) × (standing ≡ other)
  reads_once frames others (Greeting rest) (Greeting rest') a b = (a.2 ∙ sym b.2, ap Greeting (a.1 ∙ sym b.1))
  reads_once frames others (Greeting rest) NoHello a b = let few : length stream < 6 = a.0 in absurd (omega (arith, b.0))
  reads_once frames others (Greeting rest) Stranger a b = absurd (no_greeting b.0.site b.0.behind b.0.whole a.0)
  reads_once frames others (Greeting rest) (Open sender rest' offset) a b = absurd (no_greeting sender (spelled others ++ rest') (greets sender others rest' b.0) a.0)
  reads_once frames others (Greeting rest) (Broken sender offset) a b = absurd (no_greeting sender (spelled others ++ b.0) (greets sender others b.0 b.1) a.0)
  reads_once frames others NoHello (Greeting rest) a b = let few : length stream < 6 = b.0 in absurd (omega (arith, a.0))
  reads_once frames others NoHello NoHello a b = (a.1 ∙ sym b.1, refl)
  reads_once frames others NoHello Stranger a b = absurd (no_strange a.2 b.0)
  reads_once frames others NoHello (Open sender rest offset) a b = absurd (no_hello sender others rest a.2 b.0)
  reads_once frames others NoHello (Broken sender offset) a b = absurd (no_hello sender others b.0 a.2 b.1)
  reads_once frames others Stranger (Greeting rest) a b = absurd (no_greeting a.0.site a.0.behind a.0.whole b.0)
  reads_once frames others Stranger NoHello a b = absurd (no_strange b.2 a.0)
  reads_once frames others Stranger Stranger a b = (a.1 ∙ sym b.1, refl)
  reads_once frames others Stranger (Open sender rest offset) a b = absurd (no_stranger sender others rest a.0 b.0)
  reads_once frames others Stranger (Broken sender offset) a b = absurd (no_stranger sender others b.0 a.0 b.1)
  reads_once frames others (Open sender rest offset) (Greeting rest') a b = absurd (no_greeting sender (spelled frames ++ rest) (greets sender frames rest a.0) b.0)
  reads_once frames others (Open sender rest offset) NoHello a b = absurd (no_hello sender frames rest b.2 a.0)
  reads_once frames others (Open sender rest offset) Stranger a b = absurd (no_stranger sender frames rest b.0 a.0)
  reads_once frames others (Open sender rest offset) (Open sender' rest' offset') a b =
      let same = splits_once sender sender' frames others rest rest' (short_begins_none rest a.1) (short_begins_none rest' b.1) a.0 b.0 in
      (same.1, open_same sender sender' rest rest' offset offset' same.0 same.2 (a.2 ∙ ap place_behind same.1 ∙ sym b.2))
    where
      open_same : (s s' : ℕ) (r r' : List ℕ) (o o' : ℕ) → s ≡ s' → r ≡ r' → o ≡ o' → Open s r o ≡ Open s' r' o'
      open_same s s' r r' o o' a b c = cc
  reads_once frames others (Open sender rest offset) (Broken sender' offset') a b = absurd (short_or_bad sender sender' frames others rest b.0 a.1 b.2 a.0 b.1)
  reads_once frames others (Broken sender offset) (Greeting rest') a b = absurd (no_greeting sender (spelled frames ++ a.0) (greets sender frames a.0 a.1) b.0)
  reads_once frames others (Broken sender offset) NoHello a b = absurd (no_hello sender frames a.0 b.2 a.1)
  reads_once frames others (Broken sender offset) Stranger a b = absurd (no_stranger sender frames a.0 b.0 a.1)
  reads_once frames others (Broken sender offset) (Open sender' rest' offset') a b = absurd (short_or_bad sender' sender others frames rest' a.0 b.1 a.2 b.0 a.1)
  reads_once frames others (Broken sender offset) (Broken sender' offset') a b =
      let same = splits_once sender sender' frames others a.0 b.0 a.2.1 b.2.1 a.1 b.1 in
      (same.1, broken_same sender sender' offset offset' same.0 (a.3 ∙ ap place_behind same.1 ∙ sym b.3))
    where
      broken_same : (s s' o o' : ℕ) → s ≡ s' → o ≡ o' → Broken s o ≡ Broken s' o'
      broken_same s s' o o' a c = cc
