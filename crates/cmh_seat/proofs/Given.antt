-- How long the frames are that a piece makes whole.
use Rattle.std.proofs.Common.{◌≡◌, ◌≢◌, Result, Ok, Err, drop, ℕ, ◌+◌, ◌≤◌, Bool, true, false, List, [], ◌∷◌, ◌++◌, ◌==◌, length, cond, inl, inr, Option, None, Some, is_some, refl, sym, ap, ◌∙◌, subst, true≢false, arith, length-append}
use Rattle.std.proofs.lemmas.Bool.{cases_Bool}
use Rattle.cmh_frames.specs.Wire.{IsShort, link_bytes, spelled, spelling}
use Rattle.cmh_frames.specs.declared.edition.Edition.{Edition}
use Rattle.cmh_frames.specs.declared.frame.Frame.{Frame}
use Rattle.cmh_reader.specs.Reader.{BeginsLink, ExpectsSame, Reader, StandsFor, Takes}
use Rattle.cmh_reader.specs.Stream.{HasMore, Reads, fault_of}
use Rattle.cmh_reader.specs.declared.fault.ReadFault.TheVariants.{BadFrame, BadHello, Memory, WrongSite}
use Rattle.cmh_reader.specs.declared.fault.ReadFault.{ReadFault}
use Rattle.cmh_reader.specs.declared.standing.Standing.{Standing}
use Rattle.cmh_reader.specs.declared.standing.Standing.TheVariants.{Greeting, NoHello, Stranger, Open, Broken}
use Rattle.cmh_seat.specs.Inlet.{Gave, GaveNothing}
use Rattle.cmh_seat.specs.Inner.Fed.{WasFed}
use Rattle.cmh_seat.specs.declared.inlet.InletFault.TheVariants.{Read}
use Rattle.std.specs.Prelude.{if◌then◌else◌}

spelled_of_both : (xs ys : List Frame) → length (spelled (xs ++ ys)) ≡ length (spelled xs) + length (spelled ys)
spelled_of_both [] ys = omega arith
spelled_of_both (x ∷ xs) ys =
    let later = spelled_of_both xs ys in
    omega (arith, later, length-append (spelling x) (spelled (xs ++ ys)), length-append (spelling x) (spelled xs))

none_given : (xs ys : List Frame) (n : ℕ) → xs ++ ys ≡ [] → length (spelled ys) ≤ n
none_given [] ys n e = subst (λ (fs : List Frame). length (spelled fs) ≤ n) (sym e) (omega arith)
none_given (x ∷ xs) ys n e = let long : length (x ∷ xs ++ ys) ≡ 0 = ap length e in absurd (omega (arith, long))

most_of_kind : (kind : ℕ) → (if kind == 3 then 7 else 5) ≤ 7
most_of_kind kind = elim (cases_Bool (kind == 3)) [
  | inl e ↦ subst (λ b. cond b 7 5 ≤ 7) (sym e) (omega arith)
  | inr e ↦ subst (λ b. cond b 7 5 ≤ 7) (sym e) (omega arith)
]

short : (bs : List ℕ) → IsShort bs → length bs ≤ 6
short [] is = omega arith
short (kind ∷ body) is = let below = is.1 in omega (arith, below, most_of_kind kind)

some_none : (fault : ReadFault) → ◌≡◌ {A = Option ReadFault} (Some fault) None → ⊥
some_none fault e = true≢false (ap is_some e)

whole_length : (edition : Edition) (site : ℕ) (frames : List Frame) (rest stream : List ℕ) → stream ≡ link_bytes edition site frames ++ rest
    → length stream ≡ 6 + length (spelled frames) + length rest
whole_length edition site frames rest stream e =
    let all : length stream ≡ length (link_bytes edition site frames ++ rest) = ap length e in
    omega (arith, all, length-append (link_bytes edition site frames) rest)

-- what is left over of the stream before is less than a hello and a frame
before : (edition : Edition) (senders stream : List ℕ) (frames : List Frame) (a : Standing) → Reads edition senders stream frames a
    → fault_of a ≡ None → length stream ≤ 12 + length (spelled frames)
before edition senders stream frames (Greeting rest) reads none = let few = reads.0 in omega (arith, few)
before edition senders stream frames NoHello reads none = absurd (some_none _ none)
before edition senders stream frames Stranger reads none = absurd (some_none _ none)
before edition senders stream frames (Open sender rest offset) reads none =
    omega (arith, whole_length edition sender frames rest stream reads.0.whole, short rest reads.1)
before edition senders stream frames (Broken sender offset) reads none = absurd (some_none _ none)

pub given_fits : (old new : Reader) (stream piece : List ℕ) (frames given : List Frame) → StandsFor old stream frames
    → fault_of old.standing ≡ None → StandsFor new (stream ++ piece) (frames ++ given) → length (spelled given) ≤ length piece + 6
given_fits old new stream piece frames given was none is =
    let most = before old.edition old.senders stream frames old.standing was none in
    go new.edition new.senders new.standing most is
  where
    counted : (edition : Edition) (sender : ℕ) (rest : List ℕ) → stream ++ piece ≡ link_bytes edition sender (frames ++ given) ++ rest
        → length stream ≤ 12 + length (spelled frames) → length (spelled given) ≤ length piece + 6
    counted edition sender rest e most =
        omega (arith, most, whole_length edition sender (frames ++ given) rest (stream ++ piece) e, length-append stream piece, spelled_of_both frames given)

    go : (edition : Edition) (senders : List ℕ) (b : Standing) → length stream ≤ 12 + length (spelled frames)
        → Reads edition senders (stream ++ piece) (frames ++ given) b → length (spelled given) ≤ length piece + 6
    go edition senders (Greeting rest) most reads = none_given frames given _ reads.2
    go edition senders NoHello most reads = none_given frames given _ reads.1
    go edition senders Stranger most reads = none_given frames given _ reads.1
    go edition senders (Open sender rest offset) most reads = counted edition sender rest reads.0.whole most
    go edition senders (Broken sender offset) most reads = counted edition sender reads.0 reads.1.whole most

-- ---- what a call of the reader comes to

ok_err : {X E : Type 0} (x : X) (e : E) → ◌≡◌ {A = Result X E} (Ok x) (Err e) → ⊥
ok_err {X} {E} x e same = true≢false (ap is_ok same)
  where
    is_ok : Result X E → Bool
    is_ok (Ok y) = true
    is_ok (Err y) = false

no_fault : (o : Option ReadFault) → ((fault : ReadFault) → o ≡ Some fault → ⊥) → o ≡ None
no_fault None none = refl
no_fault (Some fault) none = absurd (none fault refl)

pub room_for : {X : Type 0} (x : X) (old new : Reader) (piece : List ℕ) (given : List Frame) → WasFed old → Takes old new piece given
    → ((fault : ReadFault) → fault_of old.standing ≡ Some fault → ◌≡◌ {A = Result X ReadFault} (Ok x) (Err fault) × (new ≡ old))
    → length (spelled given) ≤ length piece + 6
room_for x old new piece given fed takes stays =
    given_fits old new fed.stream piece fed.frames given fed.stands (no_fault (fault_of old.standing) (λ fault e. ok_err x fault (stays fault e).0))
    (takes fed.stream fed.frames fed.stands)

pub fed_on : (old new : Reader) (piece : List ℕ) (given : List Frame) → WasFed old → Takes old new piece given → WasFed new
fed_on old new piece given fed takes = record { stream = fed.stream ++ piece; frames = fed.frames ++ given; stands = takes fed.stream fed.frames fed.stands }

abbrev is_memory : ReadFault → Bool
is_memory Memory = true
is_memory other = false

pub fed_fault : (old new : Reader) (piece : List ℕ) (fault : ReadFault) → WasFed old → (fault ≢ Memory → Takes old new piece [])
    → (fault ≡ Memory → new ≡ record old { starved = true }) → WasFed new
fed_fault old new piece Memory fed none same =
    subst (λ (r : Reader). WasFed r) (sym (same refl)) (record { stream = fed.stream; frames = fed.frames; stands = fed.stands })
fed_fault old new piece BadHello fed none same = fed_on old new piece [] fed (none (λ e. true≢false (sym (ap is_memory e))))
fed_fault old new piece WrongSite fed none same = fed_on old new piece [] fed (none (λ e. true≢false (sym (ap is_memory e))))
fed_fault old new piece (BadFrame offset) fed none same = fed_on old new piece [] fed (none (λ e. true≢false (sym (ap is_memory e))))

abbrev pub ComesAsSent : Reader → List ℕ → List Frame → Type 0
ComesAsSent old piece given =
    (stream : List ℕ) (earlier sent : List Frame) → StandsFor old stream earlier
    → BeginsLink old.edition old.senders (stream ++ piece) sent
    → (later : List Frame) × (earlier ++ given ++ later ≡ sent)

pub gave : (old seen new : Reader) (piece before after : List ℕ) (count : ℕ) (given shown : List Frame) → old ≡ seen → shown ≡ given
    → Takes old new piece given → (given ≡ [] → fault_of new.standing ≡ None) → ExpectsSame old new → ComesAsSent old piece given
    → after ≡ spelled shown ++ drop (length (spelled shown)) before → count ≡ length (spelled shown) → Gave seen piece before after count new
gave old seen new piece before after count given shown is same takes no_fault expects comes bytes count_is =
    subst (λ (r : Reader). Gave r piece before after count new) is (record {
      frames = given;
      takes = takes;
      fills = (
        bytes ∙ ap (λ (fs : List Frame). spelled fs ++ drop (length (spelled shown)) before) same ∙ ap (λ n. spelled given ++ drop n before) (sym count_is),
        count_is ∙ ap (λ (fs : List Frame). length (spelled fs)) same,
      );
      no_fault = no_fault;
      expects = expects;
      comes = comes;
    })

pub gave_nothing : (old seen new : Reader) (piece : List ℕ) (space : ℕ) (fault : ReadFault) → old ≡ seen
    → (fault ≢ Memory → fault_of new.standing ≡ Some fault) → (fault ≢ Memory → Takes old new piece []) → ExpectsSame old new
    → (fault ≡ Memory → new ≡ record old { starved = true })
    → (fault ≡ Memory → (stream : List ℕ) (frames : List Frame) → StandsFor old stream frames → HasMore old.edition old.senders (stream ++ piece) frames)
    → GaveNothing seen piece space (Read fault) new
gave_nothing old seen new piece space fault is fault_is takes expects same more =
    subst (λ (r : Reader). GaveNothing r piece space (Read fault) new) is (go fault fault_is takes same more)
  where
    faulty : (f : ReadFault) → (f ≢ Memory) → (f ≢ Memory → fault_of new.standing ≡ Some f) → (f ≢ Memory → Takes old new piece [])
        → (fault_of new.standing ≡ Some f) × Takes old new piece [] × ExpectsSame old new
    faulty f other is_it none = (is_it other, none other, expects)

    go : (f : ReadFault) → (f ≢ Memory → fault_of new.standing ≡ Some f) → (f ≢ Memory → Takes old new piece []) → (f ≡ Memory → new ≡ record old { starved = true })
        → (f ≡ Memory → (stream : List ℕ) (frames : List Frame) → StandsFor old stream frames → HasMore old.edition old.senders (stream ++ piece) frames)
        → GaveNothing old piece space (Read f) new
    go Memory is_it none s m = (s refl, m refl)
    go BadHello is_it none s m = faulty BadHello (λ e. true≢false (sym (ap is_memory e))) is_it none
    go WrongSite is_it none s m = faulty WrongSite (λ e. true≢false (sym (ap is_memory e))) is_it none
    go (BadFrame offset) is_it none s m = faulty (BadFrame offset) (λ e. true≢false (sym (ap is_memory e))) is_it none
