-- Lists, one place further.
use Rattle.std.proofs.Common.{◌≡◌, ◌≢◌, ℕ, zero, suc, ◌+◌, ◌-◌, ◌<◌, ◌≤◌, ◌==◌, Bool, true, false, List, [], ◌∷◌, ◌++◌, length, map, take, drop, get_or, None, Some, if◌then◌else◌, refl, sym, ap, subst, ◌∙◌, arith, append_assoc, append-nil, take_all, add-one}
use Rattle.std.specs.Prelude.{slice_get}
use Rattle.std.proofs.Math.Seq.{drop-cons}
use Rattle.std.proofs.lemmas.Grind.{flat_map-append}
use Rattle.std.proofs.lemmas.List.{map-append, take_more}
use Rattle.std.proofs.lemmas.Option.{slice_get_past, slice_get_read}
use Rattle.cmh_runs.proofs.Journals.{sendings_of-append}
use Rattle.cmh_runs.proofs.Sent.{to-append}
use Rattle.cmh_model3.specs.declared.frame.Message.{Message}
use Rattle.cmh_model3.specs.Entries as model
use Rattle.cmh_model3.specs.Journals.{frames_to, message_from, receipts_of, sendings_of}
use Rattle.cmh_segment3.specs.declared.entry.Entry.{Entry}
use Rattle.cmh_segment3.specs.declared.segment.Segment.{Segment}
use Rattle.cmh_segment3.specs.Entries.{step_of}
use Rattle.cmh_audit3.specs.Journals.{journal_of}
use Rattle.cmh_audit3.specs.Stops.{before_stop}
use Rattle.cmh_audit3.specs.declared.stops.Stop.{Stop}
use Rattle.cmh_files3.specs.Reasons.{FirstDiffer}

drop_more : {X : Type 0} → (xs : List X) (i : ℕ) (x : X) → i < length xs → x ≡ get_or xs i x → drop i xs ≡ x ∷ drop (i + 1) xs
drop_more xs i x within is = rw add-one (drop-cons xs i x within ∙ ap (λ y. y ∷ drop (suc i) xs) (sym is))

pub take_next : {X : Type 0} → (xs : List X) (i : ℕ) (x : X) → i < length xs → x ≡ get_or xs i x → take (i + 1) xs ≡ take i xs ++ x ∷ []
take_next xs i x within is = take_more xs i x within ∙ ap (λ y. take i xs ++ y ∷ []) (sym is)

-- ---- the segment of a site, and its stop, looked for from a place on

pub segment_from : (gs : List Segment) (s i : ℕ) (g : Segment) → i < length gs → g ≡ get_or gs i g
    → journal_of (drop i gs) s ≡ (if g.header.site == s then g.entries else journal_of (drop (i + 1) gs) s)
segment_from gs s i g within is = ap (λ l. journal_of l s) (drop_more gs i g within is)

pub stop_from : (stops : List Stop) (s : ℕ) (es : List Entry) (i : ℕ) (x : Stop) → i < length stops → x ≡ get_or stops i x
    → before_stop (drop i stops) s es ≡ (if x.site == s then take (x.entry - 1) es else before_stop (drop (i + 1) stops) s es)
stop_from stops s es i x within is = ap (λ l. before_stop l s es) (drop_more stops i x within is)

-- ---- what entries got and sent

steps_next : (es : List Entry) (i : ℕ) (e : Entry) → i < length es → e ≡ get_or es i e → map step_of (take (i + 1) es) ≡ map step_of (take i es) ++ step_of e ∷ []
steps_next es i e within is = ap (map step_of) (take_next es i e within is) ∙ map-append step_of (take i es) (e ∷ [])

pub receipts_next : (a : ℕ) (es : List Entry) (i : ℕ) (e : Entry) → i < length es → e ≡ get_or es i e
    → receipts_of a (map step_of (take (i + 1) es)) ≡ receipts_of a (map step_of (take i es)) ++ message_from a e.event
receipts_next a es i e within is =
    ap (receipts_of a) (steps_next es i e within is) ∙ flat_map-append (λ (x : model.Entry). message_from a x.event) (map step_of (take i es)) (step_of e ∷ [])
    ∙ ap (λ ms. receipts_of a (map step_of (take i es)) ++ ms) (append-nil (message_from a e.event))

pub sendings_next : (b : ℕ) (es : List Entry) (i : ℕ) (e : Entry) → i < length es → e ≡ get_or es i e
    → sendings_of b (map step_of (take (i + 1) es)) ≡ sendings_of b (map step_of (take i es)) ++ frames_to b e.sent
sendings_next b es i e within is =
    ap (sendings_of b) (steps_next es i e within is) ∙ sendings_of-append b (map step_of (take i es)) (step_of e ∷ [])
    ∙ ap (λ ms. sendings_of b (map step_of (take i es)) ++ ms) (append-nil (frames_to b e.sent))

pub messages_next : (b : ℕ) (sent : List (ℕ × Message)) (i : ℕ) (x : ℕ × Message) → i < length sent → x ≡ get_or sent i x
    → frames_to b (take (i + 1) sent) ≡ frames_to b (take i sent) ++ (if x.0 == b then x.1 ∷ [] else [])
messages_next b sent i x within is =
    ap (frames_to b) (take_next sent i x within is) ∙ to-append b (take i sent) (x ∷ [])

-- a message more where the site is the one, and else none
pub more_if : (b : Bool) (f : Message) (xs ys zs : List Message) → b ≡ true → zs ≡ xs ++ (if b then f ∷ [] else []) → ys ++ xs ++ f ∷ [] ≡ ys ++ zs
more_if true f xs ys zs h is = append_assoc ys xs (f ∷ []) ∙ ap (λ l. ys ++ l) (sym is)
more_if false f xs ys zs h is = absurd (cc h)

pub none_if : (b : Bool) (f : Message) (xs ys zs : List Message) → b ≡ false → zs ≡ xs ++ (if b then f ∷ [] else []) → ys ++ xs ≡ ys ++ zs
none_if true f xs ys zs h is = absurd (cc h)
none_if false f xs ys zs h is = ap (λ l. ys ++ l) (sym (is ∙ append-nil xs))

-- ---- where lists differ

differ_at : (xs ys : List (ℕ × Message)) (i : ℕ) → take i xs ≡ take i ys → slice_get xs i ≢ slice_get ys i → FirstDiffer xs ys (i + 1)
differ_at xs ys i same ne =
    let back : i ≡ i + 1 - 1 = omega arith in
    record {
      counted = omega arith;
      before = subst (λ n. take n xs ≡ take n ys) back same;
      differ = subst (λ n. slice_get xs n ≢ slice_get ys n) back ne;
    }

some_same : (x y : ℕ × Message) → Some x ≡ Some y → x ≡ y
some_same x y h = cc

pub differ_within : (xs ys : List (ℕ × Message)) (i : ℕ) (x y : ℕ × Message) → i < length xs → i < length ys
    → x ≡ get_or xs i x → y ≡ get_or ys i y → take i xs ≡ take i ys → x ≢ y → FirstDiffer xs ys (i + 1)
differ_within xs ys i x y in_xs in_ys x_is y_is same ne =
    differ_at xs ys i same (λ h. ne (some_same x y (sym (slice_get_read xs (length xs) i x refl in_xs x_is) ∙ h ∙ slice_get_read ys (length ys) i y refl in_ys y_is)))

none_some : (x : ℕ × Message) → None ≡ Some x → ⊥
none_some x h = cc

first_of_more : (xs : List (ℕ × Message)) (i : ℕ) → i < length xs → (x : ℕ × Message) × (slice_get xs i ≡ Some x)
first_of_more [] i h = absurd (omega arith)
first_of_more (x ∷ xs) zero h = (x, refl)
first_of_more (x ∷ xs) (suc i) h = first_of_more xs i (omega arith)

-- of two lists of which one begins the other
pub differ_past : (xs ys : List (ℕ × Message)) (i : ℕ) → length xs ≤ i → i < length ys → take i xs ≡ take i ys → FirstDiffer xs ys (i + 1)
differ_past xs ys i past within same =
    let more = first_of_more ys i within in
    differ_at xs ys i same (λ h. none_some more.0 (sym (slice_get_past xs i past) ∙ h ∙ more.1))

pub differ_before : (xs ys : List (ℕ × Message)) (i : ℕ) → i < length xs → length ys ≤ i → take i xs ≡ take i ys → FirstDiffer xs ys (i + 1)
differ_before xs ys i within past same =
    let more = first_of_more xs i within in
    differ_at xs ys i same (λ h. none_some more.0 (sym (slice_get_past ys i past) ∙ sym h ∙ more.1))

pub same_whole : (xs ys : List (ℕ × Message)) (i : ℕ) → length xs ≤ i → length ys ≤ i → take i xs ≡ take i ys → xs ≡ ys
same_whole xs ys i a b same = sym (take_all i xs a) ∙ same ∙ take_all i ys b
