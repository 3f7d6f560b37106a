-- What bytes begin with, as more of them come.
use Rattle.std.proofs.Common.{inl, inr, ◌≡◌, ℕ, ◌+◌, ◌<◌, ◌≤◌, List, [], ◌∷◌, ◌++◌, length, take, drop, get_or, refl, sym, ap, ◌∙◌, subst, arith, length-append}
use Rattle.std.proofs.lemmas.Bool.{cases_lt}
use Rattle.std.proofs.lemmas.List.{take-append-drop, take-append-le, take-take, take_at}
use Rattle.std.proofs.lemmas.Grind.{common_steps}
use Rattle.cmh_frames.specs.declared.frame.Frame.{Frame}
use Rattle.cmh_frames.specs.declared.frame.Frame.TheVariants.{Request, Reply, Probe}
use Rattle.cmh_frames.specs.declared.frame.Front.TheVariants.{Whole, Short, Bad}
use Rattle.cmh_frames.specs.Wire.{IsFrame, IsFront, IsShort, IsKind, Spells, spelling}
use Rattle.cmh_reader.proofs.NoFrames.{BeginsNoFrame, length_of_kind}
use Rattle.cmh_frames.proofs.Fronts.{one_front}

-- of two fronts of one list, the longer has the shorter at its front
pub front_of_both : (xs ys front behind : List ℕ) → xs ++ ys ≡ front ++ behind → length front ≤ length xs → xs ≡ front ++ drop (length front) xs
front_of_both xs ys front behind same h =
    let first : take (length front) xs ≡ front = sym (take-append-le (length front) xs ys h) ∙ ap (take (length front)) same ∙ take_at front behind (length front) refl in
    sym (take-append-drop (length front) xs) ∙ ap (λ b. b ++ drop (length front) xs) first

-- bytes of a kind that aren't short
long_of : (k n : ℕ) (body : List ℕ) → IsKind k → length_of_kind k ≡ n → (IsShort (k ∷ body) → ⊥) → n ≤ length body + 1
long_of k n body kind is long = elim (cases_lt (length body + 1) n) [
  | inl h ↦ absurd (long (kind, subst (λ v. length body + 1 < v) (sym is) h))
  | inr h ↦ h
]

-- a rest that isn't short is as long as the frame that it begins with
pub long_enough : (rest more : List ℕ) (f : Frame) (behind : List ℕ) → (IsShort rest → ⊥) → rest ++ more ≡ spelling f ++ behind → length (spelling f) ≤ length rest
long_enough [] more f behind long same = absurd (long tt)
long_enough (k ∷ body) more (Request (j, h)) behind long same =
    let kind : k ≡ 1 = ap (λ l. get_or l 0 0) same in
    let enough = long_of k 5 body (record { least = omega arith; most = omega arith }) (ap length_of_kind kind) long in omega arith
long_enough (k ∷ body) more (Reply (j, h)) behind long same =
    let kind : k ≡ 2 = ap (λ l. get_or l 0 0) same in
    let enough = long_of k 5 body (record { least = omega arith; most = omega arith }) (ap length_of_kind kind) long in omega arith
long_enough (k ∷ body) more (Probe (i, j, h)) behind long same =
    let kind : k ≡ 3 = ap (λ l. get_or l 0 0) same in
    let enough = long_of k 7 body (record { least = omega arith; most = omega arith }) (ap length_of_kind kind) long in omega arith

-- what is short with more after it is short
short_before : (rest more : List ℕ) → IsShort (rest ++ more) → IsShort rest
short_before [] more short = tt
short_before (k ∷ body) more short = (short.0, let few : length (body ++ more) + 1 < length_of_kind k = short.1 in omega (arith, length-append body more))

-- what has no frame in its place has none, however it goes on
pub bad_stays : (rest more : List ℕ) → IsFront rest Bad → IsFront (rest ++ more) Bad
bad_stays rest more bad = (
  λ short. bad.0 (short_before rest more short),
  λ f behind frame same. bad.1 f (drop (length (spelling f)) rest) frame (front_of_both rest more (spelling f) behind same (long_enough rest more f behind bad.0 same)),
)

-- what begins with no frame, seen in its first bytes
pub bad_front : (n : ℕ) (bytes : List ℕ) → IsFront (take n bytes) Bad → IsFront bytes Bad
bad_front n bytes bad = subst (λ b. IsFront b Bad) (take-append-drop n bytes) (bad_stays (take n bytes) (drop n bytes) bad)

-- no frame has more than seven bytes
kind_is_short : (k : ℕ) → length_of_kind k ≤ 7
kind_is_short k = grind (arith, common_steps)

-- a frame that isn't whole
pub short_length : (rest : List ℕ) → IsShort rest → length rest < 7
short_length [] short = omega arith
short_length (k ∷ body) short = let few : length body + 1 < length_of_kind k = short.1 in omega (arith, kind_is_short k)

-- the front of bytes that begin with a spelling
pub whole_front : (rest : List ℕ) (f : Frame) (behind : List ℕ) → IsFrame f → rest ≡ spelling f ++ behind → IsFront rest (Whole f (length (spelling f)))
whole_front rest f behind frame same = (
  omega (arith, ap length same, length-append (spelling f) behind),
  record { frame = frame; bytes_are = ap (take (length (spelling f))) same ∙ take_at (spelling f) behind (length (spelling f)) refl },
)

-- a frame that is whole isn't short
whole_isn't_short : (f : Frame) (n : ℕ) → Whole f n ≡ Short → ⊥
whole_isn't_short f n same = cc

-- what may still become a frame begins with none
pub short_begins_none : (rest : List ℕ) → IsShort rest → BeginsNoFrame rest
short_begins_none rest short f behind frame same = whole_isn't_short f (length (spelling f)) (one_front rest (Whole f (length (spelling f))) Short (whole_front rest f behind frame same) short)

-- a frame that begins with what was no whole frame is longer than that
pub longer_than_begun : (begun piece : List ℕ) (f : Frame) (n : ℕ) → IsShort begun → n ≤ length (take 7 (begun ++ piece)) → Spells (take n (take 7 (begun ++ piece))) f → length begun < n
longer_than_begun begun piece f n short in_range s = elim (cases_lt (length begun) n) [
  | inl h ↦ h
  | inr h ↦
      let few : length begun < 7 = short_length begun short in
      let same : take n (take 7 (begun ++ piece)) ≡ take n begun = take-take n 7 (begun ++ piece) (omega arith) ∙ take-append-le n begun piece h in
      absurd (whole_isn't_short f n (one_front begun (Whole f n) Short (h, subst (λ b. Spells b f) same s) short))
]
