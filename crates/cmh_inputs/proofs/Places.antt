-- Files that were read twice, one after the other.
use Rattle.std.proofs.Common.{◌≡◌, ℕ, zero, suc, ◌+◌, ◌<◌, List, [], ◌∷◌, ◌++◌, length, map, get_or, Vec, sym, ap, subst, subst₂, ◌∙◌, inl, inr, arith}
use Rattle.std.specs.List.{AllByRecursion}
use Rattle.std.proofs.lemmas.Bool.{cases_lt}
use Rattle.std.proofs.lemmas.List.{ext_get_or, get_or-map, get_or_append_left, get_or_push}
use Rattle.std.specs.Global.{Global}
use Rattle.cmh_segment3.specs.declared.segment.Segment.{Segment}
use Rattle.cmh_files.specs.Readings.{file_at}
use Rattle.cmh_inputs.specs.BetweenReads.{IsReadTwice, count_at, no_segment, segment_at}
use Rattle.cmh_inputs.proofs.SegmentFiles.{same_segment}

pub file_is : (files : List (Vec ℕ Global)) (i : ℕ) (file : Vec ℕ Global) → i < length files → file ≡ get_or files i file → file_at (map (λ (f : Vec ℕ Global). f.items) files) i ≡ file.items
file_is files i file l is = get_or-map (λ (f : Vec ℕ Global). f.items) files i file [] l ∙ ap (λ (f : Vec ℕ Global). f.items) (sym is)

-- what holds of each segment holds of the one at a place
pub all_at : (P : Segment → Type 0) (gs : List Segment) → AllByRecursion P gs → (i : ℕ) → i < length gs → P (segment_at gs i)
all_at P [] all i l = absurd (omega (arith, l))
all_at P (g ∷ gs) all zero l = all.0
all_at P (g ∷ gs) all (suc i) l = all_at P gs all.1 i (omega (arith, l))

-- one file more
pub read_more : (first second : List (List ℕ)) (n : ℕ) (before longer : List ℕ) (gs more : List Segment) (b : ℕ) (g : Segment)
    → longer ≡ before ++ b ∷ [] → more ≡ gs ++ g ∷ [] → length before ≡ n → length gs ≡ n
    → ((k : ℕ) → k < n → IsReadTwice (file_at first k) (file_at second k) (count_at before k) (segment_at gs k))
    → IsReadTwice (file_at first n) (file_at second n) b g
    → (k : ℕ) → k < n + 1 → IsReadTwice (file_at first k) (file_at second k) (count_at longer k) (segment_at more k)
read_more first second n before longer gs more b g is_longer is_more lb lg all one k l = elim (cases_lt k n) [
  | inl earlier ↦
      let kb : k < length before = omega arith in
      let kg : k < length gs = omega arith in
      subst₂ (λ (x : ℕ) (y : Segment). IsReadTwice (file_at first k) (file_at second k) x y)
      (sym (ap (λ (xs : List ℕ). count_at xs k) is_longer ∙ get_or_append_left before (b ∷ []) 0 k kb))
      (sym (ap (λ (xs : List Segment). segment_at xs k) is_more ∙ get_or_append_left gs (g ∷ []) no_segment k kg))
      (all k earlier)
  | inr last ↦
      let here : k ≡ n = omega arith in
      let P : ℕ → Type 0 = λ i. IsReadTwice (file_at first i) (file_at second i) (count_at longer i) (segment_at more i) in
      subst P (sym here)
      (subst₂ (λ (x : ℕ) (y : Segment). IsReadTwice (file_at first n) (file_at second n) x y)
      (sym (ap (λ (xs : List ℕ). count_at xs n) is_longer ∙ get_or_push before b 0 n lb))
      (sym (ap (λ (xs : List Segment). segment_at xs n) is_more ∙ get_or_push gs g no_segment n lg))
      one)
]

-- ---- two readings are the same

pub record SameReading (n m : ℕ) (g h : Segment) : Type 0 where
  pub before : n ≡ m
  pub segment : g ≡ h

pub same_reading : (first second : List ℕ) (n m : ℕ) (g h : Segment) → IsReadTwice first second n g → IsReadTwice first second m h → SameReading n m g h
same_reading first second n m g h A B = record {
  before = A.before_is ∙ ap (λ (x : Segment). length x.entries) (same_segment first A.earlier B.earlier A.first_tail B.first_tail A.first_is B.first_is).segment ∙ sym B.before_is;
  segment = (same_segment second g h A.second_tail B.second_tail A.second_is B.second_is).segment;
}

module _ (first second : List (List ℕ)) (before counts : List ℕ) (segments others : List Segment) (lb : length before ≡ length second) (lc : length counts ≡ length second) (lg : length segments ≡ length second) (lo : length others ≡ length second)
    (A : (i : ℕ) → i < length second → IsReadTwice (file_at first i) (file_at second i) (count_at before i) (segment_at segments i))
    (B : (i : ℕ) → i < length second → IsReadTwice (file_at first i) (file_at second i) (count_at counts i) (segment_at others i)) where
  same_at : (i : ℕ) → i < length second → SameReading (count_at before i) (count_at counts i) (segment_at segments i) (segment_at others i)
  same_at i l = same_reading (file_at first i) (file_at second i) (count_at before i) (count_at counts i) (segment_at segments i) (segment_at others i) (A i l) (B i l)

  pub same_counts : before ≡ counts
  same_counts = ext_get_or 0 before counts (lb ∙ sym lc) (λ i l. (same_at i (omega (arith, l, lb))).before)

  pub same_segments : segments ≡ others
  same_segments = ext_get_or no_segment segments others (lg ∙ sym lo) (λ i l. (same_at i (omega (arith, l, lg))).segment)
