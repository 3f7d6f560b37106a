-- Files of which some entries are kept.
use Rattle.std.proofs.Common.{◌≡◌, ◌≢◌, ℕ, zero, suc, ◌+◌, ◌<◌, ◌≤◌, List, [], ◌∷◌, ◌++◌, length, map, take, drop, Vec, sym, ap, subst, ◌∙◌, inl, inr, arith, append-nil, length-append}
use Rattle.std.specs.Prelude.{slice_set}
use Rattle.std.specs.List.{AllByRecursion}
use Rattle.std.proofs.lemmas.Bool.{cases_lt}
use Rattle.std.proofs.lemmas.List.{get_or-set_other, get_or-set_same, length-drop, length-map, map-set}
use Rattle.std.specs.Global.{Global}
use Rattle.byteorder.specs.Endian.{big_bytes}
use Rattle.cmh_segment3.specs.declared.segment.Segment.{Segment}
use Rattle.cmh_segment3.specs.Chain.{BeginsNoChained, HasNoChained, chained, chained_spelling}
use Rattle.cmh_segment3.specs.Entries.{IsWhole}
use Rattle.cmh_segment3.specs.Segment.{IsSegmentOf, Writes, segment_spelling}
use Rattle.cmh_inputs.specs.Furthest.{Keeps}
use Rattle.cmh_files.specs.Readings.{file_at}
use Rattle.cmh_inputs.specs.BetweenReads.{count_at, segment_at}

-- ---- one file

-- eight bytes and less are no entry with a mark before it
none_in_eight : (bytes : List ℕ) → length bytes ≤ 8 → BeginsNoChained bytes
none_in_eight bytes few x rest chain e =
    let h = ap length e in
    let l = length-append (chained_spelling x) rest in
    let c = length-append (big_bytes 8 x.0) (chained x.0 x.1) in
    absurd (omega (arith, h, l, c, few))

pub none_behind : (mark : ℕ) → HasNoChained (big_bytes 8 mark ++ [])
none_behind mark place = none_in_eight (drop place (big_bytes 8 mark ++ [])) (let few = length-drop place (big_bytes 8 mark ++ []) in let eight = length-append (big_bytes 8 mark) [] in omega (arith, few, eight))

all_take : {X : Type 0} (P : X → Type 0) (n : ℕ) (xs : List X) → AllByRecursion P xs → AllByRecursion P (take n xs)
all_take P zero xs all = tt
all_take P (suc n) [] all = tt
all_take P (suc n) (x ∷ xs) all = (all.0, all_take P n xs all.1)

-- the first entries of a segment are written without a tail
pub front_writes : (bytes : List ℕ) (g : Segment) (left n : ℕ) → IsSegmentOf g left bytes → Writes g.header g.base (take n g.entries) [] (segment_spelling g.header g.base (take n g.entries))
front_writes bytes g left n is = record {
  segment = record {
    header_is = is.writes.segment.header_is;
    base_is = is.writes.segment.base_is;
    whole = all_take IsWhole n g.entries is.writes.segment.whole;
    bytes_are = sym (append-nil (segment_spelling g.header g.base (take n g.entries)));
  };
  tail_is = none_behind _ 0;
}

-- the file as it is
pub keeps_all : (file bytes : List ℕ) (g : Segment) (n : ℕ) → length g.entries ≤ n → bytes ≡ file → Keeps file g n bytes
keeps_all file bytes g n past same = record { all = λ e. same; some = λ fewer. absurd (omega (arith, past, fewer)) }

-- some entries of it
pub keeps_some : (file bytes : List ℕ) (g : Segment) (n : ℕ) → n < length g.entries → Writes g.header g.base (take n g.entries) [] bytes → Keeps file g n bytes
keeps_some file bytes g n few writes = record {
  all = λ e. absurd (omega (arith, few, e));
  some = λ fewer. writes.segment.bytes_are ∙ append-nil (segment_spelling g.header g.base (take n g.entries));
}

-- ---- files, one after the other

abbrev pub items : List (Vec ℕ Global) → List (List ℕ)
items vecs = map (λ (file : Vec ℕ Global). file.items) vecs

-- the first files are cut
abbrev pub AreCutSoFar : List Segment → List ℕ → List (List ℕ) → ℕ → List (List ℕ) → Type 0
AreCutSoFar segments taken files n kept = (k : ℕ) → k < n → Keeps (file_at files k) (segment_at segments k) (count_at taken k) (file_at kept k)

-- the others are as they were
abbrev pub AreLeft : List (List ℕ) → ℕ → List (List ℕ) → Type 0
AreLeft files n kept = (k : ℕ) → n ≤ k → file_at kept k ≡ file_at files k

-- one file more
pub cut_more : (segments : List Segment) (taken : List ℕ) (files : List (List ℕ)) (i : ℕ) (old new : List (List ℕ))
    → ((k : ℕ) → k < i → file_at new k ≡ file_at old k) → AreCutSoFar segments taken files i old
    → Keeps (file_at files i) (segment_at segments i) (count_at taken i) (file_at new i) → AreCutSoFar segments taken files (i + 1) new
cut_more segments taken files i old new same done now k l = elim (cases_lt k i) [
  | inl earlier ↦ subst (λ (b : List ℕ). Keeps (file_at files k) (segment_at segments k) (count_at taken k) b) (sym (same k earlier)) (done k earlier)
  | inr last ↦
      let here : k ≡ i = omega (arith, last, l) in
      let P : ℕ → Type 0 = λ j. Keeps (file_at files j) (segment_at segments j) (count_at taken j) (file_at new j) in
      subst P (sym here) now
]

-- a file that is put in place of another
module _ (kept : List (Vec ℕ Global)) (i : ℕ) (file : Vec ℕ Global) where
  pub set_here : i < length kept → file_at (items (slice_set kept i file)) i ≡ file.items
  set_here inside =
      let count = length-map kept (λ (file : Vec ℕ Global). file.items) in
      ap (λ (xs : List (List ℕ)). file_at xs i) (map-set (λ (file : Vec ℕ Global). file.items) kept i file)
      ∙ get_or-set_same (items kept) i file.items [] (omega (arith, count, inside))

  pub set_elsewhere : (k : ℕ) → k ≢ i → file_at (items (slice_set kept i file)) k ≡ file_at (items kept) k
  set_elsewhere k other =
      ap (λ (xs : List (List ℕ)). file_at xs k) (map-set (λ (file : Vec ℕ Global). file.items) kept i file)
      ∙ get_or-set_other (items kept) i k file.items [] other
