-- A stream that goes on.
use Rattle.std.proofs.Common.{◌≡◌, ℕ, ◌+◌, ◌-◌, ◌<◌, ◌≤◌, ◌^◌, min, List, [], ◌∷◌, ◌++◌, length, take, drop, refl, sym, ap, ◌∙◌, subst, arith, append_assoc, length-append, length-drop, length-take}
use Rattle.std.proofs.lemmas.List.{append-nil, drop-drop, take_all, take-take, take_rest, length-take-le}
use Rattle.std.proofs.Math.Seq.{take-append-add}
use Rattle.cmh_frames.specs.declared.edition.Edition.{Edition}
use Rattle.cmh_frames.specs.declared.frame.Frame.{Frame}
use Rattle.cmh_frames.specs.declared.frame.Front.TheVariants.{Bad}
use Rattle.cmh_frames.specs.Wire.{IsFrame, IsFront, IsShort, Spells, spelling, spelled, hello, link_bytes}
use Rattle.cmh_reader.specs.declared.standing.Standing.{Standing}
use Rattle.cmh_reader.specs.declared.standing.Standing.TheVariants.{Greeting, Open, Broken}
use Rattle.cmh_reader.specs.Stream.{Splits, Reads, place_behind}
use Rattle.cmh_reader.proofs.Fronts.{bad_front, short_length, longer_than_begun}
use Rattle.cmh_frames.proofs.Each.{all_append}
use Rattle.cmh_frames.proofs.Fronts.{begins}

-- frames after others are spelled after them
pub spelled-append : (xs ys : List Frame) → spelled (xs ++ ys) ≡ spelled xs ++ spelled ys
spelled-append [] ys = refl
spelled-append (f ∷ xs) ys = ap (λ b. spelling f ++ b) (spelled-append xs ys) ∙ sym (append_assoc (spelling f) (spelled xs) (spelled ys))

-- one frame more
pub spelled-push : (xs : List Frame) (f : Frame) → spelled (xs ++ f ∷ []) ≡ spelled xs ++ spelling f
spelled-push xs f = spelled-append xs (f ∷ []) ∙ ap (λ b. spelled xs ++ b) (append-nil (spelling f))

-- more bytes come into the rest
pub splits_more : (edition : Edition) (senders stream : List ℕ) (sender : ℕ) (frames : List Frame) (rest more : List ℕ) → Splits edition senders stream sender frames rest → Splits edition senders (stream ++ more) sender frames (rest ++ more)
splits_more edition senders stream sender frames rest more s = record {
  number = s.number;
  expected = s.expected;
  each = s.each;
  whole = ap (λ b. b ++ more) s.whole ∙ append_assoc (link_bytes edition sender frames) rest more;
}

-- the rest begins with a frame
pub splits_push : (edition : Edition) (senders stream : List ℕ) (sender : ℕ) (frames : List Frame) (rest : List ℕ) (f : Frame) (behind : List ℕ) → Splits edition senders stream sender frames rest → IsFrame f → rest ≡ spelling f ++ behind → Splits edition senders stream sender (frames ++ f ∷ []) behind
splits_push edition senders stream sender frames rest f behind s frame same = record {
  number = s.number;
  expected = s.expected;
  each = all_append IsFrame frames (f ∷ []) s.each (frame, tt);
  whole =
      s.whole ∙ ap (λ b. link_bytes edition sender frames ++ b) same ∙ sym (append_assoc (link_bytes edition sender frames) (spelling f) behind)
      ∙ ap (λ b. b ++ behind) (append_assoc (hello edition sender) (spelled frames) (spelling f) ∙ ap (λ b. hello edition sender ++ b) (sym (spelled-push frames f)));
}

-- the place moves by the frame's length
place-push : (frames : List Frame) (f : Frame) → length (spelled (frames ++ f ∷ [])) ≡ length (spelled frames) + length (spelling f)
place-push frames f = ap length (spelled-push frames f) ∙ length-append (spelled frames) (spelling f)

-- The bytes up to here were read into the frames: the stream that they go on with, whichever it is, has these frames after its own.
pub record ReadSoFar (sender offset : ℕ) (known : List Frame) (bytes : List ℕ) (frames : List Frame) (used : ℕ) : Type 0 where
  pub in_range : used ≤ length bytes
  pub reads : (edition : Edition) (senders stream : List ℕ) (before : List Frame)
      → Reads edition senders stream (before ++ known) (Open sender [] offset)
      → Splits edition senders (stream ++ bytes) sender (before ++ frames) (drop used bytes) × (min (offset + used) (2 ^ 64 - 1) ≡ place_behind (before ++ frames))

-- before the first frame
pub none_read : (sender offset : ℕ) (known : List Frame) (bytes : List ℕ) → ReadSoFar sender offset known bytes known 0
none_read sender offset known bytes = record {
  in_range = omega arith;
  reads = λ edition senders stream before is. (
    splits_more edition senders stream sender (before ++ known) [] bytes is.0,
    let place : offset ≡ min (6 + length (spelled (before ++ known))) 18446744073709551615 = is.2 in omega arith,
  );
}

-- one frame more is read
pub frame_read : (sender offset : ℕ) (known : List Frame) (bytes : List ℕ) (frames : List Frame) (used n : ℕ) (f : Frame) → ReadSoFar sender offset known bytes frames used → n ≤ length (drop used bytes) → Spells (take n (drop used bytes)) f → ReadSoFar sender offset known bytes (frames ++ f ∷ []) (used + n)
frame_read sender offset known bytes frames used n f so_far h s =
    let within : used ≤ length bytes = so_far.in_range in
    let cut : drop used bytes ≡ spelling f ++ drop (used + n) bytes = begins (drop used bytes) n f s ∙ ap (λ b. spelling f ++ b) (drop-drop n used bytes) in
    let n_is : length (drop used bytes) ≡ length (spelling f) + length (drop (used + n) bytes) = ap length cut ∙ length-append (spelling f) (drop (used + n) bytes) in
    let in_range : used + n ≤ length bytes = omega (arith, length-drop used bytes) in
    record {
      in_range = in_range;
      reads = λ edition senders stream before is.
          let now = so_far.reads edition senders stream before is in
          let assoc : (before ++ frames) ++ f ∷ [] ≡ before ++ (frames ++ f ∷ []) = append_assoc before frames (f ∷ []) in
          let place : min (offset + used) (2 ^ 64 - 1) ≡ min (6 + length (spelled (before ++ frames))) 18446744073709551615 = now.1 in
          let longer : length (spelled ((before ++ frames) ++ f ∷ [])) ≡ length (spelled (before ++ frames)) + length (spelling f) = place-push (before ++ frames) f in
          let further : min (offset + (used + n)) (2 ^ 64 - 1) ≡ min (6 + length (spelled ((before ++ frames) ++ f ∷ []))) 18446744073709551615 = omega (arith, length-drop used bytes, length-drop (used + n) bytes) in (
            subst (λ fs. Splits edition senders (stream ++ bytes) sender fs (drop (used + n) bytes)) assoc
                (splits_push edition senders (stream ++ bytes) sender (before ++ frames) (drop used bytes) f (drop (used + n) bytes) now.0 s.frame cut),
            further ∙ ap place_behind assoc,
          );
    }

-- a piece that doesn't finish the frame that is begun
pub begun_more : (begun piece bytes : List ℕ) → bytes ≡ take 7 (begun ++ piece) → IsShort bytes → bytes ≡ begun ++ piece
begun_more begun piece bytes is short =
    let few : length bytes < 7 = short_length bytes short in
    let count : length bytes ≡ min 7 (length (begun ++ piece)) = ap length is ∙ length-take 7 (begun ++ piece) in
    is ∙ take_all 7 (begun ++ piece) (omega arith)

-- the part of a piece that finishes a row of n bytes
pub finished_by : (begun piece : List ℕ) (n : ℕ) → length begun ≤ n → begun ++ take (n - length begun) piece ≡ take n (begun ++ piece)
finished_by begun piece n h = sym (take-append-add begun piece (n - length begun)) ∙ ap (λ k. take k (begun ++ piece)) (omega arith)

-- The piece finishes the frame that is begun.
pub begun_whole : (edition : Edition) (senders stream : List ℕ) (sender offset next : ℕ) (before : List Frame) (begun piece bytes : List ℕ) (f : Frame) (n : ℕ)
    → Reads edition senders stream before (Open sender begun offset) → bytes ≡ take 7 (begun ++ piece) → n ≤ length bytes → Spells (take n bytes) f → next ≡ min (offset + n) (2 ^ 64 - 1)
    → Reads edition senders (stream ++ take (n - length begun) piece) (before ++ f ∷ []) (Open sender [] next)
begun_whole edition senders stream sender offset next before begun piece bytes f n is bytes_are h s next_is =
    let cut : n ≤ length (take 7 (begun ++ piece)) = subst (λ b. n ≤ length b) bytes_are h in
    let spells : Spells (take n (take 7 (begun ++ piece))) f = subst (λ b. Spells (take n b) f) bytes_are s in
    let longer : length begun < n = longer_than_begun begun piece f n is.1 cut spells in
    let within : n ≤ 7 = omega (arith, length-take 7 (begun ++ piece)) in
    let front : begun ++ take (n - length begun) piece ≡ spelling f = finished_by begun piece n (omega arith) ∙ sym (take-take n 7 (begun ++ piece) within) ∙ spells.bytes_are in
    let count : length (spelling f) ≡ n = sym (ap length spells.bytes_are) ∙ length-take-le n (take 7 (begun ++ piece)) cut in
    let place : offset ≡ min (6 + length (spelled before)) 18446744073709551615 = is.2 in
    let longer_by : length (spelled (before ++ f ∷ [])) ≡ length (spelled before) + length (spelling f) = place-push before f in (
      splits_push edition senders (stream ++ take (n - length begun) piece) sender before (begun ++ take (n - length begun) piece) f []
          (splits_more edition senders stream sender before begun (take (n - length begun) piece) is.0) spells.frame (front ∙ sym (append-nil (spelling f))),
      tt,
      omega arith,
    )

-- The piece ends before the frame that is begun.
pub begun_short : (edition : Edition) (senders stream : List ℕ) (sender offset : ℕ) (before : List Frame) (begun piece bytes : List ℕ)
    → Reads edition senders stream before (Open sender begun offset) → bytes ≡ take 7 (begun ++ piece) → IsShort bytes
    → Reads edition senders (stream ++ piece) before (Open sender bytes offset)
begun_short edition senders stream sender offset before begun piece bytes is bytes_are short = (
  subst (Splits edition senders (stream ++ piece) sender before) (sym (begun_more begun piece bytes bytes_are short)) (splits_more edition senders stream sender before begun piece is.0),
  short,
  is.2,
)

-- The piece shows that no frame is begun.
pub begun_bad : (edition : Edition) (senders stream : List ℕ) (sender offset : ℕ) (before : List Frame) (begun piece bytes : List ℕ)
    → Reads edition senders stream before (Open sender begun offset) → bytes ≡ take 7 (begun ++ piece) → IsFront bytes Bad
    → Reads edition senders (stream ++ piece) before (Broken sender offset)
begun_bad edition senders stream sender offset before begun piece bytes is bytes_are bad =
    (begun ++ piece, splits_more edition senders stream sender before begun piece is.0, bad_front 7 (begun ++ piece) (subst (λ b. IsFront b Bad) bytes_are bad), is.2)

-- what is left of the bytes, kept in a row of its own
pub kept_whole : (none bytes : List ℕ) (used : ℕ) (kept : List ℕ) → none ≡ [] → kept ≡ take 7 (none ++ take (length bytes - used) (drop used bytes)) → IsShort (drop used bytes) → kept ≡ drop used bytes
kept_whole none bytes used kept none_is is short =
    let few : length (drop used bytes) < 7 = short_length (drop used bytes) short in
    is ∙ ap (λ n. take 7 (n ++ take (length bytes - used) (drop used bytes))) none_is ∙ ap (take 7) (take_rest bytes used) ∙ take_all 7 (drop used bytes) (omega arith)

-- what finishes the row stands in the piece
pub finish_in_range : (begun piece : List ℕ) (n : ℕ) → n ≤ length (take 7 (begun ++ piece)) → n - length begun ≤ length piece
finish_in_range begun piece n h = omega (arith, length-take 7 (begun ++ piece), length-append begun piece)

-- the senders of a reader, as a slice
pub greeted_on : (edition : Edition) (senders lent stream after : List ℕ) (frames all : List Frame) (old new : Standing) (begun : List ℕ) → lent ≡ senders → old ≡ Greeting begun → Reads edition senders stream frames old
    → (Reads edition lent stream frames (Greeting begun) → Reads edition lent after all new) → Reads edition senders after all new
greeted_on edition senders lent stream after frames all old new begun same is reads on =
    subst (λ s. Reads edition s after all new) same (on (subst (λ s. Reads edition s stream frames (Greeting begun)) (sym same) (subst (Reads edition senders stream frames) is reads)))
