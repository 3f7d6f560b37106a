-- Where memory is refused to a frame.
use Rattle.std.proofs.Common.{◌≡◌, ℕ, ◌+◌, ◌-◌, ◌<◌, ◌≤◌, ◌^◌, min, List, [], ◌∷◌, ◌++◌, length, take, drop, Result, Ok, Err, refl, ap, ◌∙◌, subst, arith, append_assoc, length-append}
use Rattle.std.specs.Prelude.{OnErr}
use Rattle.std.proofs.lemmas.List.{take-append-drop}
use Rattle.cmh_frames.specs.declared.edition.Edition.{Edition}
use Rattle.cmh_frames.specs.declared.frame.Frame.{Frame}
use Rattle.cmh_frames.specs.Wire.{Spells}
use Rattle.cmh_reader.specs.declared.standing.Standing.TheVariants.{Open}
use Rattle.cmh_reader.specs.Stream.{HasMore, Splits, Reads}
use Rattle.cmh_reader.proofs.Readings.{ReadSoFar, begun_whole, frame_read, splits_more}

-- what holds anyway holds at an error
pub on_err : {T E P : Type 0} → (r : Result T E) → P → OnErr r P
on_err (Ok done) p = tt
on_err (Err fault) p = p

-- a list with one more isn't empty
push_some : (frames : List Frame) (f : Frame) → 0 < length (frames ++ f ∷ [])
push_some frames f = omega (arith, length-append frames (f ∷ []))

-- the frame that is found and can't be kept
pub frame_wanted : (sender offset : ℕ) (known : List Frame) (bytes : List ℕ) (frames : List Frame) (used n : ℕ) (f : Frame) → ReadSoFar sender offset known bytes frames used → n ≤ length (drop used bytes) → Spells (take n (drop used bytes)) f
    → (edition : Edition) (senders stream : List ℕ) (before : List Frame) → Reads edition senders stream (before ++ known) (Open sender [] offset) → HasMore edition senders (stream ++ bytes) before
frame_wanted sender offset known bytes frames used n f so_far h s edition senders stream before is =
    let read = frame_read sender offset known bytes frames used n f so_far h s in record {
      sender = sender;
      more = frames ++ f ∷ [];
      rest = drop (used + n) bytes;
      some = push_some frames f;
      splits = (read.reads edition senders stream before is).0;
    }

-- the frame that the piece finishes and that can't be kept
pub begun_wanted : (edition : Edition) (senders stream : List ℕ) (sender offset : ℕ) (before : List Frame) (begun piece bytes : List ℕ) (f : Frame) (n : ℕ)
    → Reads edition senders stream before (Open sender begun offset) → bytes ≡ take 7 (begun ++ piece) → n ≤ length bytes → Spells (take n bytes) f
    → HasMore edition senders (stream ++ piece) before
begun_wanted edition senders stream sender offset before begun piece bytes f n is bytes_are h s =
    let at = n - length begun in
    let whole = begun_whole edition senders stream sender offset (min (offset + n) (2 ^ 64 - 1)) before begun piece bytes f n is bytes_are h s refl in record {
      sender = sender;
      more = f ∷ [];
      rest = drop at piece;
      some = omega arith;
      splits = subst (λ b. Splits edition senders b sender (before ++ f ∷ []) (drop at piece)) (append_assoc stream (take at piece) (drop at piece) ∙ ap (λ b. stream ++ b) (take-append-drop at piece))
          (splits_more edition senders (stream ++ take at piece) sender (before ++ f ∷ []) [] (drop at piece) whole.0);
    }
