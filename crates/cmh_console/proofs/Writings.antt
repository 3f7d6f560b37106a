-- What is written by way of a buffer.
use Rattle.std.proofs.Common.{◌≡◌, ℕ, List, [], ◌++◌, Option, None, Some, ap, subst, ◌∙◌}
use Rattle.std.specs.Prelude.{Result, Ok, Err, OnOk, IfSome}
use Rattle.std.specs.Fmt.{WritesText}
use Rattle.std.specs.Io.KnownBytes.{Appends}
use Rattle.std.proofs.lemmas.Fmt.{contents_after_writes}
use Rattle.arrayvec.specs.ArrayString.{ArrayString}

module _ (before after : Option (List ℕ)) (empty whole : ArrayString) (none : empty.bytes ≡ []) where
  -- the buffer holds the text, and what it holds is written
  all_of : (text : Option (List ℕ)) → WritesText (λ s bytes t. t.bytes ≡ s.bytes ++ bytes) empty text whole
      → Appends before after whole.bytes → IfSome text (Appends before after)
  all_of None put written = tt
  all_of (Some bytes) put written =
      let held = contents_after_writes _ (λ (s : ArrayString). s.bytes) (λ s bytes t is. is) empty bytes whole put in
      subst (Appends before after) (held ∙ ap (λ (bs : List ℕ). bs ++ bytes) none) written

  pub written_whole : {X E : Type 0} (result : Result X E) (text : Option (List ℕ)) (buffer : List ℕ) → buffer ≡ whole.bytes
      → WritesText (λ s bytes t. t.bytes ≡ s.bytes ++ bytes) empty text whole
      → OnOk result (Appends before after buffer) → OnOk result (IfSome text (Appends before after))
  written_whole (Ok x) text buffer is put written = all_of text put (subst (Appends before after) is written)
  written_whole (Err e) text buffer is put written = tt
