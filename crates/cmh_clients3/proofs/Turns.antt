-- Events that are taken one after the other.
use Rattle.std.proofs.Common.{◌≡◌, ℕ, zero, suc, ◌+◌, ◌<◌, Bool, List, [], ◌∷◌, ◌++◌, length, take, slice_index_or, Option, refl, subst₂, arith}
use native.Mathlib.Numerals.{unary_clauses}
use Rattle.cmh_station3.specs.Files.{Held}
use Rattle.cmh_model3.specs.declared.event.Event.{Event}
use Rattle.cmh_node3.specs.Nodes.{Node}
use Rattle.cmh_talk3.specs.declared.reply.EventReply.{EventReply}
use Rattle.cmh_clients3.specs.Replies.{TakenAlone, TakenInTurn}

module _ {File : Type 0} (told : File → Option Held) (has_failed : File → Bool) where
  next_taken : (events : List Event) (at : ℕ) (e : Event) (a b c : Node File) (replies : List EventReply) (r : EventReply)
      → at < length events → e ≡ slice_index_or events at e
      → TakenInTurn told has_failed a (take at events) replies b → TakenAlone told has_failed b e r c
      → TakenInTurn told has_failed a (take (suc at) events) (replies ++ r ∷ []) c
  next_taken [] at e a b c replies r few is before now = absurd (omega arith)
  next_taken (x ∷ xs) zero e a b c [] r few is before now =
      (c, subst₂ (λ (from : Node File) (event : Event). TakenAlone told has_failed from event r c) before is now, refl)
  next_taken (x ∷ xs) zero e a b c (r' ∷ replies) r few is before now = absurd before
  next_taken (x ∷ xs) (suc n) e a b c [] r few is before now = absurd before
  next_taken (x ∷ xs) (suc n) e a b c (r' ∷ replies) r few is before now =
      (before.0, before.1, next_taken xs n e before.0 b c replies r (omega arith) is before.2 now)

  -- one event more was taken
  pub one_more : (events : List Event) (at : ℕ) (e : Event) (a b c : Node File) (replies : List EventReply) (r : EventReply)
      → at < length events → e ≡ slice_index_or events at e
      → TakenInTurn told has_failed a (take at events) replies b → TakenAlone told has_failed b e r c
      → TakenInTurn told has_failed a (take (at + 1) events) (replies ++ r ∷ []) c
  one_more events at e a b c replies r few is before now =
      simp unary_clauses (next_taken events at e a b c replies r few is before now)
