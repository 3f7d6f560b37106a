-- Answers of a site, and the replies to them.
use Rattle.std.proofs.Common.{◌≡◌, ℕ, suc, Bool, List, [], ◌∷◌, length, Option, Some, refl, ap, subst, inl}
use Rattle.std.specs.Prelude.{Result, slice_get}
use Rattle.std.proofs.lemmas.Option.{same_Some}
use Rattle.cmh_controller3.specs.declared.outcome.Outcome.{Outcome}
use Rattle.cmh_controller3.specs.declared.refusal.Refusal.{Refusal}
use Rattle.cmh_journaled.specs.Batches.{AreAnswers}
use Rattle.cmh_journaled.specs.declared.refusal.Refusal.{Refusal as Reason}
use Rattle.cmh_station3.specs.Files.{Held}
use Rattle.cmh_station3.specs.Machines.{site_of_machine}
use Rattle.cmh_station3.specs.Sites.{Site, meaning_of}
use Rattle.cmh_model3.specs.declared.event.Event.{Event}
use Rattle.cmh_node3.specs.Nodes.{Node}
use Rattle.cmh_node3.specs.Steps.{StepsAll}
use Rattle.cmh_talk3.specs.Numbers.{reply_of}
use Rattle.cmh_talk3.specs.declared.reply.EventReply.{EventReply}
use Rattle.cmh_clients3.specs.Replies.{TakenAlone}

abbrev Answer : Type 0
Answer = Result Outcome (Reason Refusal)

-- as many answers as events
many : (events : List Event) (answers : List Answer) (room : ℕ) (v : Site)
    → AreAnswers (meaning_of site_of_machine) room v events answers → length answers ≡ length events
many [] [] room v are = refl
many [] (answer ∷ answers) room v are = absurd are
many (event ∷ events) [] room v are = absurd are
many (event ∷ events) (answer ∷ answers) room v are = ap suc (many events answers _ _ are.1)

module _ {File : Type 0} (told : File → Option Held) (has_failed : File → Bool) (a b : Node File) where
  pub as_many : (events : List Event) (answers : List Answer) → StepsAll told has_failed a events answers b
      → length answers ≡ length events
  as_many events answers steps = many events answers _ _ steps.station.stepped.answered

  -- one event has one answer, which is the first
  pub alone : (event : Event) (answers : List Answer) (answer : Answer) (reply : EventReply)
      → StepsAll told has_failed a (event ∷ []) answers b → slice_get answers 0 ≡ Some answer → reply ≡ reply_of answer
      → TakenAlone told has_failed a event reply b
  alone event [] answer reply steps first is = absurd steps.station.stepped.answered
  alone event (only ∷ []) answer reply steps first is = inl (answer, subst (λ (x : Answer). StepsAll told has_failed a (event ∷ []) (x ∷ []) b) (same_Some only answer first) steps, is)
  alone event (one ∷ two ∷ answers) answer reply steps first is = absurd steps.station.stepped.answered.1
