-- What clients are replied to by what the site did with their events.
use Rattle.std.specs.Prelude.{◌≡◌, ◌⊎◌, Bool, List, [], ◌∷◌, map, Option, Result}
use Rattle.cmh_journaled.specs.declared.refusal.Refusal.{Refusal as Reason}
use Rattle.cmh_controller3.specs.declared.outcome.Outcome.{Outcome}
use Rattle.cmh_controller3.specs.declared.refusal.Refusal.{Refusal}
use Rattle.cmh_station3.specs.Files.{Held}
use Rattle.cmh_model3.specs.declared.event.Event.{Event}
use Rattle.cmh_node3.specs.Nodes.{Node}
use Rattle.cmh_node3.specs.Steps.{NotSteps, StepsAll}
use Rattle.cmh_node3.specs.declared.settling.StepFault.TheVariants.{Memory}
use Rattle.cmh_node3.specs.declared.stepping.NotStepped.{NotStepped}
use Rattle.cmh_node3.specs.declared.stepping.NotStepped.TheVariants.{Failed}
use Rattle.cmh_talk3.specs.Numbers.{reply_of, reply_of_none}
use Rattle.cmh_talk3.specs.declared.reply.EventReply.{EventReply}

module _ {File : Type 0} (told : File → Option Held) (has_failed : File → Bool) where
  -- The site took the events with one append. Each is replied to by what the site answered.
  pub record TakenTogether (a : Node File) (events : List Event) (replies : List EventReply) (b : Node File) : Type 0 where
    pub answers : List (Result Outcome (Reason Refusal))
    pub stepped : StepsAll told has_failed a events answers b
    pub replies_are : replies ≡ map reply_of answers

  -- An event by itself is replied to by what the site answered, or by why the site did not take it. Where memory for a copy
  -- of it is refused, the site isn't given it.
  abbrev pub TakenAlone : Node File → Event → EventReply → Node File → Type 0
  TakenAlone a event reply b =
      ((answer : Result Outcome (Reason Refusal)) × StepsAll told has_failed a (event ∷ []) (answer ∷ []) b × (reply ≡ reply_of answer))
      ⊎ ((why : NotStepped) × NotSteps told has_failed a (event ∷ []) why b × (reply ≡ reply_of_none why))
      ⊎ ((b ≡ a) × (reply ≡ reply_of_none (Failed Memory)))

  -- each by itself, one after the other
  abbrev pub TakenInTurn : Node File → List Event → List EventReply → Node File → Type 0
  TakenInTurn a [] [] b = b ≡ a
  TakenInTurn a [] (reply ∷ replies) b = ⊥
  TakenInTurn a (event ∷ events) [] b = ⊥
  TakenInTurn a (event ∷ events) (reply ∷ replies) b =
      (between : Node File) × TakenAlone a event reply between × TakenInTurn between events replies b

  -- They could not be taken together, and each was taken by itself.
  pub record TakenApart (a : Node File) (events : List Event) (replies : List EventReply) (b : Node File) : Type 0 where
    pub why : NotStepped
    pub between : Node File
    pub not_together : NotSteps told has_failed a events why between
    pub in_turn : TakenInTurn between events replies b

  -- The site took none of them, and each is replied to by why.
  pub record TakenByNobody (a : Node File) (events : List Event) (replies : List EventReply) (b : Node File) : Type 0 where
    pub why : NotStepped
    pub not : NotSteps told has_failed a events why b
    pub replies_are : replies ≡ map (λ _. reply_of_none why) events

  -- The replies to events, in their order, are what this site did with them.
  abbrev pub Replied : Node File → List Event → List EventReply → Node File → Type 0
  Replied a events replies b =
      TakenTogether a events replies b ⊎ TakenApart a events replies b ⊎ TakenByNobody a events replies b
