-- The next message of a link.
use Rattle.std.proofs.Common.{◌≡◌, ℕ, ◌==◌, List, [], ◌∷◌, ◌++◌, drop, if◌then◌else◌, None, Some, refl, ap, subst, ◌∙◌, inl, inr, slice_get}
use Rattle.std.proofs.lemmas.Bool.{cases_eq, eq-eqb, ne_eqb}
use Rattle.cmh_controller3.specs.Refusals.{Refuses}
use Rattle.cmh_controller3.specs.declared.refusal.Refusal.{Refusal}
use Rattle.cmh_controller3.specs.declared.refusal.Refusal.TheVariants.{UnknownProcess, NotHere, BadTargets, Blocked, NotBlocked, NotOwed, Unlawful, Memory, Leaving, AlreadyWaits, NotWaiting, ClockSpent}
use Rattle.cmh_model3.specs.declared.event.Event.TheVariants.{Got}
use Rattle.cmh_model3.specs.declared.frame.Frame.{Frame}
use Rattle.cmh_model3.specs.declared.frame.Message.{Message}
use Rattle.cmh_model3.specs.Rules.{Accepts}
use Rattle.cmh_model3.specs.Runs.{IsBeginningOf}
use Rattle.cmh_model3.specs.State.{State}

pub no_front : (xs : List Message) → slice_get xs 0 ≡ None → xs ≡ []
no_front [] h = refl
no_front (x ∷ xs) h = absurd (cc h)

pub first_front : (xs : List Message) (m : Message) → slice_get xs 0 ≡ Some m → m ∷ drop 1 xs ≡ xs
first_front [] m h = absurd (cc h)
first_front (x ∷ xs) m h = let same : m ≡ x = cc in ap (λ y. y ∷ xs) same

-- what came from one site is the next of its link, and nothing came from another
pub front_next : (u : ℕ → List Message) (from : ℕ) (m : Message) → slice_get (u from) 0 ≡ Some m
    → (x : ℕ) → IsBeginningOf (if from == x then m ∷ [] else []) (u x)
front_next u from m front x = elim (cases_eq from x) [
  | inl same ↦ (
    drop 1 (u x),
    ap (λ b. (if b then m ∷ [] else []) ++ drop 1 (u x)) (eq-eqb from x same) ∙ first_front (u x) m (subst (λ y. slice_get (u y) 0 ≡ Some m) same front),
  )
  | inr other ↦ (u x, ap (λ b. (if b then m ∷ [] else []) ++ u x) (ne_eqb from x other))
]

-- what the rules accept is refused only where memory ran out
pub only_memory : (home : ℕ → ℕ) (s : ℕ) (v : State) (a clock : ℕ) (frame : Frame) (reason : Refusal)
    → Accepts home s v (Got a clock frame) → Refuses home s v (Got a clock frame) reason → reason ≡ Memory
only_memory home s v a clock frame Memory accepts h = refl
only_memory home s v a clock frame Unlawful accepts h = absurd (h accepts)
only_memory home s v a clock frame UnknownProcess accepts h = absurd h
only_memory home s v a clock frame NotHere accepts h = absurd h
only_memory home s v a clock frame BadTargets accepts h = absurd h
only_memory home s v a clock frame Blocked accepts h = absurd h
only_memory home s v a clock frame NotBlocked accepts h = absurd h
only_memory home s v a clock frame NotOwed accepts h = absurd h
only_memory home s v a clock frame Leaving accepts h = absurd h
only_memory home s v a clock frame AlreadyWaits accepts h = absurd h
only_memory home s v a clock frame NotWaiting accepts h = absurd h
only_memory home s v a clock frame ClockSpent accepts h = absurd h
