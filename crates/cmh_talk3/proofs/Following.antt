-- Lists that are gone through together.
use Rattle.std.proofs.Common.{◌≡◌, ℕ, List, [], ◌∷◌, length, drop, min, Result, refl, arith, length-drop}
use Rattle.cmh_controller3.specs.Controller.{Controller}
use Rattle.cmh_controller3.specs.declared.outcome.Outcome.{Outcome}
use Rattle.cmh_controller3.specs.declared.refusal.Refusal.{Refusal}
use Rattle.cmh_journaled.specs.declared.refusal.Refusal.{Refusal as Reason}
use Rattle.cmh_model3.specs.declared.event.Event.{Event}
use Rattle.cmh_talk3.specs.News.{link_changes, own_news}
use Rattle.cmh_talk3.specs.declared.link_state.LinkStates.{LinkStates}
use Rattle.cmh_talk3.specs.declared.news.News.{News}

abbrev Answer : Type 0
Answer = Result Outcome (Reason Refusal)

own_none : (c : Controller) (told : List News) (events : List Event) (answers : List Answer) → min (length events) (length answers) ≡ 0 → own_news c told events answers ≡ told
own_none c told [] answers none = refl
own_none c told (event ∷ events) [] none = refl
own_none c told (event ∷ events) (answer ∷ answers) none = absurd (omega (arith, none))

-- after the last
pub own_past : (c : Controller) (told : List News) (events : List Event) (answers : List Answer) (k : ℕ) → k ≡ min (length events) (length answers)
    → own_news c told (drop k events) (drop k answers) ≡ told
own_past c told events answers k all =
    own_none c told (drop k events) (drop k answers) (omega (arith, all, length-drop k events, length-drop k answers))

link_none : (told : List News) (olds news : List LinkStates) → min (length olds) (length news) ≡ 0 → link_changes told olds news ≡ told
link_none told [] news none = refl
link_none told (old ∷ olds) [] none = refl
link_none told (old ∷ olds) (new ∷ news) none = absurd (omega (arith, none))

pub link_past : (told : List News) (olds news : List LinkStates) (k : ℕ) → k ≡ min (length olds) (length news)
    → link_changes told (drop k olds) (drop k news) ≡ told
link_past told olds news k all = link_none told (drop k olds) (drop k news) (omega (arith, all, length-drop k olds, length-drop k news))
