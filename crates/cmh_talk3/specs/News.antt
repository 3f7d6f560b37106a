-- What is news, of what was just added to a journal. The controller is that of afterwards.
use Rattle.std.specs.Prelude.{◌≡◌, ℕ, ◌==◌, ◌&&◌, ◌||◌, Bool, true, false, List, [], ◌∷◌, ◌++◌, map, Option, None, Some, Result, Ok, Err, if◌then◌else◌}
use Rattle.std.specs.List.{list_any}
use Rattle.cmh_controller3.specs.Controller.{Controller, home_of, state_of}
use Rattle.cmh_controller3.specs.declared.outcome.Declaration.{Declaration}
use Rattle.cmh_controller3.specs.declared.outcome.Outcome.{Outcome}
use Rattle.cmh_controller3.specs.declared.refusal.Refusal.{Refusal}
use Rattle.cmh_journaled.specs.declared.refusal.Refusal.{Refusal as Reason}
use Rattle.cmh_model3.specs.Entries.{Entry as Step}
use Rattle.cmh_model3.specs.State.{is_blocked}
use Rattle.cmh_model3.specs.declared.event.Event.{Event}
use Rattle.cmh_model3.specs.declared.event.Event.TheVariants.{Ask, Reply, Withdraw, Got, Turn}
use Rattle.cmh_model3.specs.declared.frame.Frame.{Frame}
use Rattle.cmh_model3.specs.declared.frame.Frame.TheVariants as frame
use Rattle.cmh_model3.specs.declared.frame.Message.{Message}
use Rattle.cmh_talk3.specs.Answers.{AreDeclared}
use Rattle.cmh_talk3.specs.declared.link_state.IntoState.{IntoState}
use Rattle.cmh_talk3.specs.declared.link_state.IntoState.TheVariants as into
use Rattle.cmh_talk3.specs.declared.link_state.LinkStates.{LinkStates}
use Rattle.cmh_talk3.specs.declared.link_state.OutState.{OutState}
use Rattle.cmh_talk3.specs.declared.link_state.OutState.TheVariants as out
use Rattle.cmh_talk3.specs.declared.news.News.{News}
use Rattle.cmh_talk3.specs.declared.news.News.TheVariants.{Active, Asked, Free, Declared, WasDeclared, Out, Into}
use Rattle.cmh_talk3.specs.declared.telling.LeftPair.{LeftPair}

-- a process of the site
abbrev pub is_here : Controller → ℕ → Bool
is_here c p = home_of c p == c.site

-- ---- who is declared

-- it was declared some time ago
abbrev pub declared_once : ℕ → News
declared_once p = WasDeclared p

-- each process in declared, ascending, without its stop
pub record TellsDeclared (c : Controller) (told : List News) : Type 0 where
  pub processes : List ℕ
  pub are : AreDeclared c processes
  pub each : told ≡ map declared_once processes

abbrev pub with_declared : List News → Option Declaration → List News
with_declared told None = told
with_declared told (Some declaration) = told ++ Declared declaration.process declaration.stop ∷ []

abbrev pub with_found : List News → Option ℕ → ℕ → List News
with_found told None stop = told
with_found told (Some process) stop = told ++ Declared process stop ∷ []

-- ---- who is active

abbrev pub is_active : ℕ → News → Bool
is_active p (Active q) = q == p
is_active p news = false

-- it is told once that the process is active, where it waits for nobody
abbrev pub with_active : Controller → List News → ℕ → List News
with_active c told p = if is_blocked (state_of c) p || list_any (is_active p) told then told else told ++ Active p ∷ []

-- ---- events of the site's own processes

-- of the holders those that are processes of the site have a request of the asker
abbrev pub with_asked : Controller → List News → ℕ → List ℕ → List News
with_asked c told j [] = told
with_asked c told j (k ∷ ks) = with_asked c (if is_here c k then told ++ Asked k j ∷ [] else told) j ks

-- those that are processes of the site may be asked again at once
abbrev pub with_free : Controller → List News → ℕ → List ℕ → List News
with_free c told j [] = told
with_free c told j (k ∷ ks) = with_free c (if is_here c k then told ++ Free j k ∷ [] else told) j ks

-- what was told, and what an event tells that was accepted
abbrev pub own_with : Controller → List News → Event → Outcome → List News
own_with c told (Ask j ks) outcome = with_declared (with_asked c told j ks) outcome.declared
own_with c told (Reply k j) outcome = if is_here c j then with_active c told j else told
own_with c told (Withdraw j ks) outcome = with_free c told j ks
own_with c told (Got from clock message) outcome = told
own_with c told (Turn clock) outcome = told

abbrev pub answered_with : Controller → List News → Event → Result Outcome (Reason Refusal) → List News
answered_with c told event (Ok outcome) = own_with c told event outcome
answered_with c told event (Err refusal) = told

-- the same of events, by their answers
abbrev pub own_news : Controller → List News → List Event → List (Result Outcome (Reason Refusal)) → List News
own_news c told [] answers = told
own_news c told (event ∷ events) [] = told
own_news c told (event ∷ events) (answer ∷ answers) = own_news c (answered_with c told event answer) events answers

-- ---- messages that came

abbrev pub is_pair : ℕ → ℕ → LeftPair → Bool
is_pair j k pair = (pair.asker == j) && (pair.holder == k)

-- the pairs of the replies among messages of which the asker is leaving the holder
abbrev pub with_left : Controller → List LeftPair → Frame → List LeftPair
with_left c pairs (frame.Reply k j) = if (state_of c).leaving j k then pairs ++ record { asker = j; holder = k } ∷ [] else pairs
with_left c pairs other = pairs

abbrev pub left_of : Controller → List LeftPair → List Message → List LeftPair
left_of c pairs [] = pairs
left_of c pairs (message ∷ messages) = left_of c (with_left c pairs message.frame) messages

-- what was told, and what a message tells that was taken
abbrev pub told_by_frame : Controller → List LeftPair → List News → Frame → Option ℕ → List News
told_by_frame c left told (frame.Request j k) declared = told ++ Asked k j ∷ []
told_by_frame c left told (frame.Reply k j) declared =
    if list_any (is_pair j k) left then told ++ Free j k ∷ [] else with_active c told j
told_by_frame c left told (frame.Withdraw j k) declared = told
told_by_frame c left told (frame.Probe i n j k) declared = with_found told declared n

abbrev pub told_by_event : Controller → List LeftPair → List News → Event → Option ℕ → List News
told_by_event c left told (Got from clock message) declared = told_by_frame c left told message declared
told_by_event c left told event declared = told

abbrev pub taken_with : Controller → List LeftPair → List News → Step → List News
taken_with c left told step = told_by_event c left told step.event step.declared

abbrev pub taken_news : Controller → List LeftPair → List News → List Step → List News
taken_news c left told [] = told
taken_news c left told (step ∷ steps) = taken_news c left (taken_with c left told step) steps

-- ---- links

-- How many messages a link keeps while it is down makes no difference.
abbrev pub same_out : OutState → OutState → Bool
same_out out.Open out.Open = true
same_out (out.Down kept) (out.Down now) = true
same_out (out.Refused number) (out.Refused now) = number == now
same_out old new = false

abbrev pub same_into : IntoState → IntoState → Bool
same_into into.Open into.Open = true
same_into into.Resting into.Resting = true
same_into into.Closed into.Closed = true
same_into old new = false

abbrev pub with_out : List News → LinkStates → LinkStates → List News
with_out told old new = if same_out old.out new.out then told else told ++ Out new.site new.out ∷ []

abbrev pub with_link : List News → LinkStates → LinkStates → List News
with_link told old new =
    if same_into old.into new.into then with_out told old new else with_out told old new ++ Into new.site new.into ∷ []

-- what was told, and how the links stand otherwise than before, those with each site in their order
abbrev pub link_changes : List News → List LinkStates → List LinkStates → List News
link_changes told [] news = told
link_changes told (old ∷ olds) [] = told
link_changes told (old ∷ olds) (new ∷ news) = link_changes (with_link told old new) olds news
