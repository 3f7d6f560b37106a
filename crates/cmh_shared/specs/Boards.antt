-- What contracts see of the writer's side of a board, and what it keeps.
use Rattle.std.specs.Prelude.{ℕ, ◌≡◌, Bool, List, [], length, fold, Option, Some, None, IfSome}
use Rattle.cmh_runs.specs.Runs.{IsBeginningOf}
use Rattle.logbook.specs.Pages.{Book}
use Rattle.logbook.specs.declared.tokens.Seen.{Seen}
use Rattle.cmh_shared.specs.declared.history.History.{History}
use Rattle.cmh_shared.specs.declared.published.Published.{Published}
use Rattle.cmh_shared.specs.declared.published.Add.{Add}
use Rattle.cmh_shared.specs.Fronts.{Front}
use Rattle.cmh_shared.specs.Lists.{added}
use Rattle.cmh_shared.specs.Rule.{named}

-- The writer's side: which board it is, all that was added, what of it is published, and whether the last call that added
-- or published was refused memory.
pub record Listed : Type 0 where
  pub book : Book
  pub list : List ℕ
  pub shown : List ℕ
  pub out_of_memory : Bool

-- a reader of this board that read and learnt nothing
pub record IsEmptyFront (book : Book) (front : Front) : Type 0 where
  pub of_board : front.book ≡ book
  pub empty : front.list ≡ []

-- what operations change: the published list, and the history that it begins
abbrev pub State : Type 0
State = List ℕ × Seen ℕ ℕ History

abbrev pub state_of : Published → State
state_of x = (x.list, x.seen)

abbrev pub apply : State → Add → State
apply s o = (added s.0 o.process, o.seen)

-- what is published, with the pending operations
abbrev pub final : Published → List Add → State
final x ops = fold apply (state_of x) ops

-- the list with the operation for which the writer had no memory
abbrev pub with_stuck : List ℕ → Option Add → List ℕ
with_stuck xs None = xs
with_stuck xs (Some o) = added xs o.process

-- the operation leads to its history
abbrev pub Leads : Book → List ℕ → Add → Type 0
Leads b xs o = (o.seen.book ≡ b) × (added xs o.process ≡ o.seen.log)

-- Of the history `log` with its length, of the list with its count: the published list begins the list, which begins
-- the history, and what is published after the pending operations is the history that comes with it. The writer's seat
-- knows the history's name.
pub record Keeps (b : Book) (log : List ℕ) (length' count : ℕ) (x : Published) (ops : List Add) (stuck : Option Add)
    (seat : List ℕ) : Type 0 where
  pub log_length : length' ≡ length log
  pub book : x.seen.book ≡ b
  pub shown : IsBeginningOf x.list log
  pub final_book : (final x ops).1.book ≡ b
  pub final_own : (final x ops).0 ≡ (final x ops).1.log
  pub stuck_leads : IfSome stuck (λ o. Leads b (final x ops).0 o)
  pub list : IsBeginningOf (with_stuck (final x ops).0 stuck) log
  pub list_length : count ≡ length (with_stuck (final x ops).0 stuck)
  pub named_seat : seat ≡ named b
