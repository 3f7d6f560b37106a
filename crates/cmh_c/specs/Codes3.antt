-- The numbers that functions of edition 3 answer, and what else they tell.
use Rattle.std.specs.Prelude.{◌≡◌, ℕ, Bool, List, ◌++◌, length, take, drop, Option, None, Some, unwrap_or}
use Rattle.std.specs.List.Sorted.{IsStrictlyIncreasing}
use Rattle.cmh_model3.specs.Lists.{in_list}
use Rattle.cmh_controller3.specs.Refusals.{number_of}
use Rattle.cmh_seat3.specs.declared.restart_fault.RestartFault.{RestartFault}
use Rattle.cmh_seat3.specs.declared.restart_fault.RestartFault.TheVariants.{NoSegment, Damaged, OtherSegment, NotHere, Unlawful, Full as TooLong, MoreThanSent, OtherMessages, Memory as OutOfMemory}
use Rattle.cmh_seat3.specs.declared.entries.EntryFault.{EntryFault}
use Rattle.cmh_seat3.specs.declared.entries.EntryFault.TheVariants.{Memory, NoEntry}
use Rattle.cmh_seat3.specs.declared.fault.SeatFault.{SeatFault}
use Rattle.cmh_seat3.specs.declared.fault.SeatFault.TheVariants.{Full, NoEvent, Prepared, Rule, Short, Starved}

-- those of the refusals of edition 3 in docs/rules.md, and from 20 on what C alone can get wrong
abbrev pub code_of : SeatFault → ℕ
code_of (Rule refusal) = number_of refusal
code_of Starved = 11
code_of Full = 12
code_of NoEvent = 20
code_of (Short needed) = 21
code_of Prepared = 26

abbrev pub code_of_entry : EntryFault → ℕ
code_of_entry Memory = 11
code_of_entry NoEntry = 20

-- 60 and the number of the refusal of a link; of the faults of a journal from 51 on
abbrev pub code_of_restart : RestartFault → ℕ
code_of_restart NotHere = 2
code_of_restart OutOfMemory = 11
code_of_restart TooLong = 12
code_of_restart NoSegment = 51
code_of_restart (Damaged offset) = 52
code_of_restart OtherSegment = 53
code_of_restart (Unlawful number) = 54
code_of_restart MoreThanSent = 67
code_of_restart OtherMessages = 68

-- the place that is told of it: the offset of the damage, or the number of the entry
abbrev pub place_of : RestartFault → Option ℕ
place_of (Damaged offset) = Some offset
place_of (Unlawful number) = Some number
place_of fault = None

-- This holds with the place that is told, or with none; then what was lent for it is as it was.
abbrev pub TellsWhy : (Option ℕ → Type 0) → ℕ → ℕ → Type 0
TellsWhy Holds before after = (told : Option ℕ) × Holds told × (after ≡ unwrap_or told before)

-- The processes that pass the test, ascending, stand in what was lent as far as there is room, and the count is of all.
pub record Shows (is_one : ℕ → Bool) (before after : List ℕ) (count : ℕ) : Type 0 where
  pub processes : List ℕ
  pub ascending : IsStrictlyIncreasing processes
  pub all : (p : ℕ) → in_list processes p ≡ is_one p
  pub written : after ≡ take (length before) processes ++ drop (length processes) before
  pub count_is : count ≡ length processes
