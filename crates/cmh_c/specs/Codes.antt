-- The numbers that functions for C answer, and what else they tell.
use Rattle.std.specs.Prelude.{◌≡◌, ◌≢◌, ◌↔◌, ◌⊎◌, ℕ, ◌+◌, Bool, true, List, ◌++◌, Contains, length, take, drop}
use Rattle.std.specs.List.Sorted.{IsStrictlyIncreasing}
use Rattle.cmh_frames.specs.Edition.{number_of as edition_number}
use Rattle.cmh_frames.specs.declared.edition.Edition.{Edition}
use Rattle.cmh_controller.specs.Refusals.{number_of}
use Rattle.cmh_reader.specs.Fault.{number_of as reading_number}
use Rattle.cmh_reader.specs.declared.fault.ReadFault.TheVariants.{Memory}
use Rattle.cmh_seat.specs.declared.fault.SeatFault.{SeatFault}
use Rattle.cmh_seat.specs.declared.fault.SeatFault.TheVariants.{Prepared, Full, NoEvent, Rule, Short, Starved}
use Rattle.cmh_seat.specs.declared.inlet.InletFault.{InletFault}
use Rattle.cmh_seat.specs.declared.inlet.InletFault.TheVariants.{Short as TooShort, Read}

-- those of the refusals in docs/rules.md, and from 20 on what C alone can get wrong
abbrev pub code_of : SeatFault → ℕ
code_of (Rule refusal) = number_of refusal
code_of Starved = 11
code_of Full = 12
code_of NoEvent = 20
code_of Short = 21
code_of Prepared = 26

-- 40 and the number of a reader's fault; 11 where it is out of memory
abbrev pub code_of_reading : InletFault → ℕ
code_of_reading TooShort = 21
code_of_reading (Read Memory) = 11
code_of_reading (Read fault) = 40 + reading_number fault

-- the code is that of a fault that holds
abbrev pub Answers : {F : Type 0} → (F → Type 0) → (F → ℕ) → ℕ → Type 0
Answers {F} Holds code_of code = (fault : F) × Holds fault × (code ≡ code_of fault)

-- it holds of the edition with this number
abbrev pub OfEdition : ℕ → (Edition → Type 0) → Type 0
OfEdition number Holds = (edition : Edition) × (number ≡ edition_number edition) × Holds edition

-- the code says that no edition has this number, or one has it, and this holds of that edition
abbrev pub NoEditionOr : ℕ → ℕ → (Edition → Type 0) → Type 0
NoEditionOr code number Holds =
    ((code ≡ 24) × ((edition : Edition) → number ≢ edition_number edition)) ⊎ OfEdition number Holds

-- The processes that pass the test, ascending, stand in what was lent as far as there is room, and the count is of all.
pub record Shows (is_one : ℕ → Bool) (before after : List ℕ) (count : ℕ) : Type 0 where
  pub processes : List ℕ
  pub ascending : IsStrictlyIncreasing processes
  pub all : (p : ℕ) → Contains processes p ↔ (is_one p ≡ true)
  pub written : after ≡ take (length before) processes ++ drop (length processes) before
  pub count_is : count ≡ length processes
