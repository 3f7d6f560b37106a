-- What a contract sees of a station: a controller with its journal, a board of what the journal declares, and the sink.
use Rattle.std.specs.Prelude.{ℕ, ◌≡◌, ◌+◌, ◌≤◌, false, List, ◌++◌, length, take}
use Rattle.cmh_frames.specs.Entries.{Entry}
use Rattle.cmh_frames.specs.Declarations.{declarations}
use Rattle.cmh_frames.specs.Runs.{IsBeginningOf}
use Rattle.cmh_shared.specs.Boards.{Listed}
use Rattle.cmh_station.specs.Journaled.{Journaled}

pub record Station (S : Type 0) : Type 0 where
  pub core : Journaled
  pub board : Listed
  pub sink : S

-- The board lists what the first so many entries declare, and what it has published begins its list.
pub record IsFed (entries' : List Entry) (count : ℕ) (board : Listed) : Type 0 where
  pub within : count ≤ length entries'
  pub listed : board.list ≡ declarations (take count entries')
  pub shown : IsBeginningOf board.shown board.list

-- What was published begins what the entries declare, and it is all of that unless the board was out of memory.
pub record IsPublished (entries' : List Entry) (board : Listed) : Type 0 where
  pub begins : IsBeginningOf board.shown (declarations entries')
  pub all : board.out_of_memory ≡ false → board.shown ≡ declarations entries'

-- the board takes in what the entries declare, and publishes it unless it was out of memory
pub record IsUpToDate (entries' : List Entry) (count : ℕ) (board : Listed) : Type 0 where
  pub fed : IsFed entries' count board
  pub all : board.out_of_memory ≡ false → board.shown ≡ declarations entries'

-- the same board, which has published no less
pub record GoesOn (a b : Listed) : Type 0 where
  pub book : b.book ≡ a.book
  pub shown : IsBeginningOf a.shown b.shown

-- what the entries declare is listed and published, or a beginning of it, and nothing that was published is gone
pub record KeepsUp (entries' : List Entry) (count : ℕ) (a b : Listed) : Type 0 where
  pub up_to_date : IsUpToDate entries' count b
  pub goes_on : GoesOn a b

-- A station's board is up to date, and the entries that it has not taken in are in memory: so many of the first are not.
pub record IsKept (entries' : List Entry) (gone count : ℕ) (board : Listed) : Type 0 where
  pub up_to_date : IsUpToDate entries' count board
  pub in_memory : gone ≤ count

-- A board took in the first of these entries, which were not taken in yet: now so many of the journal are.
pub record TookIn (more : List Entry) (count count' : ℕ) (a b : Listed) : Type 0 where
  pub taken : ℕ
  pub counted : count' ≡ count + taken
  pub within : taken ≤ length more
  pub listed : b.list ≡ a.list ++ declarations (take taken more)
  pub book : b.book ≡ a.book
  pub shown : b.shown ≡ a.shown
