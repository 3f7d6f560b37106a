-- What is known of a client, and what each call makes of it.
use Rattle.std.specs.Prelude.{ℕ, ◌+◌, ◌-◌, Bool, true, false, List, [], ◌++◌, length, drop, max, flat_map, Option, None, Some}
use Rattle.std.specs.Io.BufRead.{drop_through}

-- the bytes that it sent and that were not taken as lines; how many lines were taken and wait for their answers; the bytes
-- that are to be sent to it; how many news it was told, where it watches; whether it said its last; whether memory was refused
pub record State : Type 0 where
  pub unread : List ℕ
  pub waiting : ℕ
  pub to_say : List ℕ
  pub told : Option ℕ
  pub is_leaving : Bool
  pub is_closed : Bool

abbrev pub fresh : State
fresh = record { unread = []; waiting = 0; to_say = []; told = None; is_leaving = false; is_closed = false }

-- it sent these bytes
abbrev pub hears : State → List ℕ → State
hears client bytes = record client { unread = client.unread ++ bytes }

-- its next line was taken, and waits for its answer
abbrev pub takes : State → State
takes client = record client { unread = drop_through 10 client.unread; waiting = client.waiting + 1 }

-- its next line was passed over
abbrev pub skips : State → State
skips client = record client { unread = drop_through 10 client.unread }

-- the first line that waited was answered by this text
abbrev pub answers : State → List ℕ → State
answers client text = record client { waiting = client.waiting - 1; to_say = client.to_say ++ text }

-- of all items those past as many as it was told; none where it does not watch
abbrev pub untold : {T : Type 0} → Option ℕ → List T → List T
untold None items = []
untold (Some told) items = drop told items

abbrev pub told_of : {T : Type 0} → Option ℕ → List T → Option ℕ
told_of None items = None
told_of (Some told) items = Some (max told (length items))

-- it was told the items that it had not been told, each by its line
abbrev pub tells : {T : Type 0} → (T → List ℕ) → State → List T → State
tells line client items = record client { to_say = client.to_say ++ flat_map line (untold client.told items); told = told_of client.told items }

-- items where it watches, and else none
abbrev pub heeded : {T : Type 0} → Option ℕ → List T → List T
heeded None items = []
heeded (Some told) items = items

abbrev pub told_more : {T : Type 0} → Option ℕ → List T → Option ℕ
told_more None items = None
told_more (Some told) items = Some (told + length items)

-- where it watches, it was told these items after those of before, each by its line
abbrev pub announces : {T : Type 0} → (T → List ℕ) → State → List T → State
announces line client items = record client { to_say = client.to_say ++ flat_map line (heeded client.told items); told = told_more client.told items }

-- so many of the bytes in front were sent to it
abbrev pub carries : State → ℕ → State
carries client count = record client { to_say = drop count client.to_say }

-- from now on it watches
abbrev pub watching : Option ℕ → Option ℕ
watching None = Some 0
watching (Some told) = Some told

abbrev pub watches : State → State
watches client = record client { told = watching client.told }

-- it said its last
abbrev pub leaves : State → State
leaves client = record client { is_leaving = true }

-- memory was refused
abbrev pub closes : State → State
closes client = record client { is_closed = true }
