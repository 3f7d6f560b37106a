-- The frames that were sent.
use Rattle.std.specs.Prelude.{ℕ, length}
use Rattle.cmh_frames.specs.Entries.{Entry}

-- how many frames an entry sent
abbrev pub sent_count : Entry → ℕ
sent_count e = length e.sent
