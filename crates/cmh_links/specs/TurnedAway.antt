-- Connections that a site turns away.
use Rattle.std.specs.Prelude.{◌≡◌, ℕ, nat_le, Bool, List, [], Option}
use Rattle.cmh_frames.specs.declared.frame.Frame.{Frame}
use Rattle.cmh_journal.specs.Sink.{known_and}
use Rattle.cmh_reader.specs.Reader.{Reader}
use Rattle.cmh_reader.specs.Stream.{BeginsStrange}
use Rattle.cmh_station.specs.declared.refusal.StationRefusal.{StationRefusal}
use Rattle.cmh_links.specs.declared.reading.ReaderEnd.{ReaderEnd}
use Rattle.cmh_links.specs.declared.reading.ReaderEnd.TheVariants.{NoLink}
use Rattle.cmh_links.specs.Reading.{Stopped}

-- how many connections of a site stand at once
abbrev pub connection_limit : ℕ
connection_limit = 256

-- while so many stand, the next one is turned away
abbrev pub is_turned_away : ℕ → Bool
is_turned_away standing = nat_le connection_limit standing

-- A connection whose bytes begin with the hello of a site that isn't expected got no link, and none of its bytes was
-- handed over.
abbrev pub StrangersAreTurnedAway : Type 0
StrangersAreTurnedAway = (end : ReaderEnd) (bytes : List ℕ) (reader : Reader)
    (accepted accepted' : Option (List (ℕ × Frame))) (refused : Option StationRefusal) (over : Bool) (n m : ℕ)
    → Stopped end bytes reader accepted accepted' refused over n m → BeginsStrange reader.edition reader.senders bytes
    → (end ≡ NoLink) × (accepted' ≡ known_and accepted [])
