-- What the loop of a reading thread did.
use Rattle.std.specs.Prelude.{◌≡◌, ℕ, ◌+◌, Bool, true, false, List, [], map, Option, Some, None, IsSome, ◌⊎◌, MatchBool, option_map}
use Rattle.std.specs.Option.{option_map_or}
use Rattle.cmh_frames.specs.declared.frame.Frame.{Frame}
use Rattle.cmh_controller.specs.declared.refusal.Refusal.TheVariants.{Memory as NoMemory}
use Rattle.cmh_reader.specs.Reader.{Reader, StandsFor, BeginsLink}
use Rattle.cmh_reader.specs.Stream.{HasMore, Reads, fault_of, sender_of}
use Rattle.cmh_reader.specs.declared.standing.Standing.{Standing}
use Rattle.cmh_reader.specs.declared.fault.ReadFault.{ReadFault}
use Rattle.cmh_reader.specs.declared.fault.ReadFault.TheVariants.{BadHello, BadFrame, WrongSite, Memory as Starved}
use Rattle.cmh_station.specs.declared.refusal.StationRefusal.{StationRefusal}
use Rattle.cmh_station.specs.declared.refusal.StationRefusal.TheVariants.{Rule}
use Rattle.cmh_carriers.specs.declared.table.LinkFault.{LinkFault}
use Rattle.cmh_carriers.specs.declared.table.LinkFault.TheVariants.{Read, Bad, Ended, Memory, Station}
use Rattle.cmh_links.specs.declared.reading.ReaderEnd.{ReaderEnd}
use Rattle.cmh_links.specs.declared.reading.ReaderEnd.TheVariants.{NoLink, Refused, Closed}
use Rattle.cmh_journal.specs.Sink.{known_and}
use Rattle.cmh_frames.specs.Runs.{IsBeginningOf}

-- the fault of a link whose step was refused
abbrev pub link_fault_of : StationRefusal → LinkFault
link_fault_of (Rule NoMemory) = Memory
link_fault_of (Rule refusal) = Bad
link_fault_of refusal = Station

-- the end of a connection whose hello was of this site
abbrev pub end_of : Option ℕ → LinkFault → ReaderEnd
end_of None fault = NoLink
end_of (Some site) fault = Closed site fault

-- the end at a fault of the stream, where `before` and `sender` are the site of the hello before the piece and behind
-- it
abbrev pub Faulted : Option ℕ → Option ℕ → ReaderEnd → Type 0
Faulted before sender end = (end ≡ end_of sender Bad) ⊎
    ((before ≡ None) × ((site : ℕ) × (sender ≡ Some site) × (end ≡ Refused site)))

-- the end at what a reader answered
abbrev pub FaultedBy : ReadFault → Option ℕ → Option ℕ → ReaderEnd → Type 0
FaultedBy BadHello before sender end = Faulted before sender end
FaultedBy (BadFrame offset) before sender end = Faulted before sender end
FaultedBy WrongSite before sender end = Faulted before sender end
FaultedBy Starved before sender end = end ≡ end_of before Memory

-- frames of a link, each with the site that it came from
abbrev pub from_site : ℕ → List Frame → List (ℕ × Frame)
from_site site fs = map (λ f. (site, f)) fs

-- all goes well: of the bytes read these are the frames, and they were handed over
pub record Goes (bytes : List ℕ) (fs : List Frame) (reader : Reader) (accepted accepted' : Option (List (ℕ × Frame)))
    (refused : Option StationRefusal) : Type 0 where
  pub stands : StandsFor reader bytes fs
  pub fed : reader.starved ≡ false
  pub handed : accepted' ≡ known_and accepted (option_map_or (λ site. from_site site fs) (sender_of reader.standing) [])
  pub willing : refused ≡ None

-- what was wrong with a connection of this fault, where no frame was refused
abbrev pub Failed : LinkFault → Reader → Bool → ℕ → ℕ → Type 0
Failed Memory reader over n m = reader.starved ≡ true
Failed Bad reader over n m = (reader.starved ≡ false) × IsSome (fault_of reader.standing)
Failed Ended reader over n m = (reader.starved ≡ false) × (fault_of reader.standing ≡ None) × (over ≡ true)
Failed Read reader over n m = (reader.starved ≡ false) × (fault_of reader.standing ≡ None) × (m ≡ n + 1)
Failed fault reader over n m = ⊥

-- why reading ended, at the frames handed over and all frames read
abbrev pub EndedBy : ReaderEnd → Reader → List Frame → List Frame → Option StationRefusal → Bool → ℕ → ℕ → Type 0
EndedBy NoLink reader got all refused over n m = (got ≡ []) × (sender_of reader.standing ≡ None)
    × ((fault : LinkFault) × Failed fault reader over n m)
EndedBy (Refused s) reader got all refused over n m = (got ≡ []) × (sender_of reader.standing ≡ Some s)
EndedBy (Closed s fault) reader got all refused over n m = (sender_of reader.standing ≡ Some s)
    × (((got ≡ all) × Failed fault reader over n m) ⊎ (option_map link_fault_of refused ≡ Some fault))

-- The frames that were accepted, all from the hello's site, begin those of the bytes read; where the bytes read begin
-- what an expected site writes, they begin what was sent. Where memory was refused, the bytes have more frames.
pub record Stopped (end : ReaderEnd) (bytes : List ℕ) (reader : Reader) (accepted accepted' : Option (List (ℕ × Frame)))
    (refused : Option StationRefusal) (over : Bool) (n m : ℕ) : Type 0 where
  pub got : List Frame
  pub all : List Frame
  pub handed : accepted' ≡ known_and accepted (option_map_or (λ site. from_site site got) (sender_of reader.standing) [])
  pub begins : IsBeginningOf got all
  pub read : MatchBool reader.starved (HasMore reader.edition reader.senders bytes all) (StandsFor reader bytes all)
  pub cause : EndedBy end reader got all refused over n m
  pub of_bytes : (frames : List Frame) (standing : Standing) → Reads reader.edition reader.senders bytes frames standing
      → IsBeginningOf got frames
  pub of_sent : (sent : List Frame) → BeginsLink reader.edition reader.senders bytes sent → IsBeginningOf got sent
