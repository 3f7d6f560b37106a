-- Connections of sites that are not expected.
use Rattle.std.proofs.Common.{◌≡◌, ℕ, Bool, List, [], ◌++◌, Contains, Option, Some, None, refl, ap, sym, ◌∙◌, subst, MatchBool, true, false}
use Rattle.cmh_frames.specs.Wire.{hello, spelled}
use Rattle.cmh_frames.specs.declared.frame.Frame.{Frame}
use Rattle.cmh_journal.specs.Sink.{known_and}
use Rattle.cmh_reader.specs.Reader.{Reader, StandsFor}
use Rattle.cmh_reader.specs.Stream.{BeginsStrange, HasMore, sender_of}
use Rattle.cmh_reader.specs.declared.standing.Standing.TheVariants.{Stranger}
use Rattle.cmh_reader.proofs.Hellos.{one_hello}
use Rattle.cmh_reader.proofs.OneReading.{reads_once}
use Rattle.cmh_station.specs.declared.refusal.StationRefusal.{StationRefusal}
use Rattle.cmh_links.specs.declared.reading.ReaderEnd.{ReaderEnd}
use Rattle.cmh_links.specs.declared.reading.ReaderEnd.TheVariants.{NoLink, Refused, Closed}
use Rattle.cmh_links.specs.Reading.{EndedBy, Stopped}
use Rattle.cmh_links.proofs.Stopping.{from_sender}

-- a stream that begins with such a hello has no frames
no_more : (reader : Reader) (bytes : List ℕ) (all : List Frame) → BeginsStrange reader.edition reader.senders bytes → HasMore reader.edition reader.senders bytes all → ⊥
no_more reader bytes all strange more =
    let fs = spelled (all ++ more.more) in
    let same : hello reader.edition strange.site ++ strange.behind ≡ hello reader.edition more.sender ++ (fs ++ more.rest) =
    sym strange.whole ∙ more.splits.whole in
    let one : strange.site ≡ more.sender = (one_hello reader.edition strange.site more.sender strange.behind (fs ++ more.rest) strange.number more.splits.number same).0 in
    strange.unexpected (subst (λ (s : ℕ). Contains reader.senders s) (sym one) more.splits.expected)

no_sender : (reader : Reader) (bytes : List ℕ) (all : List Frame) → BeginsStrange reader.edition reader.senders bytes
    → MatchBool reader.starved (HasMore reader.edition reader.senders bytes all) (StandsFor reader bytes all) → sender_of reader.standing ≡ None
no_sender reader bytes all strange read = by reader.starved read
  where
    by : (starved : Bool) → MatchBool starved (HasMore reader.edition reader.senders bytes all) (StandsFor reader bytes all) → sender_of reader.standing ≡ None
    by false stands = ap sender_of (reads_once reader.edition reader.senders bytes all [] reader.standing Stranger stands (strange, refl)).1
    by true more = absurd (no_more reader bytes all strange more)

ended : (end : ReaderEnd) (reader : Reader) (got all : List Frame) (refused : Option StationRefusal) (over : Bool) (n m : ℕ) → sender_of reader.standing ≡ None → EndedBy end reader got all refused over n m → end ≡ NoLink
ended NoLink reader got all refused over n m none cause = refl
ended (Refused s) reader got all refused over n m none cause = let no : None ≡ Some s = sym none ∙ cause.1 in absurd (cc no)
ended (Closed s f) reader got all refused over n m none cause = let no : None ≡ Some s = sym none ∙ cause.0 in absurd (cc no)

pub turned_away : (end : ReaderEnd) (bytes : List ℕ) (reader : Reader) (accepted accepted' : Option (List (ℕ × Frame))) (refused : Option StationRefusal) (over : Bool) (n m : ℕ)
    → Stopped end bytes reader accepted accepted' refused over n m → BeginsStrange reader.edition reader.senders bytes
    → (end ≡ NoLink) × (accepted' ≡ known_and accepted [])
turned_away end bytes reader accepted accepted' refused over n m stopped strange =
    let none = no_sender reader bytes stopped.all strange stopped.read in (
      ended end reader stopped.got stopped.all refused over n m none stopped.cause,
      stopped.handed ∙ ap (λ (sender : Option ℕ). known_and accepted (from_sender sender stopped.got)) none,
    )
