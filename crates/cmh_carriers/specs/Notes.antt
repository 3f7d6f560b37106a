-- The lines of notes.
use Rattle.std.specs.Prelude.{ℕ, List, ◌++◌, codes}
use Rattle.std.specs.Fmt.{decimal}
use Rattle.cmh_carriers.specs.Table.{number_of, state_text}
use Rattle.cmh_carriers.specs.declared.note.Note.{Note}
use Rattle.cmh_carriers.specs.declared.note.Note.TheVariants.{RefusedHello, StrangeHello, NoHello, TurnedAway, Unread, ClosedOut, ClosedIn, AcceptingEnded, NoThread, NoThreadTo, Sealed, Kept, LeftOut}
use Rattle.cmh_carriers.specs.declared.note.Origin.{Origin}
use Rattle.cmh_carriers.specs.declared.note.Origin.TheVariants.{Alone, Site}

abbrev pub note_text : Note → List ℕ
note_text (RefusedHello site state) = codes "refused a hello of site " ++ (decimal site ++ (codes ": its link is " ++ state_text state))
note_text StrangeHello = codes "refused a hello of no other site"
note_text NoHello = codes "closed a connection without a hello"
note_text TurnedAway = codes "turned a connection away"
note_text (Unread site count) = codes "shut the link to " ++ (decimal site ++ (codes ": " ++ (decimal count ++ codes " frames wait")))
note_text (ClosedOut site fault) = codes "out " ++ decimal site ++ codes " closed " ++ decimal (number_of fault)
note_text (ClosedIn site fault) = codes "in " ++ decimal site ++ codes " closed " ++ decimal (number_of fault)
note_text AcceptingEnded = codes "accepting ended"
note_text NoThread = codes "no thread for a connection"
note_text (NoThreadTo site) = codes "no thread for the link to " ++ decimal site
note_text Sealed = codes "the journal is sealed"
note_text (Kept number) = codes "kept the old journal as ." ++ decimal number
note_text (LeftOut count) = codes "left out " ++ decimal count

-- the whole line of a note, with its site where there are several
abbrev pub noted_text : Origin → Note → List ℕ
noted_text Alone note = codes "note " ++ note_text note
noted_text (Site site) note = codes "note at " ++ decimal site ++ codes " " ++ note_text note
