-- What a line of a client means to a service.
use Rattle.std.specs.Prelude.{◌≡◌, ℕ, Bool, List, if◌then◌else◌}
use Rattle.cmh_client.specs.Http.{speaks_http}
use Rattle.cmh_client.specs.declared.language.Meaning.{Meaning}
use Rattle.cmh_client.specs.declared.language.Meaning.TheVariants as meanings
use Rattle.cmh_console.specs.Dialogue.{line_in}
use Rattle.cmh_console.specs.declared.script.Line.TheVariants.{Command, Silent}
use Rattle.cmh_console.specs.declared.script.Command.TheVariants.{Act}
use Rattle.cmh_frames.specs.declared.event.Event.{Event as TheEvent}
use Rattle.cmh_talk.specs.Said.{WasSaid}
use Rattle.cmh_talk.specs.declared.said.Said.{Said}
use Rattle.cmh_talk.specs.declared.said.Said.TheVariants.{Event, Quit}

-- What is said is an event, silence, the last or a question. What is none of a service's lines is the last where it begins as one
-- of HTTP does.
abbrev pub meaning_of : Bool → Said → Meaning TheEvent Said
meaning_of is_http (Event Silent) = meanings.Silence
meaning_of is_http (Event (Command (Act process event))) = meanings.Event event
meaning_of is_http (Event line) = if is_http then meanings.Last else meanings.Question (Event line)
meaning_of is_http Quit = meanings.Last
meaning_of is_http said = meanings.Question said

pub record MeansHere (line : List ℕ) (meaning : Meaning TheEvent Said) : Type 0 where
  pub said : Said
  pub says : WasSaid (line_in line) said
  pub is : meaning ≡ meaning_of (speaks_http line) said
