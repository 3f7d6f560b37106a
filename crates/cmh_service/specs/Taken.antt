-- What a station answered to the events of a round.
use Rattle.std.specs.Prelude.{List, ⊤}
use Rattle.cmh_frames.specs.declared.event.Event.{Event}
use Rattle.cmh_talk.specs.Together.{AreTaken}
use Rattle.cmh_service.specs.declared.host.Together.{Together}
use Rattle.cmh_service.specs.declared.host.Together.TheVariants.{Each, Disk, Alone}

-- where answers came, they are those of steps
abbrev pub WereTaken : List Event → Together → Type 0
WereTaken events (Each answers) = AreTaken events answers.items
WereTaken events Disk = ⊤
WereTaken events Alone = ⊤
