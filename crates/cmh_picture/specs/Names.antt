-- What each mark stands for, in words.
use Rattle.std.specs.Prelude.{ℕ, List, [], ◌++◌, codes}
use Rattle.std.specs.Fmt.{decimal}
use Rattle.std.specs.Option.{option_map_or}
use Rattle.cmh_draw.specs.declared.mark.EntrySpot.{EntrySpot}
use Rattle.cmh_draw.specs.declared.mark.Mark.{Mark}
use Rattle.cmh_draw.specs.declared.mark.Mark.TheVariants.{Site, Process, Wait, Released, Leaving, Entry, Arrow, Stop}
use Rattle.cmh_picture.specs.Words.{declared_text, event_text, frame_text}

abbrev pub entry_name : EntrySpot → List ℕ
entry_name at = codes "site " ++ decimal at.site ++ codes " entry " ++ decimal at.number

abbrev pub name_of : Mark → List ℕ
name_of (Site of) = codes "site " ++ decimal of.site
name_of (Process of) = codes "process " ++ decimal of.process ++ codes " at site " ++ decimal of.site
name_of (Wait wait) = decimal wait.asker ++ codes " waits for " ++ decimal wait.holder
name_of (Released of) =
    codes "process " ++ decimal of.process ++ codes " at site " ++ decimal of.site ++ codes ": its cycle was left"
name_of (Leaving wait) = decimal wait.asker ++ codes " gave up its wait for " ++ decimal wait.holder
name_of (Entry entry) =
    entry_name entry.at ++ codes ": " ++ event_text entry.event
    ++ option_map_or (λ declared. codes " " ++ declared_text declared) entry.declared []
name_of (Arrow arrow) =
    frame_text arrow.frame ++ codes " from " ++ entry_name arrow.from ++ codes " to site " ++ decimal arrow.to
    ++ option_map_or (λ got. codes " entry " ++ decimal got.number) arrow.got (codes ": lost or waiting")
name_of (Stop at) = codes "site " ++ decimal at.site ++ codes " stops at entry " ++ decimal at.number
