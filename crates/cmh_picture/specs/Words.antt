-- What a mark tells, in the words of its edition.
use Rattle.std.specs.Prelude.{ℕ, ◌==◌, List, [], length, ◌++◌, if◌then◌else◌, codes}
use Rattle.std.specs.Fmt.{decimal}
use Rattle.std.specs.Option.{option_map_or}
use Rattle.cmh_frames.specs.Texts as older
use Rattle.cmh_files.specs.EntryTexts as older_entries
use Rattle.cmh_model3.specs.declared.event.Event.{Event}
use Rattle.cmh_model3.specs.declared.event.Event.TheVariants.{Ask, Reply, Withdraw, Got, Turn}
use Rattle.cmh_script3.specs.Texts as newer
use Rattle.cmh_draw.specs.declared.mark.Declared.{Declared}
use Rattle.cmh_draw.specs.declared.mark.DrawnEvent.{DrawnEvent}
use Rattle.cmh_draw.specs.declared.mark.DrawnEvent.TheVariants as events
use Rattle.cmh_draw.specs.declared.mark.DrawnFrame.{DrawnFrame}
use Rattle.cmh_draw.specs.declared.mark.DrawnFrame.TheVariants as frames

abbrev pub frame_text : DrawnFrame → List ℕ
frame_text (frames.Older frame) = older.frame_text frame
frame_text (frames.Newer frame) = newer.frame_text frame

-- an ask of nobody is a start
abbrev pub ask_word : List ℕ → List ℕ
ask_word targets = if length targets == 0 then codes "start" else codes "ask"

-- of edition 3, but for the clocks
abbrev pub newer_text : Event → List ℕ
newer_text (Ask asker targets) = ask_word targets ++ codes " " ++ decimal asker ++ older.processes_text targets
newer_text (Reply holder asker) = codes "reply " ++ decimal holder ++ codes " " ++ decimal asker
newer_text (Withdraw asker targets) = codes "withdraw " ++ decimal asker ++ older.processes_text targets
newer_text (Got from clock frame) = codes "got " ++ newer.frame_text frame ++ codes " from " ++ decimal from
newer_text (Turn clock) = codes "turn"

abbrev pub event_text : DrawnEvent → List ℕ
event_text (events.Older event) = older_entries.event_text event
event_text (events.Newer event) = newer_text event

-- the process, and the stop at which its cycle stood, if one is told
abbrev pub declared_text : Declared → List ℕ
declared_text declared = codes "declared " ++ decimal declared.process
    ++ option_map_or (λ stop. codes " at " ++ decimal stop) declared.stop []
