use Rattle.std.proofs.Common.{◌≡◌, ◌+◌, ◌++◌, drop}
use Rattle.std.specs.Prelude.{map}
use Rattle.cmh_draw.specs.Arrows as spec
use Rattle.cmh_draw.specs.Each.{each_from}
use Rattle.cmh_frames.specs.Journals.{frame_from}
use Rattle.cmh_frames.specs.Entries.{Entry}
use Rattle.cmh_draw.proofs.arrows.got_from.Given as goal

abbrev pub invariant-loop-i : goal.invariant-loop-i
invariant-loop-i l =
    l.all.items ++ each_from (λ number (e : Entry). map (λ frame. number) (frame_from l.site e.event)) (l.i + 1) (drop l.i l.entries)
    ≡ spec.got_from l.site l.entries
