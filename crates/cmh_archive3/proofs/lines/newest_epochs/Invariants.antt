use Rattle.std.proofs.Common.{◌≡◌, take}
use Rattle.cmh_archive3.specs.Lines.{newest_in}
use Rattle.cmh_archive3.proofs.lines.newest_epochs.Given as goal

abbrev pub invariant-loop-folder : goal.invariant-loop-folder
invariant-loop-folder l = l.newest.items ≡ newest_in (take l.folder-index l.folders)
