use Rattle.std.proofs.Common.{◌≡◌, take}
use Rattle.cmh_archive3.specs.Listing.{newest_segments}
use Rattle.cmh_archive3.proofs.listing.check_folders.Given as goal

abbrev pub invariant-loop-folder : goal.invariant-loop-folder
invariant-loop-folder l = l.segments.items ≡ newest_segments (take l.folder-index l.folders)
