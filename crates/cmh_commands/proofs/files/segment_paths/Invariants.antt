use Rattle.std.proofs.Common.{◌≡◌, ◌++◌, drop, map, string_bytes, Some}
use Rattle.cmh_commands.specs.Paths.{shown_paths}
use Rattle.cmh_commands.proofs.files.segment_paths.Given as goal

abbrev pub invariant-loop-folder : goal.invariant-loop-folder
invariant-loop-folder l =
    map string_bytes l.paths.items ++ shown_paths (Some l.epoch) (map (λ folder. folder.now) (drop l.folder-index l.folders))
    ≡ shown_paths (Some l.epoch) (map (λ folder. folder.now) l.folders)
