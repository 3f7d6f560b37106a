use Rattle.std.proofs.Common.{◌≡◌, ◌++◌, take}
use Rattle.cmh_archive3.specs.Lines.{site_lines}
use Rattle.cmh_archive3.proofs.lines.add_site.Given as goal

abbrev pub invariant-loop-folder : goal.invariant-loop-folder
invariant-loop-folder l = l.lines.items ≡ l.initial.lines.items ++ site_lines l.newest (take l.folder-index l.folders) l.site
