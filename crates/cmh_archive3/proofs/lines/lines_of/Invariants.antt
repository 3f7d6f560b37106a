use Rattle.std.proofs.Common.{◌≡◌, take}
use Rattle.std.specs.Prelude.{flat_map}
use Rattle.cmh_archive3.specs.Lines.{site_lines}
use Rattle.cmh_archive3.proofs.lines.lines_of.Given as goal

abbrev pub invariant-loop-site : goal.invariant-loop-site
invariant-loop-site l = l.lines.items ≡ flat_map (site_lines l.newest.items l.folders) (take l.site-index l.sites)
