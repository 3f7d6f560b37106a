use Rattle.std.proofs.Common.{take}
use Rattle.std.specs.Fmt.{HasWritten, IsPlainFormatter}
use Rattle.std.specs.List.{flat_map}
use Rattle.cmh_page3.specs.Pages.{site_text}
use Rattle.cmh_page3.proofs.topology_text.SitesTextDisplay.fmt.Given as goal

abbrev pub invariant-loop-site : goal.invariant-loop-site
invariant-loop-site g l =
    IsPlainFormatter l.initial.f → HasWritten g.W.Write.write_str_gives l.initial.f
    (flat_map (site_text l.initial.self.topology.now) (take l.site-index l.site-items)) l.f
