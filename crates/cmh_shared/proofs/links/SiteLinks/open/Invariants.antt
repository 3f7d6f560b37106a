use Rattle.std.proofs.Common.{◌≡◌, ◌≤◌, vec_len, vec_capacity, length, take, map}
use Rattle.cmh_shared.specs.Backlogs.{seen}
use Rattle.std.specs.List.{AllZip}
use Rattle.cmh_shared.specs.Links.{AreFresh, ends_of}
use Rattle.cmh_shared.proofs.links.SiteLinks.open.Given as goal

abbrev pub invariant-loop-site : goal.invariant-loop-site
invariant-loop-site g l = record {
  count : vec_len l.links ≡ l.site-index;
  count_taps : vec_len l.taps ≡ l.site-index;
  room : length l.sites ≤ vec_capacity l.links;
  room_taps : length l.sites ≤ vec_capacity l.taps;
  to : ends_of (map seen l.links.items) ≡ take l.site-index l.sites;
  fresh : AllZip (λ a b. AreFresh (seen a) b) l.links.items l.taps.items;
}
