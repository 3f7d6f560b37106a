use Rattle.std.proofs.Common.{◌≡◌, List, refl, sym, subst}
use Rattle.std.specs.List.{All}
use Rattle.std.proofs.lemmas.List.Elements.{All-map}
use Rattle.cmh_frames.specs.Rows.{Row}
use Rattle.cmh_topology3.specs.Topology.{IsTopologyOf}
use Rattle.cmh_segment3.specs.Base.{IsBase}
use Rattle.cmh_segment3.specs.declared.segment.Segment.{Segment}
use Rattle.cmh_restore3.specs.Restored.{restored}
use Rattle.cmh_restore3.proofs.Beginnings.{says_topology}
use Rattle.cmh_restore3.proofs.restoring.beginning_of.Goals as goal

pub returns-clause-begins : goal.returns-clause-begins
returns-clause-begins g c =
    let world = c.in_ok-world.world in
    let topology_is = subst (λ (rows : List Row). IsTopologyOf c.in_ok-file.file.world rows world) c.deref.ensures.value c.in_ok-world.ensures.ok in
    record {
      heads = c.in_ok-heads.heads.items;
      restorable = record {
        says = says_topology _ _ _ _ c.in_ok-file.ensures.says topology_is;
        named = c.in_ok-heads.ensures.named;
        can = c.in_ok-segments.ensures.can;
        lacks = subst (All (g.K.NewJournals.lacks c.args.keeper.now)) c.sites.ensures.value c.in_ok-see_none.ensures;
      };
      segments_are = c.in_ok-segments.ensures.restored;
    }

pub returns-clause-bases : goal.returns-clause-bases
returns-clause-bases g c =
    let at = (λ (s : Segment). IsBase s.base) in
    subst (All at) (sym c.in_ok-segments.ensures.restored)
    (All-map at (restored c.in_ok-world.world c.args.start.now.epoch) c.in_ok-heads.heads.items c.in_ok-heads.ensures.bases)

pub returns-clause-headers : goal.returns-clause-headers
returns-clause-headers g c =
    let at = (λ (s : Segment). s.header.before ≡ 0) in
    subst (All at) (sym c.in_ok-segments.ensures.restored)
    (All-map at (restored c.in_ok-world.world c.args.start.now.epoch) c.in_ok-heads.heads.items (λ k d inside. refl))
