use Rattle.std.proofs.Common.{◌≡◌, ap, ◌∙◌, sym, subst, ◌==◌, ◌≤◌, length}
use Rattle.std.specs.List.{list_any}
use Rattle.std.specs.List.Sorted.{IsStrictlyIncreasing}
use Rattle.cmh_frames.specs.Inner.Kept.{members_in}
use Rattle.cmh_frames.proofs.Built.{members_at_few, members_at_rise}
use Rattle.cmh_frames.proofs.Homes.{at_home}
use Rattle.cmh_topology3.specs.Topology.{Topology, site_of}
use Rattle.cmh_topology3.proofs.AtSites.{at_site}
use Rattle.cmh_topology3.proofs.topology.Topology.members.Goals as goal

pub returns-clause-at_home : goal.returns-clause-at_home
returns-clause-at_home c p =
    let members : c.members_in.result.now ≡ members_in c.self.inside.rows.items c.args.site =
    c.members_in.ensures ∙ ap (λ rows. members_in rows c.args.site) c.deref.ensures.value in
    ap (list_any (λ q. q == p)) members
    ∙ at_site c.self.inside.rows.items c.args.site p (subst (λ n. 1 ≤ n) c.get-number.ensures.value c.get-number.ensures.number.least) (at_home c.self.inside.rows.items c.args.site p c.self.invariant.0.apart)
    ∙ ap (λ (t : Topology). site_of t p == c.args.site) c.self.view_is

pub returns-clause-ascending : goal.returns-clause-ascending
returns-clause-ascending c =
    let members : c.members_in.result.now ≡ members_in c.self.inside.rows.items c.args.site =
    c.members_in.ensures ∙ ap (λ rows. members_in rows c.args.site) c.deref.ensures.value in
    subst IsStrictlyIncreasing (sym members) (members_at_rise c.self.inside.rows.items c.args.site c.self.invariant.0.members_ascend)

pub returns-clause-few : goal.returns-clause-few
returns-clause-few c =
    let members : c.members_in.result.now ≡ members_in c.self.inside.rows.items c.args.site =
    c.members_in.ensures ∙ ap (λ rows. members_in rows c.args.site) c.deref.ensures.value in
    let few = members_at_few 256 c.self.inside.rows.items c.args.site c.self.invariant.0.few_members in
    subst (λ ps. length ps ≤ 256) (sym members) few
