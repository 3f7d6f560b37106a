use Rattle.std.proofs.Common.{◌<◌, List, length, get_or, refl, sym, ap, subst, arith}
use Rattle.cmh_waits3.specs.declared.wait.Wait.{Wait}
use Rattle.cmh_waits3.specs.Held.{Held, row_in}
use Rattle.cmh_waits3.specs.Inner.Summaries.{IsSummary}
use Rattle.cmh_waits3.proofs.Members.{old_is}
use Rattle.cmh_waits3.proofs.site_waits.SiteWaits.summary.Goals as goal

pub returns : goal.returns
returns c =
    let ms = c.self.inside.members in
    let rows = c.self.inside.rows.items in
    let place = c.args.place in
    let same = ap (λ (v : Held). length v.members) c.self.view_is in
    let below = c.requires in
    let inside : place < length ms = omega (arith, same, below) in
    subst (λ (v : Held). IsSummary v.members (row_in v.members v.rows (get_or v.members place 0)) c.index.result.now) c.self.view_is
    (subst (λ (r : List Wait). IsSummary ms r c.index.result.now) (sym (old_is ms rows c.self.invariant.0 c.self.invariant.1 place (get_or ms place 0) inside refl))
    (c.self.invariant.2.each place c.index.result.now inside (sym c.index.ensures)))
