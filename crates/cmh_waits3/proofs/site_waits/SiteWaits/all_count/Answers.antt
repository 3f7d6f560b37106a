use Rattle.std.proofs.Common.{◌∙◌, sym, subst}
use Rattle.cmh_waits3.specs.Held.{Held}
use Rattle.cmh_waits3.specs.Inner.Steps.{DoAllCount}
use Rattle.cmh_waits3.proofs.NoYounger.{all_do_count}
use Rattle.cmh_waits3.proofs.site_waits.SiteWaits.all_count.Goals as goal

pub returns : goal.returns
returns c = λ yes.
    let w = c.self.inside in
    subst (λ (v : Held). DoAllCount v c.args.stamp c.args.origin) c.self.view_is
    (all_do_count w.members w.rows.items c.args.stamp c.args.origin w.youngest.stamp w.youngest.asker c.self.invariant.0 c.self.invariant.1 c.self.invariant.4 (sym c.counts.ensures ∙ yes))
