use Rattle.std.proofs.Common.{◌+◌, sym, subst}
use Rattle.cmh_page.proofs.FateLemmas.{Following, can_take, follows_on}
use Rattle.cmh_page.proofs.fates.fates_of.Goals as goal

pub take-requires : goal.take-requires
take-requires c =
    can_take c.args.topology.now c.args.site c.args.entries.now c.loop-entry.entry-index c.entry-item.result c.loop-entry.controller
    c.loop-entry-test.true c.entry-item.is c.requires c.loop-entry.invariant.replaying

pub loop-entry-preserved : goal.loop-entry-preserved
loop-entry-preserved c =
    subst (Following c.args.topology.now c.args.site c.args.entries.now (c.loop-entry.entry-index + 1) _) (sym c.in_ok-push.ensures.items)
    (follows_on c.args.topology.now c.args.site c.args.entries.now c.loop-entry.entry-index c.entry-item.result c.loop-entry.controller _
    c.loop-entry.fates.items c.in_ok-fate.fate c.loop-entry-test.true c.entry-item.is c.requires c.loop-entry.invariant
    c.in_ok-fate.ensures.fate c.in_ok-fate.ensures.steps)
