use Rattle.std.proofs.Common.{take_all, ap, subst, arith}
use Rattle.cmh_audit.specs.Journals.{entry_count}
use Rattle.cmh_audit.specs.Totals.{AreWithinLimit}
use Rattle.cmh_audit.proofs.CountingLemmas.{counting_start, counting_more}
use Rattle.cmh_audit.proofs.count.count_entries.Goals as goal

pub loop-journal-init : goal.loop-journal-init
loop-journal-init c = counting_start

pub overflow_add-count : goal.overflow_add-count
overflow_add-count c =
    let most = c.loop-journal.invariant.most in
    let few = c.len.ensures.limited in
    let all = c.requires in
    let within = c.loop-journal-test.true in
    omega (arith, most, few, all, within)

pub loop-journal-preserved : goal.loop-journal-preserved
loop-journal-preserved c =
    counting_more c.args.journals.now c.loop-journal.journal-index c.loop-journal.count c.journal-item.result c.len.result c.loop-journal-test.true c.journal-item.is c.loop-journal.invariant c.len.ensures.value c.len.ensures.limited

pub returns-clause-value : goal.returns-clause-value
returns-clause-value c =
    let all = ap entry_count (take_all c.loop-journal.journal-index c.args.journals.now c.loop-journal-test.false) in
    let now = c.loop-journal.invariant.entries in
    omega (arith, all, now)

pub returns-clause-limited : goal.returns-clause-limited
returns-clause-limited c = let most = c.loop-journal.invariant.most in let end = c.loop-journal.auto.journal-index-end in omega (arith, most, end)

pub returns-clause-within : goal.returns-clause-within
returns-clause-within c = subst AreWithinLimit (take_all c.loop-journal.journal-index c.args.journals.now c.loop-journal-test.false) c.loop-journal.invariant.within
