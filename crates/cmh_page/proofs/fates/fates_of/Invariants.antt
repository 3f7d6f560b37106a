use Rattle.cmh_page.proofs.FateLemmas.{Following}
use Rattle.cmh_page.proofs.fates.fates_of.Given as goal

-- the controller has taken the entries so far
abbrev pub invariant-loop-entry : goal.invariant-loop-entry
invariant-loop-entry l = Following l.topology l.fn.site l.entries l.entry-index l.controller l.fates.items
