use Rattle.std.proofs.Common.{ℕ, ◌+◌, List, length, map, take, sym, subst, ap, ◌∙◌}
use Rattle.cmh_topology3.specs.Topology.{sites_of}
use Rattle.cmh_segment3.specs.declared.entry.Entry.{Entry}
use Rattle.cmh_audit3.specs.Journals.{journal_of}
use Rattle.cmh_draw.specs.Inner.Columns.{AreColumns}
use Rattle.cmh_draw.proofs.ColumnLemmas.{columns_more}
use Rattle.cmh_draw3.proofs.columns.columns_of.Goals as goal

pub loop-row-preserved : goal.loop-row-preserved
loop-row-preserved c =
    subst (λ (all : List (List ℕ)). AreColumns (map (λ site. length (journal_of c.args.segments.now site)) (take (c.loop-row.row + 1) (sites_of c.args.topology.now))) all)
    (sym c.in_ok-push.ensures.items)
    (columns_more (λ site. length (journal_of c.args.segments.now site)) c.sites-site-items.result.now (sites_of c.args.topology.now) c.sites-site-items.ensures.value
    c.loop-row.row c.site-item.result c.loop-row.all.items c.in_ok-columns.columns c.loop-row-test.true c.site-item.is c.loop-row.invariant
    (c.in_ok-columns.ensures.length ∙ ap (λ (l : List Entry). length l) c.entries_at-count.ensures)
    c.in_ok-columns.ensures.ascending)
