use Rattle.std.proofs.Common.{ap, ◌∙◌}
use Rattle.std.specs.Prelude.{string_bytes}
use Rattle.cmh_audit3.specs.Journals.{journal_of}
use Rattle.cmh_files3.specs.Inner.Taken.{taken_at}
use Rattle.cmh_files3.proofs.RunLineLemmas.{line_more, line_none, taken_more}
use Rattle.cmh_files3.proofs.run_lines.run_lines.Goals as goal
use Rattle.cmh_files3.proofs.run_lines.run_lines.Goals.{in-Some+in_ok-write, in_default}

pub loop-site-preserved : goal.loop-site-preserved
loop-site-preserved c =
    let order = c.args.order.now in
    let i = c.loop-site.site-index in
    let site = c.site-item.result in
    let so_far = c.loop-site.invariant in
    record {
      counts = taken_more order i site c.loop-site-test.true c.site-item.is c.loop-site.taken c.take.new.self so_far.counts c.in_ok-number.ensures.counts;
      text = elim c.match-entry_at.branch [
        | in-Some+in_ok-write w ↦
            ap string_bytes w.text-is
            ∙ line_more order i site c.loop-site-test.true c.site-item.is (journal_of c.args.segments.now) (taken_at c.loop-site.taken site) c.in_ok-number.number w.in-Some.entry.now
            (so_far.counts site) c.in_ok-number.ensures.number w.in-Some.ensures _ _ so_far.text w.in_ok-write.ensures.bytes
        | in_default w ↦
            ap string_bytes w.text-is
            ∙ line_none order i site c.loop-site-test.true c.site-item.is (journal_of c.args.segments.now) (taken_at c.loop-site.taken site) c.in_ok-number.number
            (so_far.counts site) c.in_ok-number.ensures.number w.in_default.ensures _ so_far.text
      ];
    }
