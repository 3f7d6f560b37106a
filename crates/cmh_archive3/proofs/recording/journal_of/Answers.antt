use Rattle.std.proofs.Common.{ℕ, ◌+◌, List, Vec, map, take, sym, subst}
use Rattle.std.specs.Global.{Global}
use Rattle.cmh_archive3.specs.Recording.{AreSummaries}
use Rattle.cmh_archive3.specs.Summaries.{IsSummaryOf}
use Rattle.cmh_archive3.specs.declared.summary.Summary.{Summary}
use Rattle.cmh_archive3.proofs.Lists.{zip_more}
use Rattle.cmh_archive3.proofs.recording.journal_of.Goals as goal

pub loop-bytes-preserved : goal.loop-bytes-preserved
loop-bytes-preserved c =
    let files = c.args.files.now in
    let i = c.loop-bytes.bytes-index in
    let s = c.in-Ok.summary in
    let one : IsSummaryOf s c.bytes-item.result.items = subst (λ (bytes : List ℕ). IsSummaryOf s bytes) c.deref.ensures.value c.in-Ok.ensures.ok in
    subst (λ (ss : List Summary). AreSummaries (map (λ (file : Vec ℕ Global). file.items) (take (i + 1) files)) ss) (sym c.in_ok-push-in-Ok.ensures.items)
    (zip_more (λ (file : List ℕ) (segment : Summary). IsSummaryOf segment file) (λ (file : Vec ℕ Global). file.items) files i c.bytes-item.result c.loop-bytes.segments.items s
    c.loop-bytes-test.true c.bytes-item.is c.loop-bytes.invariant one)
