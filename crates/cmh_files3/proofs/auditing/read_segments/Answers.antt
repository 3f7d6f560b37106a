use Rattle.std.proofs.Common.{ℕ, List, Vec, ◌++◌, map, ap, sym, subst, ◌∙◌}
use Rattle.std.specs.Global.{Global}
use Rattle.cmh_segment3.specs.Segment.{IsSegmentOf}
use Rattle.cmh_audit3.specs.Files.{IsFaultOfFile}
use Rattle.cmh_files3.specs.Audits.{IsFaultOfFiles}
use Rattle.cmh_files3.specs.Inner.Cuts.{cut_at}
use Rattle.cmh_files3.specs.declared.audit_fault.AuditFault.{AuditFault}
use Rattle.cmh_files3.proofs.FileLemmas.{fault_found, read_more, read_same}
use Rattle.cmh_files3.proofs.auditing.read_segments.Goals as goal

pub loop-i-preserved : goal.loop-i-preserved
loop-i-preserved c =
    let segment = c.in-Ok.segment in
    let after = c.in-Ok.after in
    let is_file = subst (λ (bytes : List ℕ). IsSegmentOf segment after bytes) c.deref.ensures.value c.in-Ok.ensures.ok in
    let cuts = c.in_ok-note_cut-in-Ok.ensures ∙ ap (λ (s : ℕ). c.loop-i.cuts.items ++ cut_at s after) c.site_of.ensures in
    read_same _ _ _ _ _ c.in_ok-push-in-Ok.ensures.items cuts
    (read_more (λ (file : Vec ℕ Global). file.items) c.args.files.now c.loop-i.i c.index-files-i.result c.loop-i.segments.items c.loop-i.cuts.items segment after
    c.loop-i-test.true c.index-files-i.is c.loop-i.invariant is_file)

pub returns-in-Err-clause-fault : goal.returns-in-Err-clause-fault
returns-in-Err-clause-fault c =
    subst (λ (fault : AuditFault). IsFaultOfFiles (map (λ (file : Vec ℕ Global). file.items) c.args.files.now) fault) (sym c.of_file.ensures)
    (fault_found (λ (file : Vec ℕ Global). file.items) c.args.files.now c.loop-i.i c.index-files-i.result c.loop-i.segments.items c.loop-i.cuts.items c.in-Err.fault
    c.loop-i-test.true c.index-files-i.is c.loop-i.invariant
    (subst (λ (bytes : List ℕ). IsFaultOfFile bytes c.in-Err.fault) c.deref.ensures.value c.in-Err.ensures.fault))
