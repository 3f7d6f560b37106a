use Rattle.std.proofs.Common.{◌≡◌, ◌++◌, ◌∷◌, [], ℕ, List, Vec, map, sym, subst, ap, ◌∙◌, append-nil}
use Rattle.std.specs.Global.{Global}
use Rattle.cmh_journal.specs.File.{IsFileOf, IsFault}
use Rattle.cmh_files.specs.Inner.Parts.{IsFaultOfFiles}
use Rattle.cmh_files.specs.declared.audit_fault.AuditFault.{AuditFault}
use Rattle.cmh_files.proofs.FileLemmas.{cut_at, fault-found, read-more, read-same}
use Rattle.cmh_files.proofs.auditing.read_journals.Goals as goal
use Rattle.cmh_files.proofs.auditing.read_journals.Goals.{in-Cut+in_ok-push-in-Ok, in_default}

pub loop-i-preserved : goal.loop-i-preserved
loop-i-preserved c =
    let journal = c.in-Ok.journal in
    let tail = c.in-Ok.tail in
    let is_file : IsFileOf journal tail c.index-files-i.result.items =
    subst (λ (bytes : List ℕ). IsFileOf journal tail bytes) c.deref.ensures.value c.in-Ok.ensures.ok in
    let more = read-more (λ file. file.items) c.args.files.now c.loop-i.i c.index-files-i.result c.loop-i.journals.items c.loop-i.cuts.items journal tail
    c.loop-i-test.true c.index-files-i.is c.loop-i.invariant is_file in
    let cuts : c.match-tail.cuts.items ≡ c.loop-i.cuts.items ++ cut_at journal.site tail = elim c.match-tail.branch [
      | in-Cut+in_ok-push-in-Ok w ↦
          ap (λ (v : Vec (ℕ × ℕ) Global). v.items) w.cuts-is
          ∙ w.in_ok-push-in-Ok.ensures.items
          ∙ ap (λ (l : List (ℕ × ℕ)). c.loop-i.cuts.items ++ l)
          (ap (λ (s : ℕ). (s, w.in-Cut.bytes) ∷ []) w.site.ensures ∙ ap (cut_at journal.site) (sym w.in-Cut.is))
      | in_default w ↦
          ap (λ (v : Vec (ℕ × ℕ) Global). v.items) w.cuts-is
          ∙ sym (append-nil c.loop-i.cuts.items)
          ∙ ap (λ (l : List (ℕ × ℕ)). c.loop-i.cuts.items ++ l) (ap (cut_at journal.site) (sym w.in_default.is))
    ] in
    read-same _ _ _ _ _ c.in_ok-push-in-Ok-2.ensures.items cuts more

pub returns-in-Err-clause-fault : goal.returns-in-Err-clause-fault
returns-in-Err-clause-fault c =
    subst (λ (fault : AuditFault). IsFaultOfFiles (map (λ (file : Vec ℕ Global). file.items) c.args.files.now) fault) (sym c.of_journal.ensures)
    (fault-found (λ (file : Vec ℕ Global). file.items) c.args.files.now c.loop-i.i c.index-files-i.result c.loop-i.journals.items c.loop-i.cuts.items c.in-Err.fault
    c.loop-i-test.true c.index-files-i.is c.loop-i.invariant
    (subst (λ (bytes : List ℕ). IsFault bytes c.in-Err.fault) c.deref.ensures.value c.in-Err.ensures.fault))
