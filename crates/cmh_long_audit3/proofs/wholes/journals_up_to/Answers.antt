use Rattle.std.proofs.Common.{ℕ, ◌+◌, List, Vec, take, take_all, sym, subst}
use Rattle.std.specs.Global.{Global}
use Rattle.std.specs.List.{AllZip}
use Rattle.cmh_segment3.specs.declared.segment.Segment.{Segment}
use Rattle.cmh_long_audit3.specs.Wholes.{IsReadUpTo}
use Rattle.cmh_long_audit3.proofs.Zips.{all_files, file_lists, zip_more}
use Rattle.cmh_long_audit3.proofs.wholes.journals_up_to.Goals as goal

pub loop-i-preserved : goal.loop-i-preserved
loop-i-preserved c =
    let files = c.args.files.now in
    let last = c.args.last in
    let i = c.loop-i.i in
    let journal = c.in_ok-journal_up_to.field-0 in
    let one = subst (λ (fs : List (Vec ℕ Global)). IsReadUpTo last (all_files fs) journal) c.deref.ensures.value c.in_ok-journal_up_to.ensures.read in
    subst (λ (js : List (List Segment)). AllZip (IsReadUpTo last) (file_lists (take (i + 1) files)) js) (sym c.in_ok-push.ensures.items)
    (zip_more (IsReadUpTo last) (λ (segments : Vec (Vec ℕ Global) Global). all_files segments.items) files i c.index-files-i.result c.loop-i.journals.items journal c.loop-i-test.true c.index-files-i.is c.loop-i.invariant one)

pub returns-clause-read : goal.returns-clause-read
returns-clause-read c =
    subst (λ (fs : List (Vec (Vec ℕ Global) Global)). AllZip (IsReadUpTo c.args.last) (file_lists fs) c.loop-i.journals.items) (take_all c.loop-i.i c.args.files.now c.loop-i-test.false) c.loop-i.invariant
