use Rattle.std.proofs.Common.{ℕ, ◌+◌, List, [], ◌∷◌, Vec, map, take, sym, subst}
use Rattle.std.proofs.lemmas.List.{map-append}
use Rattle.std.specs.Global.{Global}
use Rattle.std.specs.List.{AllZip}
use Rattle.cmh_archive3.specs.Recording.{AreSummaries}
use Rattle.cmh_archive3.specs.declared.summary.Summary.{Summary}
use Rattle.cmh_archive3.proofs.Lists.{zip_more}
use Rattle.cmh_archive3.proofs.recording.summaries_of.Goals as goal

abbrev bytes_of : List (Vec ℕ Global) → List (List ℕ)
bytes_of files = map (λ (file : Vec ℕ Global). file.items) files

abbrev lists : List (Vec Summary Global) → List (List Summary)
lists journals = map (λ (segments : Vec Summary Global). segments.items) journals

abbrev AreRead : List (Vec (Vec ℕ Global) Global) → List (List Summary) → Type 0
AreRead files journals = AllZip AreSummaries (map (λ (segments : Vec (Vec ℕ Global) Global). bytes_of segments.items) files) journals

pub loop-segments-preserved : goal.loop-segments-preserved
loop-segments-preserved c =
    let files = c.args.files.now in
    let i = c.loop-segments.segments-index in
    let so_far = c.loop-segments.journals.items in
    let journal = c.in_ok-journal_of.field-0 in
    let one = subst (λ (fs : List (Vec ℕ Global)). AreSummaries (bytes_of fs) journal.items) c.deref.ensures.value c.in_ok-journal_of.ensures in
    subst (λ (js : List (Vec Summary Global)). AreRead (take (i + 1) files) (lists js)) (sym c.in_ok-push.ensures.items)
    (subst (λ (js : List (List Summary)). AreRead (take (i + 1) files) js) (sym (map-append (λ (segments : Vec Summary Global). segments.items) so_far (journal ∷ [])))
    (zip_more AreSummaries (λ (segments : Vec (Vec ℕ Global) Global). bytes_of segments.items) files i c.segments-item.result (lists so_far) journal.items
    c.loop-segments-test.true c.segments-item.is c.loop-segments.invariant one))
