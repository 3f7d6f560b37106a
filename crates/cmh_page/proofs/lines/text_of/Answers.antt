use Rattle.std.proofs.Common.{ℕ, List, Option, Vec, ◌++◌, map, sym, ap, ◌∙◌, subst, subst₂}
use Rattle.std.specs.Global.{Global}
use Rattle.std.specs.Prelude.{IfErr, string_bytes}
use Rattle.cmh_frames.specs.Runs.{ComeFromRun}
use Rattle.cmh_journal.specs.Journal.{Journal}
use Rattle.cmh_audit.specs.Stops.{AreStops}
use Rattle.cmh_audit.specs.Verdicts.{as_result}
use Rattle.cmh_files.specs.AuditTexts.{cuts_text, verdict_text}
use Rattle.cmh_files.specs.Explains.{AreReasons}
use Rattle.cmh_files.specs.Reasons.{held_before}
use Rattle.cmh_frames.proofs.ListLemmas.{joined}
use Rattle.cmh_page.specs.declared.fate.Fate.{Fate}
use Rattle.cmh_page.specs.Held.{fates_before, stops_in}
use Rattle.cmh_page.specs.Moments.{moments_text}
use Rattle.cmh_page.specs.Pages.{topology_text}
use Rattle.cmh_page.proofs.HeldLemmas.{come_before}
use Rattle.cmh_page.proofs.lines.text_of.Goals as goal

pub fates_before-requires : goal.fates_before-requires
fates_before-requires c =
    let audited = c.args.audited.now in
    subst₂ (λ (js : List Journal) (stops : List (ℕ × ℕ)). ComeFromRun audited.world (held_before js stops))
    (sym c.requires.listed) (sym c.stops_in.ensures)
    (come_before audited.world audited.journals.items audited.verdict c.requires.verdict)

pub reasons_of-requires : goal.reasons_of-requires
reasons_of-requires c =
    let audited = c.args.audited.now in
    subst (λ (js : List Journal). IfErr (as_result audited.verdict) (λ stops. AreStops audited.world js stops.rows))
    (sym c.requires.listed) c.requires.verdict.stops

pub returns : goal.returns
returns c =
    let audited = c.args.audited.now in
    let t = audited.world in
    let listed = c.args.listed.now in
    let steps = c.args.steps.now in
    let reasons = string_bytes c.in_ok-reasons.reasons in
    let told = cuts_text audited.cuts.items ++ verdict_text t.edition audited.verdict in
    let found = map (λ (row : Vec (Option Fate) Global). row.items) c.deref.result.now in
    let rows = ap (λ (rows : List (Vec (Option Fate) Global)). map (λ (row : Vec (Option Fate) Global). row.items) rows) c.deref.ensures.value
    ∙ c.in_ok-fates.ensures ∙ ap (λ (stops : List (ℕ × ℕ)). fates_before t stops listed) c.stops_in.ensures in
    record {
      reasons = reasons;
      are_reasons = subst (λ (js : List Journal). AreReasons t js audited.verdict reasons) c.requires.listed c.in_ok-reasons.ensures;
      are = c.in_ok-text.ensures.ok ∙ joined (topology_text t) (string_bytes c.in_ok-verdict.verdict) (moments_text listed found steps) reasons
          ∙ ap (λ (b : List ℕ). topology_text t ++ b ++ moments_text listed found steps ++ reasons) c.in_ok-verdict.ensures
          ∙ ap (λ (table : List (List (Option Fate))). topology_text t ++ told ++ moments_text listed table steps ++ reasons) rows
          ∙ ap (λ (js : List Journal). topology_text t ++ told ++ moments_text js (fates_before t (stops_in audited.verdict) js) steps ++ reasons) c.requires.listed;
    }
