use Rattle.std.proofs.Common.{◌≡◌, ℕ, ◌≤◌, List, ◌++◌, length, ap, ◌∙◌, append_assoc, rules, string_bytes, subst, sym}
use Rattle.std.specs.Prelude.{◌↔◌, IfErr, IfOk}
use Rattle.cmh_segment3.specs.declared.segment.Segment.{Segment}
use Rattle.cmh_audit3.specs.Journals.{ComeFromRun, journal_of}
use Rattle.cmh_audit3.specs.Stops.{AreStops}
use Rattle.cmh_audit3.specs.Verdicts.{IsAccepted, IsOrderOf, as_result}
use Rattle.cmh_files.specs.AuditTexts.{cuts_text}
use Rattle.cmh_files3.specs.Audits.{finding_text}
use Rattle.cmh_files3.specs.RunLines.{order_text}
use Rattle.cmh_page.specs.Pages.{event_limit}
use Rattle.cmh_page3.specs.Pages.{topology_text}
use Rattle.cmh_page3.specs.Told.{AreReasons, told_order}
use Rattle.cmh_page3.proofs.lines.lines_of.Goals as goal

pub returns-clause-tells : goal.returns-clause-tells
returns-clause-tells c =
    let t = c.in_ok-world.field-0.topology in
    let segments = c.in_ok-world.field-0.segments.items in
    let cuts = c.in_ok-world.field-0.cuts.items in
    let verdict = c.in_ok-verdict.verdict in
    let finding = c.in_ok-finding.finding in
    let head = string_bytes c.in_ok-head.head in
    let entries = string_bytes c.in_ok-entries.entries in
    let reasons = string_bytes c.in_ok-reasons.reasons in
    let front = topology_text t ++ (cuts_text cuts ++ finding_text finding) in
    let order_is : c.in_ok-order.order.items ≡ told_order t segments verdict =
    c.in_ok-order.ensures ∙ ap (λ (gs : List Segment). told_order t gs verdict) c.deref-2.ensures.value in
    record {
      world = t;
      segments = segments;
      cuts = cuts;
      is_world = c.in_ok-world.ensures.read;
      verdict = verdict;
      is_verdict = record {
        accepted = subst (λ (gs : List Segment). IsAccepted verdict ↔ ComeFromRun t (journal_of gs)) c.deref.ensures.value c.in_ok-verdict.ensures.accepted;
        order = subst (λ (gs : List Segment). IfOk (as_result verdict) (IsOrderOf t gs)) c.deref.ensures.value c.in_ok-verdict.ensures.order;
        stops = subst (λ (gs : List Segment). IfErr (as_result verdict) (AreStops t gs)) c.deref.ensures.value c.in_ok-verdict.ensures.stops;
      };
      few = subst (λ (order : List ℕ). length order ≤ event_limit) order_is (search rules);
      finding = finding;
      is_finding = c.in_ok-finding.ensures;
      reasons = reasons;
      are_reasons = subst (λ (gs : List Segment). AreReasons t gs verdict reasons) c.deref-5.ensures.value c.in_ok-reasons.ensures;
      are_lines = c.in_ok-text.ensures.ok ∙ sym (append_assoc head entries reasons)
          ∙ ap (λ (h : List ℕ). h ++ entries ++ reasons)
          (c.in_ok-head.ensures ∙ ap (λ (cs : List (ℕ × ℕ)). topology_text t ++ (cuts_text cs ++ finding_text finding)) c.deref-6.ensures.value)
          ∙ ap (λ (told : List ℕ). front ++ told ++ reasons)
          (c.in_ok-entries.ensures ∙ ap (λ (gs : List Segment). order_text (journal_of gs) c.deref-3.result.now) c.deref-4.ensures.value
          ∙ ap (order_text (journal_of segments)) (c.deref-3.ensures.value ∙ order_is));
    }
