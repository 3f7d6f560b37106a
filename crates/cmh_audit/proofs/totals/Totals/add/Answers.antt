use Rattle.std.proofs.Common.{◌+◌, length, ap, subst, ◌∙◌}
use Rattle.cmh_frames.specs.Entries.{Entry}
use Rattle.cmh_audit.specs.Totals.{Totals, AddsEntry, kept}
use Rattle.cmh_audit.proofs.totals.Totals.add.Goals as goal

pub returns : goal.returns
returns c =
    let entry : Entry = record { event = c.args.event.now; sent = c.args.outcome.now.sent; declared = c.args.outcome.now.declared } in
    let new : Totals = record {
      waits = c.turn_event.new.waits;
      declared = c.declare.new.declared.keys;
      events = c.saturating_add-self-inside.result;
      sent = c.saturating_add-self-inside-2.result;
      got = c.saturating_add-self-inside-3.result;
    } in
    subst (λ (old : Totals). AddsEntry old new entry) c.self.view_is (record {
      waits = c.in_ok-turn_event.ensures;
      declared = c.in_ok-declare.ensures;
      events = c.saturating_add-self-inside.ensures;
      sent = c.saturating_add-self-inside-2.ensures ∙ ap (λ xs. kept (c.self.inside.sent + length xs)) c.as_slice.ensures;
      got = c.saturating_add-self-inside-3.ensures ∙ ap (λ n. kept (c.self.inside.got + n)) c.got_by.ensures;
    })
