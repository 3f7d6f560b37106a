use Rattle.std.proofs.Common.{◌≡◌, ◌≢◌, List, length, map, Option, Some, sym, ap, subst, ◌∙◌}
use Rattle.std.specs.Prelude.{slice_get, MatchOption}
use Rattle.cmh_model3.specs.Journals.{receipts_of, sendings_of}
use Rattle.cmh_segment3.specs.declared.entry.Entry.{Entry}
use Rattle.cmh_segment3.specs.Entries.{step_of}
use Rattle.cmh_audit3.specs.Inner.Lawful.{AreLawful}
use Rattle.cmh_files3.specs.Reasons.{IsOwnFault, IsReason, Makes, held_before, next_of, value}
use Rattle.cmh_files3.specs.declared.reason.Reason.{Reason}
use Rattle.cmh_files3.proofs.StopLemmas.{entry_read, held_lawful, own_reason, waits_reason, no_message, not_next, got_some}
use Rattle.cmh_files3.proofs.stop.reason_of.Goals as goal

pub fault_at-requires : goal.fault_at-requires
fault_at-requires c =
    subst (λ (es : List Entry). AreLawful c.args.topology.now c.args.stop.site es) (sym c.before_stop-before.ensures)
    (held_lawful c.args.topology.now c.args.segments.now c.args.stops.now c.requires.stops c.args.stop.site)

pub returns-in-Some : goal.returns-in-Some
returns-in-Some c =
    let t = c.args.topology.now in
    let s = c.args.stop.site in
    let gs = c.args.segments.now in
    let stops = c.args.stops.now in
    let e = c.index-entries_at-stop.result in
    let read = entry_read t gs stops c.args.stop c.entries_at.result.now e c.requires.stops c.requires.one c.entries_at.ensures c.index-entries_at-stop.is in
    let fault = subst (λ (found : Option Reason). MatchOption found (Makes t s (value t s c.before_stop-before.result.now) e.event e.sent e.declared)
    (IsOwnFault t s (value t s c.before_stop-before.result.now) e)) c.in-Some.is c.in_ok-fault.ensures in
    let held = subst (λ (l : List Entry). IsOwnFault t s (value t s l) e c.in-Some.fault) c.before_stop-before.ensures fault in
    (e, read.stands, own_reason t (held_before gs stops) s e c.in-Some.fault held)

pub unreachable-requires : goal.unreachable-requires
unreachable-requires c =
    let t = c.args.topology.now in
    let s = c.args.stop.site in
    let gs = c.args.segments.now in
    let stops = c.args.stops.now in
    let e = c.index-entries_at-stop.result in
    let read = entry_read t gs stops c.args.stop c.entries_at.result.now e c.requires.stops c.requires.one c.entries_at.ensures c.index-entries_at-stop.is in
    let made = subst (λ (found : Option Reason). MatchOption found (Makes t s (value t s c.before_stop-before.result.now) e.event e.sent e.declared)
    (IsOwnFault t s (value t s c.before_stop-before.result.now) e)) c.in_default.is c.in_ok-fault.ensures in
    let makes = subst (λ (l : List Entry). Makes t s (value t s l) e.event e.sent e.declared) c.before_stop-before.ensures made in
    got_some t c.growing_law.ensures.grows gs stops c.requires.stops c.args.stop c.requires.one e read.within read.is makes
    (no_message e.event c.in_default-event.not-Got)

pub returns : goal.returns
returns c =
    let t = c.args.topology.now in
    let s = c.args.stop.site in
    let gs = c.args.segments.now in
    let stops = c.args.stops.now in
    let from = c.in-Got.from in
    let e = c.index-entries_at-stop.result in
    let read = entry_read t gs stops c.args.stop c.entries_at.result.now e c.requires.stops c.requires.one c.entries_at.ensures c.index-entries_at-stop.is in
    let made = subst (λ (found : Option Reason). MatchOption found (Makes t s (value t s c.before_stop-before.result.now) e.event e.sent e.declared)
    (IsOwnFault t s (value t s c.before_stop-before.result.now) e)) c.in_default.is c.in_ok-fault.ensures in
    let makes = subst (λ (l : List Entry). Makes t s (value t s l) e.event e.sent e.declared) c.before_stop-before.ensures made in
    let next : next_of (held_before gs stops) from s ≡ c.in_ok-next.next =
    ap (λ (l : List Entry). slice_get (sendings_of s (map step_of (held_before gs stops from))) (length (receipts_of from (map step_of l)))) (sym c.before_stop-before.ensures)
    ∙ ap (λ (l : List Entry). slice_get (sendings_of s (map step_of l)) (length (receipts_of from (map step_of c.before_stop-before.result.now)))) (sym c.before_stop-sender.ensures)
    ∙ sym c.in_ok-next.ensures in
    let other : c.in_ok-next.next ≢ Some (record { clock = c.in-Got.clock; frame = c.in-Got.frame }) = λ h.
    not_next t c.growing_law.ensures.grows gs stops c.requires.stops c.args.stop c.requires.one e read.within read.is makes from c.in-Got.clock c.in-Got.frame c.in-Got.is (next ∙ h) in (
      e,
      read.stands,
      subst (λ (reason : Reason). IsReason t (held_before gs stops) s e reason) (sym c.awaited.ensures)
          (waits_reason t (held_before gs stops) s e from c.in-Got.clock c.in-Got.frame c.in_ok-next.next makes c.in-Got.is next other),
    )
