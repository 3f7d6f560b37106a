use Rattle.std.proofs.Common.{ℕ, List, None, length, subst, sym, ap, ◌∙◌, ◌<◌, set, arith}
use Rattle.std.proofs.lemmas.List.{get_or_default}
use Rattle.cmh_frames.specs.declared.frame.Frame.{Frame}
use Rattle.cmh_frames.specs.Entries.{Outcome}
use Rattle.cmh_journal.specs.Journal.{Journal}
use Rattle.cmh_cycles.proofs.GraphLemmas.{eq_last}
use Rattle.cmh_audit.proofs.SendLemmas.{Sending, journal_at, other_number, sending_start, sending_past, sending_none, sending_one}
use Rattle.cmh_audit.proofs.merge.send_all.Goals as goal

pub loop-to-init : goal.loop-to-init
loop-to-init c =
    let S : List (ℕ × Frame) → Type 0 = λ left. Sending c.args.places.now c.args.entry.now.sent left c.args.links.now c.args.links.now c.args.schedule.now.ready.items c.args.schedule.now.ready.items c.args.schedule.now.lacks.items c.args.schedule.now.lacks.items c.args.from in
    let sent : Outcome → List (ℕ × Frame) = λ o. o.sent in
    subst S (sym (ap sent c.outcome-left.ensures)) (sending_start c.args.places.now c.args.entry.now.sent c.args.links.now c.args.schedule.now.ready.items c.args.schedule.now.lacks.items c.args.from)

pub loop-to-preserved-in-Continue-branch-2 : goal.loop-to-preserved-in-Continue-branch-2
loop-to-preserved-in-Continue-branch-2 c =
    let js = c.args.places.now in
    let k = c.in-Some-find.k in
    let inside = c.in-Some-find.ensures.0 in
    let x = journal_at js k inside in
    let sent : Outcome → List (ℕ × Frame) = λ o. o.sent in
    let site : Journal → ℕ = λ y. y.site in
    let as_long = c.loop-to.invariant.wakes.long in
    let long = c.requires.long in
    let fits : k < length c.loop-to.schedule.lacks.items = omega (arith, as_long, long, inside) in
    let read = get_or_default c.loop-to.schedule.lacks.items k c.index.result.now None fits in
    let R : List ℕ → Type 0 = λ r. Sending js c.args.entry.now.sent c.next_sent.new.self.sent c.args.links.now c.send.new.self c.args.schedule.now.ready.items r c.args.schedule.now.lacks.items (set c.loop-to.schedule.lacks.items k None) c.args.from in
    subst R (sym c.in_ok-push.ensures.items)
    (sending_one js c.requires.once c.args.entry.now.sent c.loop-to.left.sent c.next_sent.new.self.sent c.args.links.now c.loop-to.links c.send.new.self c.args.schedule.now.ready.items c.loop-to.schedule.ready.items c.args.schedule.now.lacks.items c.loop-to.schedule.lacks.items c.args.from _
    c.loop-to.invariant (ap sent c.in-Some.ensures) c.in_ok-send.ensures.ok k x.0 inside x.1 (ap site x.1 ∙ c.in-Some-find.ensures.1 x.0) fits
    (sym read ∙ sym c.index.ensures ∙ eq_last c.index.result.now c.args.from (sym c.eq.ensures ∙ c.if-eq.true)))

pub loop-to-preserved-else-eq : goal.loop-to-preserved-else-eq
loop-to-preserved-else-eq c =
    let js = c.args.places.now in
    let k = c.in-Some-find.k in
    let inside = c.in-Some-find.ensures.0 in
    let x = journal_at js k inside in
    let sent : Outcome → List (ℕ × Frame) = λ o. o.sent in
    let site : Journal → ℕ = λ y. y.site in
    let as_long = c.loop-to.invariant.wakes.long in
    let long = c.requires.long in
    let fits : k < length c.loop-to.schedule.lacks.items = omega (arith, as_long, long, inside) in
    let read = get_or_default c.loop-to.schedule.lacks.items k c.index.result.now None fits in
    sending_none js c.requires.once c.args.entry.now.sent c.loop-to.left.sent c.next_sent.new.self.sent c.args.links.now c.loop-to.links c.send.new.self c.args.schedule.now.ready.items c.loop-to.schedule.ready.items c.args.schedule.now.lacks.items c.loop-to.schedule.lacks.items c.args.from _
    c.loop-to.invariant (ap sent c.in-Some.ensures) c.in_ok-send.ensures.ok k x.0 inside x.1 (ap site x.1 ∙ c.in-Some-find.ensures.1 x.0)
    (λ h. other_number c.index.result.now c.args.from (sym c.eq.ensures ∙ c.if-eq.false) (c.index.ensures ∙ read ∙ h))

pub loop-to-preserved : goal.loop-to-preserved
loop-to-preserved c =
    let sent : Outcome → List (ℕ × Frame) = λ o. o.sent in
    sending_past c.args.places.now c.requires.once c.args.entry.now.sent c.loop-to.left.sent c.next_sent.new.self.sent c.args.links.now c.loop-to.links c.send.new.self c.args.schedule.now.ready.items c.loop-to.schedule.ready.items c.args.schedule.now.lacks.items c.loop-to.schedule.lacks.items c.args.from _
    c.loop-to.invariant (ap sent c.in-Some.ensures) c.in_ok-send.ensures.ok c.in_default-find.ensures
