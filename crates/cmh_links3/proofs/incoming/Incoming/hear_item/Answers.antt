use Rattle.std.proofs.Common.{ℕ, ◌<◌, ◌≤◌, ap, ◌∙◌, subst}
use Rattle.cmh_resume3.specs.Stream.{IsItemFront}
use Rattle.cmh_resume3.specs.declared.item.Item.{Item}
use Rattle.cmh_resume3.specs.declared.item.Item.TheVariants.{Note}
use Rattle.cmh_resume3.specs.declared.item.ItemFront.TheVariants.{Whole}
use Rattle.cmh_links3.specs.Connections.{Incoming}
use Rattle.cmh_links3.proofs.Taking.{listens_later, listens_messages, listens_note, listens_refusal}
use Rattle.cmh_links3.proofs.incoming.Incoming.hear_item.Goals as goal

pub returns-then-is_later-clause-listens : goal.returns-then-is_later-clause-listens
returns-then-is_later-clause-listens g c =
    let front = subst (λ (i : Item). IsItemFront c.args.self.now.unread (Whole i c.args.count)) c.in-Note.is c.requires.front in
    listens_later g.F.SegmentFile.told g.F.SegmentFile.has_failed _ _ c.args.self.now _ c.in-Note.field-0 c.args.count front
    (subst (λ (own : ℕ). own < c.in-Note.field-0) c.epoch.ensures (c.is_later.ensures.later c.if-is_later.true c.in-Note.field-0 c.in-Note.is))

pub returns-in-Message-clause-listens : goal.returns-in-Message-clause-listens
returns-in-Message-clause-listens g c =
    let front = subst (λ (i : Item). IsItemFront c.args.self.now.unread (Whole i c.args.count)) c.in-Message.is c.requires.front in
    listens_messages g.F.SegmentFile.told g.F.SegmentFile.has_failed _ _ c.args.self.now _ _ _ _ c.in-Message.field-0 c.args.count front c.take_messages.ensures.takes

pub returns-else-is_later-clause-listens : goal.returns-else-is_later-clause-listens
returns-else-is_later-clause-listens g c =
    let front = subst (λ (i : Item). IsItemFront c.args.self.now.unread (Whole i c.args.count)) c.in-Note.is c.requires.front in
    let no_later = subst (λ (own : ℕ). c.in-Note.field-0 ≤ own) c.epoch.ensures (c.is_later.ensures.now c.if-is_later.false c.in-Note.field-0 c.in-Note.is) in
    listens_note g.F.SegmentFile.told g.F.SegmentFile.has_failed _ _ c.args.self.now _ _ _ _ _ c.in-Note.field-0 c.args.count no_later front c.skip.ensures c.take.ensures.gives

pub returns-in-Refused-clause-listens : goal.returns-in-Refused-clause-listens
returns-in-Refused-clause-listens g c =
    let front = subst (λ (i : Item). IsItemFront c.args.self.now.unread (Whole i c.args.count)) c.in-Refused.is c.requires.front in
    let same = c.line.ensures ∙ ap (λ (x : Incoming). x.line) c.skip-in-Refused.ensures in
    listens_refusal g.F.SegmentFile.told g.F.SegmentFile.has_failed _ _ _ c.args.self.now _ _ _ c.in-Refused.mismatch c.args.count front c.skip-in-Refused.ensures same c.told.ensures.tells
