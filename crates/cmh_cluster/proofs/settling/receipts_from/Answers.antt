use Rattle.std.proofs.Common.{◌≡◌, ◌-◌, ◌^◌, ◌++◌, ◌∷◌, [], List, length, min, take, ap, sym, subst, ◌∙◌, arith}
use Rattle.std.proofs.lemmas.List.{take_more}
use Rattle.cmh_frames.specs.Journals.{receipts_of}
use Rattle.cmh_frames.specs.Entries.{Entry}
use Rattle.cmh_cluster.proofs.Tallies.{receipt_more}
use Rattle.cmh_cluster.proofs.settling.receipts_from.Goals as goal
use Rattle.cmh_cluster.proofs.settling.receipts_from.Goals.{then-is_from, else-is_from}

pub loop-entry-preserved : goal.loop-entry-preserved
loop-entry-preserved c =
    let xs = c.args.entries.now in
    let i = c.loop-entry.entry-index in
    let so_far = c.loop-entry.invariant in
    subst (λ (es : List Entry). c.if-is_from.count ≡ min (length (receipts_of c.args.from es)) (2 ^ 64 - 1))
    (ap (λ x. take i xs ++ x ∷ []) c.entry-item.is ∙ sym (take_more xs i c.entry-item.result c.loop-entry-test.true))
    (elim c.if-is_from.branch [
      | then-is_from w ↦ receipt_more c.args.from (take i xs) c.entry-item.result c.loop-entry.count c.if-is_from.count 1 so_far
          (c.is_from.ensures.yes w.if-is_from.true) (w.count-is ∙ w.saturating_add-count.ensures)
      | else-is_from w ↦ receipt_more c.args.from (take i xs) c.entry-item.result c.loop-entry.count c.if-is_from.count 0 so_far
          (c.is_from.ensures.no w.if-is_from.false) (let same = w.count-is in omega (arith, so_far, same))
    ])
