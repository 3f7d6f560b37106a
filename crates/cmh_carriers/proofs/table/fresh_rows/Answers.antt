use Rattle.std.proofs.Common.{ℕ, List, take, ap, sym, ◌∙◌, subst, ◌++◌, ◌∷◌, []}
use Rattle.std.proofs.lemmas.List.{take_more}
use Rattle.cmh_carriers.specs.Table.{AllFresh}
use Rattle.cmh_carriers.proofs.Rows.{fresh_next}
use Rattle.cmh_carriers.proofs.table.fresh_rows.Goals as goal

pub loop-other-preserved : goal.loop-other-preserved
loop-other-preserved c =
    let xs = c.sites-other-items.result.now in
    let i = c.loop-other.other-index in
    let e = ap (λ x. take i xs ++ x ∷ []) c.other-item.is ∙ sym (take_more xs i c.other-item.result c.loop-other-test.true) in
    subst (λ (ys : List ℕ). AllFresh ys c.args.site c.push_fresh.new.rows.items) e
    (fresh_next (take i xs) c.args.site c.loop-other.rows.items c.push_fresh.new.rows.items c.other-item.result c.in_ok-push_fresh.ensures c.loop-other.invariant)
