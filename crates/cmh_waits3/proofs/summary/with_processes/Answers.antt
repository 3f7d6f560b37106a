use Rattle.std.proofs.Common.{◌∙◌, ◌+◌, ◌&&◌, ◌||◌, ◌==◌, ℕ, [], ◌∷◌, List, length, nat_lt, get_or, take, sym, ap}
use Rattle.std.proofs.lemmas.List.Folds.{list_any_more}
use Rattle.cmh_model3.specs.Lists.{in_list}
use Rattle.cmh_waits3.specs.Inner.Steps.{has_place}
use Rattle.cmh_waits3.proofs.Counted.{take_past}
use Rattle.cmh_waits3.proofs.Summaries.{or_more}
use Rattle.cmh_waits3.proofs.summary.with_processes.Goals as goal

pub loop-process-preserved : goal.loop-process-preserved
loop-process-preserved c = λ k.
    let ms = c.args.members.now in
    let ks = c.args.processes.now in
    let x = c.process-item.result in
    let i = c.loop-process.process-index in
    let q = get_or ms k 0 in
    c.with_process-joined.ensures k
    ∙ ap (λ b. b || (nat_lt k (length ms) && in_list (x ∷ []) q)) (c.loop-process.invariant k)
    ∙ or_more (has_place c.args.places.words k) (nat_lt k (length ms)) (x == q) (in_list (take i ks) q) (in_list (take (i + 1) ks) q)
    (list_any_more (λ y. y == q) ks i x c.loop-process-test.true ∙ ap (λ y. in_list (take i ks) q || (y == q)) (sym c.process-item.is))

pub returns : goal.returns
returns c = λ k.
    let ms = c.args.members.now in
    c.loop-process.invariant k
    ∙ ap (λ (ks : List ℕ). has_place c.args.places.words k || (nat_lt k (length ms) && in_list ks (get_or ms k 0))) (take_past c.args.processes.now c.loop-process.process-index c.loop-process-test.false)
