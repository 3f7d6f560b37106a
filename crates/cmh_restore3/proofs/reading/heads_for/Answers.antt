use Rattle.std.proofs.Common.{ℕ, List, Bor, map, take, ◌+◌, sym, subst}
use Rattle.std.specs.List.{All}
use Rattle.std.proofs.lemmas.List.Elements.{All-push}
use Rattle.cmh_segment3.specs.Base.{IsBase}
use Rattle.cmh_segment3.specs.declared.head.Head.{Head}
use Rattle.cmh_restore3.specs.Reading.{AreNamedHeads}
use Rattle.cmh_restore3.proofs.Fronts.{named_more}
use Rattle.cmh_restore3.proofs.reading.heads_for.Goals as goal

pub loop-i-preserved : goal.loop-i-preserved
loop-i-preserved g c =
    let at = (λ (head : Head). IsBase head.base) in
    let told = g.N.Inputs.holds c.args.inputs.now in
    let i = c.loop-i.i in
    let so_far = c.loop-i.heads.items in
    let head = c.in_ok-head_for.field-0 in
    record {
      bases = subst (All at) (sym c.in_ok-push.ensures.items) (All-push at so_far head c.loop-i.invariant.bases c.in_ok-head_for.ensures.base);
      named = subst (λ (heads : List Head). AreNamedHeads told (map (λ (path : Bor (List ℕ)). path.now) (take (i + 1) c.args.paths.now)) heads) (sym c.in_ok-push.ensures.items)
          (named_more told c.args.paths.now i _ so_far head c.loop-i-test.true c.loop-i.invariant.named c.in_ok-head_for.ensures.named);
    }
