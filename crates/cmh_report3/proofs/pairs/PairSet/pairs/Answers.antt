use Rattle.std.proofs.Common.{◌≡◌, ◌↔◌, ◌+◌, ℕ, true, List, [], ◌++◌, map, get_or, subst, sym, ap, ◌∙◌, arith, Contains}
use Rattle.std.proofs.lemmas.List.{get_or_default}
use Rattle.cmh_report3.specs.Inner.Pairs.{has_pair}
use Rattle.cmh_report3.specs.Inner.PairRows.{ArePairsOf}
use Rattle.cmh_report3.proofs.PairRows.{pairs_begin, pairs_skip, pairs_more, pairs_end}
use Rattle.cmh_report3.proofs.pairs.PairSet.pairs.Goals as goal
use Rattle.cmh_report3.proofs.pairs.PairSet.pairs.Goals.{in-Some+in_ok-push_row, in_default}

pub loop-index-init : goal.loop-index-init
loop-index-init c = subst (ArePairsOf c.self.inside.rows.items 0) (sym c.new-pairs.ensures.items) (pairs_begin c.self.inside.rows.items)

pub loop-index-preserved : goal.loop-index-preserved
loop-index-preserved c =
    let rows = c.self.inside.rows.items in
    let n = c.loop-index.index in
    elim c.match-new.branch [
      | in-Some+in_ok-push_row w ↦
          let row = w.as_slice.result.now in
          let here : get_or rows n [] ≡ row = get_or_default rows n [] w.index.result.now (let l = c.loop-index-test.true in let len = c.len-index-end.ensures in omega (arith, l, len)) ∙ sym w.index.ensures ∙ sym w.as_slice.ensures.value in
          let all : c.match-new.pairs.items ≡ c.loop-index.pairs.items ++ map (λ k. (n, k)) row = ap (λ vec. vec.items) w.pairs-is ∙ w.in_ok-push_row.ensures ∙ ap (λ p. c.loop-index.pairs.items ++ map (λ k. (p, k)) row) w.in-Some.ensures.1 in
          subst (ArePairsOf rows (n + 1)) (sym all) (pairs_more rows n c.loop-index.pairs.items c.loop-index.invariant row here w.as_slice.ensures.ascending)
      | in_default w ↦ subst (λ vec. ArePairsOf rows (n + 1) vec.items) (sym w.pairs-is) (pairs_skip rows n c.loop-index.pairs.items c.loop-index.invariant c.self.invariant w.in_default.ensures)
    ]

pub returns-clause-pairs : goal.returns-clause-pairs
returns-clause-pairs c = λ j k.
    let P : List (List ℕ) → Type 0 = λ rows. Contains c.loop-index.pairs.items (j, k) ↔ (has_pair rows j k ≡ true) in
    subst P c.self.view_is (pairs_end c.self.inside.rows.items c.loop-index.index c.loop-index.pairs.items (let past = c.loop-index-test.false in let len = c.len-index-end.ensures in omega (arith, past, len)) c.loop-index.invariant j k)
