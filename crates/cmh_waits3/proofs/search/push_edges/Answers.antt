use Rattle.std.proofs.Common.{◌≡◌, ◌∙◌, ◌++◌, ℕ, List, get_or, take, ap, subst}
use Rattle.std.proofs.lemmas.List.{get_or_default}
use Rattle.cmh_waits3.specs.declared.wait.Wait.{Wait}
use Rattle.cmh_waits3.proofs.Counted.{take_past}
use Rattle.cmh_waits3.proofs.Edges.{edges_at, edges_from}
use Rattle.cmh_waits3.proofs.search.push_edges.Goals as goal

pub returns : goal.returns
returns c =
    let v = c.args.waits.now in
    let ws = c.away-away.result.now in
    let n = c.args.stamp in
    let i = c.args.origin in
    let place = c.args.place in
    let old = c.args.edges.now.items in
    let q = c.index-members-place.result in
    let p = get_or v.members place 0 in
    let is : q ≡ p = subst (λ (ms : List ℕ). q ≡ get_or ms place q) c.members.ensures.value c.index-members-place.is ∙ get_or_default v.members place q 0 c.requires in (
      edges_from v n i p ws,
      c.loop-wait.invariant
          ∙ ap (λ x. old ++ edges_from v n i x (take c.loop-wait.wait-index ws)) is
          ∙ ap (λ (r : List Wait). old ++ edges_from v n i p r) (take_past ws c.loop-wait.wait-index c.loop-wait-test.false),
      edges_at v n i p ws c.away-away.ensures.away c.away-away.ensures.ascending,
    )
