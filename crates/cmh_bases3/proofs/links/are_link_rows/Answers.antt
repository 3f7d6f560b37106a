use Rattle.std.proofs.Common.{◌≡◌, ◌∙◌, ◌<◌, ◌≤◌, length, map, take, sym, subst, arith}
use Rattle.std.specs.List.{AllByRecursion}
use Rattle.std.proofs.lemmas.Bool.{true≢false}
use Rattle.cmh_segment3.specs.Base.{IsLinkRow, link_place}
use Rattle.cmh_segment3.specs.declared.links.LinkState.{LinkState}
use Rattle.cmh_bases3.proofs.Fitting.{below_at, first_more, link_at}
use Rattle.cmh_bases3.proofs.links.are_link_rows.Goals as goal
use Rattle.cmh_bases3.proofs.links.are_link_rows.Goals.{then-place-least-via-then-place-least, then-place-least-via-else-place-least+then-not-is_link_row}

pub returns-then-place-least : goal.returns-then-place-least
returns-then-place-least c = (
  λ no. absurd (true≢false (sym no)),
  λ are.
      let links = c.args.links.now in
      let i = c.loop-link.link-index in
      let x = c.link-item.result in
      let inside : i < length links = c.loop-link-test.true in
      let at : c.from-place.result ≡ link_place x = c.from-place.ensures ∙ c.get.ensures.value in
      let below = subst (λ (l : LinkState). AllByRecursion (λ j. j < link_place l) (map link_place (take i links))) (sym c.link-item.is) (below_at links i x are.1 inside) in
      let low : c.loop-link.least ≤ link_place x = c.loop-link.invariant.tight (link_place x) below in
      let row : IsLinkRow x = subst IsLinkRow (sym c.link-item.is) (link_at IsLinkRow links i x are.0 inside) in
      let refused : ⊥ = elim c.then-place-least.branch [
        | then-place-least-via-then-place-least w ↦ let late = w.if-place-least.true in absurd (omega (arith, late, low, at))
        | then-place-least-via-else-place-least+then-not-is_link_row w ↦ true≢false (sym (w.is_link_row.ensures.1 row) ∙ w.if-not-is_link_row.true)
      ] in
      absurd refused,
)

pub loop-link-preserved : goal.loop-link-preserved
loop-link-preserved c =
    let links = c.args.links.now in
    let x = c.link-item.result in
    let at : c.from-place.result ≡ link_place x = c.from-place.ensures ∙ c.get.ensures.value in
    first_more links c.loop-link.link-index c.loop-link.least c.from-place.result x c.loop-link.invariant c.loop-link-test.true c.link-item.is at
    (c.is_link_row.ensures.0 c.if-not-is_link_row.false) c.if-place-least.false
