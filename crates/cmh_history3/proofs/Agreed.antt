-- Whether the bases agree on all links.
use Rattle.std.proofs.Common.{ℕ, List, subst}
use Rattle.std.specs.List.{All}
use Rattle.cmh_segment3.specs.declared.segment.Segment.{Segment}
use Rattle.cmh_history3.specs.declared.between.Link.{Link}
use Rattle.cmh_history3.specs.Between.{Agrees, AreAgreed, IsDisagreement}

pub never_both : (sites : List ℕ) (gs : List Segment) (link : Link) → IsDisagreement sites gs link → AreAgreed sites gs → ⊥
never_both sites gs link apart all =
    let from : All (Agrees gs link.from) sites = subst (λ a. All (Agrees gs a) sites) apart.from.2 (all apart.from.0 link.from apart.from.1) in
    apart.apart (subst (Agrees gs link.from) apart.to.2 (from apart.to.0 link.to apart.to.1))
