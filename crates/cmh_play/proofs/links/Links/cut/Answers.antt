use Rattle.std.proofs.Common.{None, cond, true, sym, ap, subst, ◌∙◌}
use Rattle.std.specs.List.{list_any}
use Rattle.std.specs.Ordering.{is_eq}
use Rattle.cmh_play.specs.Links.{Links, ChangesLink, goes}
use Rattle.cmh_play.proofs.LinkSteps.{among, cut_off, ends_cmp, ends_of, is_eq-ends_cmp}
use Rattle.cmh_play.proofs.links.Links.cut.Goals as goal

pub returns-clause-ok : goal.returns-clause-ok
returns-clause-ok c =
    let from = c.args.from in
    let to = c.args.to in
    let cut = c.self.inside.cut.keys in
    let later = c.insert.new.self.keys in
    subst (λ (links : Links). ChangesLink links (c.clear.new.self, later) from to None) c.self.view_is
    (cut_off cut c.self.inside.under_way from to later c.clear.new.self
    (λ q.
    sym (among later q.from q.to) ∙ c.in_ok-insert.ensures.updates.0 q
    ∙ ap (λ t. cond t true (list_any (λ y. is_eq (ends_cmp q y)) cut)) (is_eq-ends_cmp (ends_of from to) q)
    ∙ ap (λ t. cond (goes from to q) true t) (among cut q.from q.to))
    c.clear.ensures)
