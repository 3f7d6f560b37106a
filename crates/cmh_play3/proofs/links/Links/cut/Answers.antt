use Rattle.std.proofs.Common.{cond, true, ◌||◌, sym, ap, ◌∙◌}
use Rattle.std.specs.List.{list_any}
use Rattle.std.specs.Ordering.{is_eq}
use Rattle.cmh_play3.specs.Links.{Links, is_cut}
use Rattle.cmh_play3.proofs.Cutting.{among, cond_or, ends_cmp, ends_of, goes, is_eq-ends_cmp}
use Rattle.cmh_play3.proofs.links.Links.cut.Goals as goal

pub returns-clause-cut : goal.returns-clause-cut
returns-clause-cut c = λ a b.
    let from = c.args.from in
    let to = c.args.to in
    let cut = c.self.inside.cut.keys in
    let later = c.insert.new.self.keys in
    let q = ends_of a b in
    sym (among later a b) ∙ c.in_ok-insert.ensures.updates.0 q
    ∙ ap (λ t. cond t true (list_any (λ y. is_eq (ends_cmp q y)) cut)) (is_eq-ends_cmp (ends_of from to) q)
    ∙ ap (λ t. cond (goes from to q) true t) (among cut a b) ∙ cond_or (goes from to q) (list_any (goes a b) cut)
    ∙ ap (λ (links : Links). goes from to q || is_cut links a b) c.self.view_is
