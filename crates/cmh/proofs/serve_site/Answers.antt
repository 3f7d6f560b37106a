use Rattle.std.proofs.Common.{ℕ, inl, rules, subst, ◌∙◌}
use Rattle.cmh.specs.Serving.{ServesSite}
use Rattle.cmh.proofs.Serving.{of_some_file}
use Rattle.cmh.proofs.serve_site.Goals as goal

pub returns-in-Err-clause-serves_some : goal.returns-in-Err-clause-serves_some
returns-in-Err-clause-serves_some g c = inl (0, search rules)

pub returns-clause-serves_some : goal.returns-clause-serves_some
returns-clause-serves_some g c =
    inl (c.in-Some.site, of_some_file _ _ _ _ _ _ _ _ _ c.serve_site_on.ensures.serves)

pub returns-clause-serves : goal.returns-clause-serves
returns-clause-serves g c = λ site is told.
    subst (λ (s : ℕ). ServesSite s c.args.input.now c.serve_site_on.new.input c.args.out.now c.serve_site_on.new.out c.args.err.now c.serve_site_on.new.err c.serve_site_on.result)
    (c.in-Some.ensures.1 ∙ c.number_of.ensures site is told)
    (of_some_file _ _ _ _ _ _ _ _ _ c.serve_site_on.ensures.serves)
