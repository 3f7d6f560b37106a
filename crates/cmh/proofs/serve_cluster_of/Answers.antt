use Rattle.std.proofs.Common.{inl}
use Rattle.cmh.proofs.serve_cluster_of.Goals as goal

pub returns-then-get_flag-clause-serves_strictly : goal.returns-then-get_flag-clause-serves_strictly
returns-then-get_flag-clause-serves_strictly g c = λ strict.
    inl (_, _, c.run_all-end.result.unopened, c.run_all-end.ensures.strictly strict, c.run_all-end.ensures.opened strict)

pub returns-else-end-gt0-clause-serves_strictly : goal.returns-else-end-gt0-clause-serves_strictly
returns-else-end-gt0-clause-serves_strictly g c = λ strict.
    inl (_, _, c.run_all-end.result.unopened, c.run_all-end.ensures.strictly strict, c.run_all-end.ensures.opened strict)
