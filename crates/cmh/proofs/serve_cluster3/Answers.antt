use Rattle.std.proofs.Common.{ℕ, List, sym, subst}
use Rattle.cmh_serve3.specs.Setting.{IsOfEdition3}
use Rattle.cmh.proofs.serve_cluster3.Goals as goal

pub returns-clause-serves : goal.returns-clause-serves
returns-clause-serves g c = (
  c.deref.result.now,
  c.deref-2.result.now,
  subst (λ (bytes : List ℕ). IsOfEdition3 bytes) (sym c.deref.ensures.value) c.requires,
  c.run_cluster3.ensures.ends,
)
