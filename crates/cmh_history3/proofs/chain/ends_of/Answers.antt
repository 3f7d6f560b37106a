use Rattle.std.proofs.Common.{◌∙◌}
use Rattle.std.specs.Prelude.{IfOk}
use Rattle.rayon.proofs.ToStd.{slice-AllZip}
use Rattle.cmh_history3.specs.Inner.Ends.{EndsAs}
use Rattle.cmh_history3.proofs.Ending.{all_found}
use Rattle.cmh_history3.proofs.chain.ends_of.Goals as goal

pub returns-in-Ok : goal.returns-in-Ok
returns-in-Ok g c =
    let t = c.args.topology.now in
    let h = c.in-Ok.ensures in
    let chain = rw (c.map.ensures.base, c.map.ensures.f, c.with_min_len.ensures.base) at h.1 in
    let zipped = slice-AllZip chain.0 c.args.epochs.now (chain.1 ∙ c.par_iter.ensures) (λ segments answer. IfOk answer (EndsAs t segments)) h.0 chain.2 in
    all_found t c.args.epochs.now h.0 c.in-Ok.ends zipped h.2
