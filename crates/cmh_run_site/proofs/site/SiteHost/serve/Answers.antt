use Rattle.cmh_run_site.proofs.Endings.{unwelcomed, welcomed}
use Rattle.cmh_run_site.proofs.site.SiteHost.serve.Goals as goal

pub returns-in_err-write_line-clause-served : goal.returns-in_err-write_line-clause-served
returns-in_err-write_line-clause-served g c =
    unwelcomed _ _ _ _ c.args.self.now.has_connected _ _ c.from_residual.result c.from_residual.ensures.0 c.in_err-write_line.ensures.err

pub returns-in_err-flush-clause-served : goal.returns-in_err-flush-clause-served
returns-in_err-flush-clause-served g c =
    unwelcomed _ _ _ _ c.args.self.now.has_connected _ _ c.from_residual-in_err-flush.result c.from_residual-in_err-flush.ensures.0 c.in_err-flush.ensures.err

pub returns-clause-served : goal.returns-clause-served
returns-clause-served g c =
    welcomed _ _ _ _ c.args.self.now.has_connected _ _ _ _ c.answer_all.result c.in_ok-write_line.ensures.bytes c.in_ok-flush.ensures.bytes c.answer_all.ensures.answers
