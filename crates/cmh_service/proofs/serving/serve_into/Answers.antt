use Rattle.std.proofs.Common.{sym, ◌∙◌}
use Rattle.cmh_service.proofs.Endings.{setting_err, short_err, start_err, when_failed}
use Rattle.cmh_service.proofs.serving.serve_into.Goals as goal

pub returns-in_err-setting-clause-fault : goal.returns-in_err-setting-clause-fault
returns-in_err-setting-clause-fault g c =
    setting_err _ _ _ c.from_residual.result c.in_err-setting.field-0.0 c.from_residual.ensures.1 c.in_err-setting.ensures.fault

pub returns-in_err-acceptor-clause-fault : goal.returns-in_err-acceptor-clause-fault
returns-in_err-acceptor-clause-fault g c =
    short_err _ _ _ c.from_residual-in_err-acceptor.result c.in_err-acceptor.field-0.0 c.from_residual-in_err-acceptor.ensures.1
    (c.in_ok-setting.setting.world, c.in_ok-setting.ensures.world, sym c.has_site.ensures ∙ c.if-not-has_site.false)

pub returns-in_err-running-clause-fault : goal.returns-in_err-running-clause-fault
returns-in_err-running-clause-fault g c =
    start_err _ _ _ c.from_residual-in_err-running.result c.in_err-running.field-0.0 c.from_residual-in_err-running.ensures.1
    c.in_err-running.ensures.fault (c.in_ok-setting.setting.world, c.in_ok-setting.ensures.world, sym c.has_site.ensures ∙ c.if-not-has_site.false)

pub returns-then-is_err-clause-fault : goal.returns-then-is_err-clause-fault
returns-then-is_err-clause-fault g c =
    when_failed c.say_listening.result c.is_err.result c.is_err.ensures.value c.if-is_err.true c.say_listening.ensures
