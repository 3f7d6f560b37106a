use Rattle.std.proofs.Common.{refl, sym, ◌∙◌}
use Rattle.cmh_run_site.proofs.Endings.{dialogue_err, on_err, served, setting_err, start_err, write_err, wrote_nothing, wrote_some, wrote_until}
use Rattle.cmh_run_site.proofs.site.site_into.Goals as goal

pub returns-in_err-setting-clause-fault : goal.returns-in_err-setting-clause-fault
returns-in_err-setting-clause-fault g c =
    setting_err _ _ _ _ _ c.from_residual.result c.in_err-setting.field-0.0 c.from_residual.ensures.1 c.in_err-setting.ensures.fault

pub returns-in_err-host-clause-fault : goal.returns-in_err-host-clause-fault
returns-in_err-host-clause-fault g c =
    start_err _ _ _ _ _ c.from_residual-in_err-host.result c.in_err-host.field-0.0 c.from_residual-in_err-host.ensures.1
    c.in_err-host.ensures.fault (c.in_ok-setting.setting.world, c.in_ok-setting.ensures.world, sym c.has_site.ensures ∙ c.if-not-has_site.false)

pub returns-in_err-answered-clause-fault : goal.returns-in_err-answered-clause-fault
returns-in_err-answered-clause-fault g c =
    dialogue_err _ _ _ _ _ c.from_residual-in_err-answered.result c.in_err-answered.field-0.0 c.from_residual-in_err-answered.ensures.1
    c.in_err-answered.ensures.fault

pub returns-in_err-write_line-clause-fault : goal.returns-in_err-write_line-clause-fault
returns-in_err-write_line-clause-fault g c =
    write_err _ _ _ _ _ c.from_residual-in_err-write_line.result c.from_residual-in_err-write_line.ensures.1 c.in_err-write_line.ensures.err

pub returns-in_err-flush-clause-fault : goal.returns-in_err-flush-clause-fault
returns-in_err-flush-clause-fault g c =
    write_err _ _ _ _ _ c.from_residual-in_err-flush.result c.from_residual-in_err-flush.ensures.1 c.in_err-flush.ensures.err

pub returns-clause-served : goal.returns-clause-served
returns-clause-served g c =
    served _ _ _ c.in_ok-setting.ensures.world (sym c.has_site.ensures ∙ c.if-not-has_site.false) _ _ _ _ _
    c.in_ok-host.ensures.topology c.in_ok-host.ensures.site c.in_ok-host.ensures.unconnected _ _ _ c.in_ok-answered.ensures.served
    _ _ _ refl c.in_ok-write_line.ensures.bytes c.in_ok-flush.ensures.bytes

pub returns-in_err-setting-clause-early : goal.returns-in_err-setting-clause-early
returns-in_err-setting-clause-early g c = on_err c.from_residual.result _ (wrote_nothing _ _ _ _ _)

pub returns-then-not-has_site-clause-early : goal.returns-then-not-has_site-clause-early
returns-then-not-has_site-clause-early g c = wrote_nothing _ _ _ _ _

pub returns-in_err-host-clause-early : goal.returns-in_err-host-clause-early
returns-in_err-host-clause-early g c = on_err c.from_residual-in_err-host.result _ (wrote_nothing _ _ _ _ _)

pub returns-in_err-answered-clause-early : goal.returns-in_err-answered-clause-early
returns-in_err-answered-clause-early g c =
    on_err c.from_residual-in_err-answered.result _
    (wrote_some _ _ _ c.in_ok-setting.ensures.world (sym c.has_site.ensures ∙ c.if-not-has_site.false) _ _ _ _ _
    c.in_ok-host.ensures.topology c.in_ok-host.ensures.site c.in_ok-host.ensures.unconnected _ _ _ c.in_err-answered.ensures.served
    _ refl)

pub returns-in_err-write_line-clause-early : goal.returns-in_err-write_line-clause-early
returns-in_err-write_line-clause-early g c =
    on_err c.from_residual-in_err-write_line.result _ (wrote_until _ _ _ _ _ _ c.in_err-write_line.ensures.err)

pub returns-in_err-flush-clause-early : goal.returns-in_err-flush-clause-early
returns-in_err-flush-clause-early g c = on_err c.from_residual-in_err-flush.result _ (wrote_until _ _ _ _ _ _ c.in_err-flush.ensures.err)
