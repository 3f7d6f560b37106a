use Rattle.std.proofs.Common.{◌∙◌}
use Rattle.cmh_console.proofs.Writings.{written_whole}
use Rattle.cmh_console.proofs.device.write_whole.Goals as goal

pub returns-in-Ok : goal.returns-in-Ok
returns-in-Ok g c = written_whole _ _ c.new-short.result c.write_fmt.new.self c.new-short.ensures c.write_all.result _ _
    (c.as_bytes.ensures.value ∙ c.as_str.ensures.value) c.in-Ok.ensures.writes c.write_all.ensures.bytes
