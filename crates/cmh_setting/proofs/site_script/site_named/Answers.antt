use Rattle.cmh_setting.proofs.Named.{named}
use Rattle.cmh_setting.proofs.site_script.site_named.Goals as goal

pub returns : goal.returns
returns c = named _ _ _ c.in_ok-word.ensures c.number.ensures
