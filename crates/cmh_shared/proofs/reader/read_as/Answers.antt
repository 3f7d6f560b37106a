use Rattle.cmh_shared.proofs.Sight.{enters}
use Rattle.cmh_shared.proofs.reader.read_as.Goals as goal

pub enter_as-requires : goal.enter_as-requires
enter_as-requires c = enters _ _
