-- Epochs that options tell, and pictures up to one.
use Rattle.std.proofs.Common.{◌≡◌, ℕ, ◌<◌, ◌^◌, List, Option, None, Some, inr}
use Rattle.cmh_console.specs.Device.{Writing}
use Rattle.cmh_draw.specs.declared.picture.Kind.{Kind}
use Rattle.cmh_picture.specs.declared.format.Format.{Format}
use Rattle.cmh_picture.specs.declared.part.Part.{Part}
use Rattle.cmh_draw3.specs.Epochs.{LongDrawEnds}
use Rattle.cmh_commands.specs.Drawing.{DrawEndsByEdition, NeedsAll}
use Rattle.cmh_commands.specs.Numbers.{TellsEpoch, TellsNumber}

pub epoch_is : (text : Option (List ℕ)) (read : Option ℕ) → (text ≡ None → read ≡ None)
    → ((epoch : ℕ) → epoch < 2 ^ 32 → TellsNumber text epoch → read ≡ Some epoch)
    → (told : Option ℕ) → TellsEpoch text told → read ≡ told
epoch_is text read none some None unset = none unset
epoch_is text read none some (Some epoch) told = some epoch told.0 told.1

-- a picture of all segments
pub all_drawn : {W E : Type 0} {old new : Writing W} {err_old err_new : Writing E} {status : ℕ} (topology : List ℕ) (files : List (List ℕ))
    (segments : List (List (List ℕ))) (kind : Kind) (format : Format) (part : Option Part) (epoch : Option ℕ)
    → NeedsAll topology files epoch → LongDrawEnds topology segments epoch kind format part old new err_old err_new status
    → DrawEndsByEdition topology files kind format part epoch old new err_old err_new status
all_drawn topology files segments kind format part None needs ends = inr (inr (needs.0, needs.1, (segments, ends)))
all_drawn topology files segments kind format part (Some epoch) needs ends = (segments, ends)
