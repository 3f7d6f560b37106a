-- The events that a script can name.
use Rattle.std.proofs.Common.{◌≡◌, ℕ, false, List, refl}
use Rattle.cmh_frames.specs.declared.event.Event.{Event}
use Rattle.cmh_frames.specs.declared.event.Event.TheVariants.{Ask, Reply, Start, Got}
use Rattle.cmh_frames.specs.Settling.{is_delivery}
use Rattle.cmh_console.specs.Script.{Says}
use Rattle.cmh_console.specs.declared.script.Command.TheVariants.{Act}
use Rattle.cmh_console.specs.declared.script.Line.TheVariants.{Command as Command_line}

-- a script has no line by which a site gets a frame
pub act_no_got : (bytes : List ℕ) (process : ℕ) (event : Event) → Says bytes (Command_line (Act process event)) → is_delivery event ≡ false
act_no_got bytes process (Ask asker targets) says = refl
act_no_got bytes process (Reply holder asker) says = refl
act_no_got bytes process (Start i) says = refl
act_no_got bytes process (Got from frame) says = absurd says
