-- How the journals of a script are kept.
use Rattle.std.specs.Prelude.{◌≡◌, ℕ, ◌⊎◌}
use Rattle.cmh_console.specs.Device.{Writing}
use Rattle.cmh_console.specs.Faults.{NamesFault}
use Rattle.cmh_play3.specs.Plays.{HasNoFile, fault_of_file}

-- they were kept, or it is named why not
abbrev pub IsKept : {E : Type 0} → Writing E → Writing E → ℕ → Type 0
IsKept err_old err_new status =
    ((status ≡ 0) × (err_new ≡ err_old)) ⊎ NamesFault fault_of_file HasNoFile status err_old err_new
