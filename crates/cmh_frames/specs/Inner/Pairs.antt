-- What a frame's last two numbers are.
use Rattle.std.specs.Prelude.{◌≢◌, ℕ}
use Rattle.cmh_frames.specs.Number.{IsNumber}

-- two numbers of processes that differ
abbrev pub IsPair : ℕ → ℕ → Type 0
IsPair a b = IsNumber a × IsNumber b × (a ≢ b)
