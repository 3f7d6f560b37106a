-- Processes that are named twice, row by row.
use Rattle.std.specs.Prelude.{ℕ, Bool, false, ◌||◌, ◌==◌, List, [], ◌∷◌}
use Rattle.std.specs.List.{list_any}
use Rattle.cmh_frames.specs.Rows.{Row}

-- whether a row names the process
abbrev pub has_process : List Row → ℕ → Bool
has_process rows p = list_any (λ (row : Row). list_any (λ q. q == p) row.1) rows

-- one of these processes stands twice among them, or in one of the rows
abbrev pub repeats_among : List Row → List ℕ → Bool
repeats_among rows [] = false
repeats_among rows (p ∷ ps) = (list_any (λ q. q == p) ps || has_process rows p) || repeats_among rows ps

-- a process is named twice
abbrev pub repeats_process : List Row → Bool
repeats_process [] = false
repeats_process (row ∷ rows) = repeats_among rows row.1 || repeats_process rows
