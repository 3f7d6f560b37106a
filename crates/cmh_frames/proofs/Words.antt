-- Short names of parts of the definitions.
use Rattle.std.specs.Prelude.{ℕ, Bool, false, ◌&&◌, ◌||◌, ◌==◌, if◌then◌else◌, List, [], ◌∷◌, Option, None, Some}
use Rattle.std.specs.List.{list_any}
use Rattle.std.specs.FinSet as set
use Rattle.cmh_frames.specs.Rows.{Row}
use Rattle.cmh_frames.specs.State.{State}

-- whether a row is the site's
abbrev pub has_site : List Row → ℕ → Bool
has_site rows s = list_any (λ (row : Row). row.0 == s) rows

-- a site has two rows
abbrev pub repeats_site : List Row → Bool
repeats_site [] = false
repeats_site (row ∷ rows) = has_site rows row.0 || repeats_site rows

-- whether a row of the site names the process
abbrev pub is_named : List Row → ℕ → ℕ → Bool
is_named rows p s = list_any (λ (row : Row). (row.0 == s) && list_any (λ q. q == p) row.1) rows

-- a declaration, where it is new
abbrev pub newly : State → ℕ → Option ℕ
newly v i = if set.contains v.declared i then None else Some i
