-- How large a world of edition 3 may be.
use Rattle.std.specs.Prelude.{ℕ}

-- how many sites a world may have, how many processes, and how many at one site
abbrev pub most_sites : ℕ
most_sites = 64

abbrev pub most_processes : ℕ
most_processes = 4096

abbrev pub most_members : ℕ
most_members = 256
