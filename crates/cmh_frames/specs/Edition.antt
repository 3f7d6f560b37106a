-- The editions: their numbers, their limits, and whether an ask starts a probe computation.
use Rattle.std.specs.Prelude.{ℕ, Bool, true, false}
use Rattle.cmh_frames.specs.declared.edition.Edition.{Edition}
use Rattle.cmh_frames.specs.declared.edition.Edition.TheVariants.{One, Two}

-- the number that stands for an edition in bytes and texts
abbrev pub number_of : Edition → ℕ
number_of One = 1
number_of Two = 2

-- how many sites a topology may have, how many processes, and how many at one site
abbrev pub site_limit : Edition → ℕ
site_limit One = 16
site_limit Two = 64

abbrev pub process_limit : Edition → ℕ
process_limit One = 256
process_limit Two = 1024

abbrev pub member_limit : Edition → ℕ
member_limit One = 32
member_limit Two = 64

-- how many processes an ask may name
abbrev pub target_limit : Edition → ℕ
target_limit One = 16
target_limit Two = 32

-- whether an ask starts a probe computation for the asker
abbrev pub starts_at_ask : Edition → Bool
starts_at_ask One = false
starts_at_ask Two = true
