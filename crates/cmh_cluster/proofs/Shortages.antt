-- What descriptors a cluster needs.
use Rattle.std.proofs.Common.{ℕ, ◌*◌, ◌≤◌}
use Rattle.std.proofs.lemmas.Nat.{mul-le}

-- a topology has few sites, and so few pairs of them
pub pairs_fit : (sites : ℕ) → sites ≤ 64 → sites * sites ≤ 4096
pairs_fit sites few = mul-le sites sites 64 64 few few
