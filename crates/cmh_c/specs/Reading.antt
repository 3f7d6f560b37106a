-- Why no reader is opened, and why no hello is written.
use Rattle.std.specs.Prelude.{◌≡◌, ◌⊎◌, ℕ, ◌<◌, List, Contains}
use Rattle.cmh_frames.specs.Number.{IsNumber}
use Rattle.cmh_c.specs.Codes.{NoEditionOr}

-- one of the numbers is not that of a site
abbrev pub HasNoSite : List ℕ → Type 0
HasNoSite numbers = (number : ℕ) × Contains numbers number × ¬ IsNumber number

-- why no reader is opened; out of memory may stand in place of an answer
abbrev pub IsNoReader : ℕ → ℕ → List ℕ → Type 0
IsNoReader code number senders = NoEditionOr code number (λ edition. (code ≡ 11) ⊎ ((code ≡ 28) × HasNoSite senders))

-- why no hello is written
abbrev pub IsNoHello : ℕ → ℕ → ℕ → ℕ → Type 0
IsNoHello code number site room =
    NoEditionOr code number (λ edition. ((code ≡ 28) × ¬ IsNumber site) ⊎ ((code ≡ 21) × IsNumber site × (room < 6)))
