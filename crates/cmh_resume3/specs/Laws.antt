-- The law of links that resume.
use Rattle.std.specs.Prelude.{◌≡◌, ℕ, ◌≤◌, true, List, [], ◌∷◌, length, Some}
use Rattle.cmh_runs.specs.Runs.{IsBeginningOf}
use Rattle.cmh_resume3.specs.Link.{Link, IsNewest, new_link, receipts, synced_sendings}
use Rattle.cmh_resume3.specs.Moments.{Moments}
use Rattle.cmh_resume3.specs.Sender.{IsRunning, StandsFor, next_of, sent}

-- The receipts, synced or not, are a beginning of the synced sendings; what is acknowledged is synced at the receiver; and the
-- sender's end has the count, the mark and the rest of the messages that it was given.
pub record IsExact (l : Link) : Type 0 where
  pub begins : IsBeginningOf (receipts l) (synced_sendings l)
  pub known : l.out.acked ≤ length l.got
  pub stands : StandsFor l.out l.handed

-- At every moment, whatever connections end and whichever sites are killed, in any order.
abbrev pub Resumes : Type 0
Resumes = (n : Link) (between : List Link) → Moments new_link between n → IsExact n

-- The sender has written all messages on its connection, this is the claimed one and nothing was lost on it, it holds nothing,
-- and all is synced at the receiver.
pub record IsSettled (l : Link) (c : ℕ) : Type 0 where
  pub newest : IsNewest l c
  pub claimed : l.into.claim ≡ Some c
  pub whole : (l.line c).whole ≡ true
  pub running : IsRunning l.out.state
  pub all_given : l.waiting ≡ []
  pub all_written : next_of l.out.state ≡ sent l.out
  pub all_taken : (l.line c).frames ≡ []
  pub all_synced : l.fresh ≡ []

-- Then the receipts are all of the sendings, each once.
abbrev pub Arrives : Type 0
Arrives = (n : Link) (between : List Link) (c : ℕ) → Moments new_link between n → IsSettled n c → n.got ≡ synced_sendings n

-- All links of a world: from one moment to the next each link may go through any moments of its own.
abbrev pub WorldMoments : (ℕ → ℕ → Link) → List (ℕ → ℕ → Link) → (ℕ → ℕ → Link) → Type 0
WorldMoments w [] v = (a b : ℕ) → w a b ≡ v a b
WorldMoments w (u ∷ us) v = ((a b : ℕ) → (between : List Link) × Moments (w a b) between (u a b)) × WorldMoments u us v

abbrev pub AllResume : Type 0
AllResume = (v : ℕ → ℕ → Link) (between : List (ℕ → ℕ → Link)) → WorldMoments (λ a b. new_link) between v → (a b : ℕ) → IsExact (v a b)
