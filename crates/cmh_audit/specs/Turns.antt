-- Asks and replies turn the waits of two processes.
use Rattle.std.specs.Prelude.{◌≡◌, ℕ, zero, suc, Bool, not, ◌&&◌, ◌==◌, if◌then◌else◌, List, [], slice_index_or}
use Rattle.cmh_frames.specs.declared.event.Event.{Event}
use Rattle.cmh_frames.specs.declared.event.Event.TheVariants.{Ask, Reply, Start, Got}
use Rattle.cmh_frames.specs.Entries.{Entry}
use Rattle.cmh_frames.specs.Laws.{bit, count_of}
use Rattle.cmh_waits.specs.Rows.{is_in}

-- a truth value turned so many times
abbrev pub turned : ℕ → Bool → Bool
turned zero b = b
turned (suc n) b = not (turned n b)

-- how often an event turns the wait of j for k
abbrev pub turns_of : ℕ → ℕ → Event → ℕ
turns_of j k (Ask asker targets) = if asker == j then count_of (λ q. q == k) targets else 0
turns_of j k (Reply holder asker) = bit ((holder == k) && (asker == j))
turns_of j k (Start i) = 0
turns_of j k (Got from frame) = 0

abbrev pub turns : ℕ → ℕ → Entry → ℕ
turns j k e = turns_of j k e.event

-- whether the holder k is in the list at the number of the asker j; none is where the lists end before
abbrev pub is_open : List (List ℕ) → ℕ → ℕ → Bool
is_open rows j k = is_in (slice_index_or rows j []) k

-- each wait was turned f times
abbrev pub Turns : List (List ℕ) → List (List ℕ) → (ℕ → ℕ → ℕ) → Type 0
Turns old new f = (j k : ℕ) → is_open new j k ≡ turned (f j k) (is_open old j k)
