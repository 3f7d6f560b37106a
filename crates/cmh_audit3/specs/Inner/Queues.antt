-- The entries of each site that are not in a run yet, at the site's number.
use Rattle.std.specs.Prelude.{◌≡◌, ℕ, ◌==◌, List, [], ◌∷◌, if◌then◌else◌, slice_index_or, Option, None, Some}
use Rattle.cmh_segment3.specs.declared.entry.Entry.{Entry}
use Rattle.cmh_segment3.specs.declared.segment.Segment.{Segment}

abbrev pub Queues : Type 0
Queues = List (List Entry)

abbrev pub queue_at : Queues → ℕ → List Entry
queue_at queues s = slice_index_or queues s []

-- the entry at its own site, and nothing at others
abbrev pub if_some_at : ℕ → Option Entry → ℕ → List Entry
if_some_at site None s = []
if_some_at site (Some entry) s = if site == s then entry ∷ [] else []

abbrev pub SameQueues : Queues → Queues → Type 0
SameQueues old new = (s : ℕ) → queue_at new s ≡ queue_at old s

-- the entries of a site's segment; where it has none, those that are given
abbrev pub journal_over : List Segment → (ℕ → List Entry) → ℕ → List Entry
journal_over [] others s = others s
journal_over (g ∷ segments) others s = if g.header.site == s then g.entries else journal_over segments others s
