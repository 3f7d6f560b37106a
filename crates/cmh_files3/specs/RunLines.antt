-- The entries of a run as lines.
use Rattle.std.specs.Prelude.{◌≡◌, ℕ, ◌+◌, ◌==◌, List, [], ◌∷◌, ◌++◌, codes, slice_get, Option, None, Some}
use Rattle.std.specs.Fmt.{decimal}
use Rattle.cmh_frames.specs.Laws.{count_of}
use Rattle.cmh_topology3.specs.Topology.{Topology}
use Rattle.cmh_segment3.specs.declared.entry.Entry.{Entry}
use Rattle.cmh_segment3.specs.declared.segment.Segment.{Segment}
use Rattle.cmh_audit3.specs.Journals.{journal_of}
use Rattle.cmh_audit3.specs.Verdicts.{IsOrderOf}
use Rattle.cmh_files3.specs.EntryTexts.{line_text}

-- the line of a journal, after its site; nothing where there is no such entry
abbrev pub entry_line : ℕ → ℕ → Option Entry → List ℕ
entry_line site number None = []
entry_line site number (Some entry) = decimal site ++ codes " " ++ line_text number entry

-- how many entries a site took, where the sites took their entries in this order
abbrev pub taken_by : List ℕ → ℕ → ℕ
taken_by order s = count_of (λ site. site == s) order

-- the line of the entry that a site takes next
abbrev pub next_line : (ℕ → List Entry) → List ℕ → ℕ → List ℕ
next_line journals so_far site =
    entry_line site (taken_by so_far site + 1) (slice_get (journals site) (taken_by so_far site))

-- a line for each entry that the sites take in this order, after those that they took so far
abbrev pub lines_after : (ℕ → List Entry) → List ℕ → List ℕ → List ℕ
lines_after journals so_far [] = []
lines_after journals so_far (site ∷ order) =
    next_line journals so_far site ++ lines_after journals (so_far ++ site ∷ []) order

abbrev pub order_text : (ℕ → List Entry) → List ℕ → List ℕ
order_text journals order = lines_after journals [] order

-- a line for each entry of the segments, in the order of a run from which they come
pub record AreRunLines (t : Topology) (segments : List Segment) (text : List ℕ) : Type 0 where
  pub order : List ℕ
  pub is_order : IsOrderOf t segments order
  pub text_is : text ≡ order_text (journal_of segments) order
