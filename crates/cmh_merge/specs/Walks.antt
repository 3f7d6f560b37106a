-- What a merge reads of a journal.
use Rattle.std.specs.Prelude.{◌≡◌, ℕ, List, [], ◌∷◌, ◌==◌, if◌then◌else◌, map}
use Rattle.cmh_runs.specs.declared.entry.Entry.{Entry}
use Rattle.cmh_merge.specs.declared.walk.Next.{Next}
use Rattle.cmh_merge.specs.declared.walk.Next.TheVariants.{End, Own, Got}
use Rattle.cmh_merge.specs.declared.walk.SiteWalk.{SiteWalk}

-- `got` says what an event got from a site
module _ {E F : Type 0} (got : ℕ → E → List F) where
  abbrev pub GotNothing : E → Type 0
  GotNothing event = (a : ℕ) → got a event ≡ []

  -- it got this frame of this site, and nothing of any other
  abbrev pub GotFrom : E → ℕ → F → Type 0
  GotFrom event from frame = (a : ℕ) → got a event ≡ (if from == a then frame ∷ [] else [])

  -- what is told of the next entry
  abbrev pub IsNext : List (Entry E F) → Next → Type 0
  IsNext left End = left ≡ []
  IsNext left Own = (e : Entry E F) × (es : List (Entry E F)) × (left ≡ e ∷ es) × GotNothing e.event
  IsNext left (Got from) =
      (e : Entry E F) × (es : List (Entry E F)) × (frame : F) × (left ≡ e ∷ es) × GotFrom e.event from frame

-- ---- walks as lists

abbrev pub sites_of : {W : Type 0} → List (SiteWalk W) → List ℕ
sites_of {W} walks = map (λ (w : SiteWalk W). w.site) walks

abbrev pub lefts_of : {W L : Type 0} → (W → L) → List (SiteWalk W) → List L
lefts_of {W} left walks = map (λ (w : SiteWalk W). left w.walk) walks
