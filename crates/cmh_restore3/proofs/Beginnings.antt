-- How the journals of a world are begun, site by site.
use Rattle.std.proofs.Common.{◌≡◌, ℕ, ◌+◌, ◌<◌, ◌≤◌, List, [], ◌∷◌, ◌++◌, length, take, get_or, refl, sym, ap, subst, ◌∙◌}
use Rattle.std.proofs.lemmas.List.{take_all, take_more}
use Rattle.cmh_frames.specs.Rows.{Row}
use Rattle.cmh_console.specs.TopologyFile3.{SaysWorld}
use Rattle.cmh_files3.specs.Audits.{SaysTopology}
use Rattle.cmh_topology3.specs.Topology.{IsTopologyOf, Topology}
use Rattle.cmh_segment3.specs.declared.segment.Segment.{Segment}
use Rattle.cmh_restore3.specs.Keeping.{BeginsEach, BeginsJournal}

-- the file says the topology of its rows
pub says_topology : (file world : List ℕ) (rows : List Row) (t : Topology) → SaysWorld file world rows → IsTopologyOf world rows t → SaysTopology file t
says_topology file world rows t says is = (
  rows,
  subst (λ (w : List ℕ). SaysWorld file w rows) (sym is.world_is) says,
  subst (λ (w : List ℕ). IsTopologyOf w rows t) (sym is.world_is) is,
)

module _ {K : Type 0} (Begins : K → ℕ → ℕ → List ℕ → K → Type 0) (segments : List Segment) where
  one_more : (sites : List ℕ) (s : ℕ) (old mid new : K) → BeginsEach Begins segments sites old mid → BeginsJournal Begins segments s mid new
      → BeginsEach Begins segments (sites ++ s ∷ []) old new
  one_more [] s old mid new same begun = (new, subst (λ (k : K). BeginsJournal Begins segments s k new) same begun, refl)
  one_more (x ∷ sites) s old mid new so_far begun = (so_far.0, so_far.1, one_more sites s so_far.0 mid new so_far.2 begun)

  pub begins_more : (sites : List ℕ) (i s : ℕ) (old mid new : K) → i < length sites → s ≡ get_or sites i s
      → BeginsEach Begins segments (take i sites) old mid → BeginsJournal Begins segments s mid new → BeginsEach Begins segments (take (i + 1) sites) old new
  begins_more sites i s old mid new inside is so_far begun =
      subst (λ (ss : List ℕ). BeginsEach Begins segments ss old new) (sym (take_more sites i s inside ∙ ap (λ y. take i sites ++ y ∷ []) (sym is)))
      (one_more (take i sites) s old mid new so_far begun)

  pub begins_all : (sites : List ℕ) (i : ℕ) (old new : K) → length sites ≤ i → BeginsEach Begins segments (take i sites) old new → BeginsEach Begins segments sites old new
  begins_all sites i old new past so_far = subst (λ (ss : List ℕ). BeginsEach Begins segments ss old new) (take_all i sites past) so_far
