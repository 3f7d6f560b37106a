-- Epochs whose bases are such as can be read, and the run that they are.
use Rattle.std.proofs.Common.{◌≡◌, ℕ, ◌==◌, Bool, true, false, List, [], ◌∷◌, ◌++◌, map, if◌then◌else◌, sym, subst}
use Rattle.std.specs.Prelude.{flat_map}
use Rattle.std.specs.List.{All, AllByRecursion}
use Rattle.std.proofs.lemmas.List.Elements.{All-from_recursion}
use Rattle.cmh_epochs3.specs.Laws.{IsRunFrom, RunsBeginAtFirst, World}
use Rattle.cmh_topology3.specs.Topology.{Topology, site_of}
use Rattle.cmh_segment3.specs.Base.{IsBase}
use Rattle.cmh_segment3.specs.declared.segment.Segment.{Segment}
use Rattle.cmh_history3.specs.EpochSet.{IsEpochSet}
use Rattle.cmh_history3.specs.Chains.{AreOneRun, IsReadEpoch}
use Rattle.cmh_history3.specs.Epochs.{AreEpochs, behind, followed, left_behind, open_in, standing, standing_in, without_entries}
use Rattle.cmh_history3.specs.Histories.{AreOfOneRun, AreReadBases}
use Rattle.cmh_history3.specs.Inner.Sets.{BeginWorld}
use Rattle.cmh_history3.proofs.Beginning.{begins_first}

-- ---- bases

bases_append : (xs ys : List Segment) → AreReadBases xs → AreReadBases ys → AreReadBases (xs ++ ys)
bases_append [] ys all others = others
bases_append (x ∷ xs) ys all others = (all.0, bases_append xs ys all.1 others)

bases_standing : (epoch : ℕ) (journal : List Segment) → AreReadBases journal → AreReadBases (standing epoch journal)
bases_standing epoch [] all = tt
bases_standing epoch (g ∷ gs) all = (by_case (g.header.epoch == epoch), tt)
  where
    by_case : (b : Bool) → IsBase (if b then g else without_entries epoch g).base
    by_case true = all.0
    by_case false = all.0

bases_behind : (epoch : ℕ) (journal : List Segment) → AreReadBases journal → AreReadBases (behind epoch journal)
bases_behind epoch [] all = tt
bases_behind epoch (g ∷ gs) all = by_case (g.header.epoch == epoch)
  where
    by_case : (b : Bool) → AreReadBases (if b then gs else g ∷ gs)
    by_case true = all.1
    by_case false = all

bases_followed : (later segments : List Segment) → AreReadBases segments → AreReadBases (map (λ g. followed g later) segments)
bases_followed later [] all = tt
bases_followed later (g ∷ gs) all = (all.0, bases_followed later gs all.1)

bases_open : (epoch : ℕ) (journal : List Segment) → AreReadBases journal → AreReadBases (open_in epoch journal)
bases_open epoch journal all = bases_followed (behind epoch journal) (standing epoch journal) (bases_standing epoch journal all)

bases_flat : (f : List Segment → List Segment) → ((journal : List Segment) → AreReadBases journal → AreReadBases (f journal)) → (journals : List (List Segment)) → AllByRecursion AreReadBases journals
    → AreReadBases (flat_map f journals)
bases_flat f keeps [] all = tt
bases_flat f keeps (journal ∷ journals) all = bases_append (f journal) (flat_map f journals) (keeps journal all.0) (bases_flat f keeps journals all.1)

bases_left : (epoch : ℕ) (journals : List (List Segment)) → AllByRecursion AreReadBases journals → AllByRecursion AreReadBases (map (behind epoch) journals)
bases_left epoch [] all = tt
bases_left epoch (journal ∷ journals) all = (bases_behind epoch journal all.0, bases_left epoch journals all.1)

bases_rows : (closed : List ℕ) (last : ℕ) (journals : List (List Segment)) → AllByRecursion AreReadBases journals
    → AllByRecursion AreReadBases (standing_in closed journals ++ flat_map (open_in last) (left_behind closed journals) ∷ [])
bases_rows [] last journals all = (bases_flat (open_in last) (bases_open last) journals all, tt)
bases_rows (epoch ∷ closed) last journals all =
    (bases_flat (standing epoch) (bases_standing epoch) journals all, bases_rows closed last (map (behind epoch) journals) (bases_left epoch journals all))

-- the epochs of journals with such bases can be read
pub read_epochs : (t : Topology) (journals epochs : List (List Segment)) → AllByRecursion AreReadBases journals → AreEpochs journals epochs → All (IsEpochSet t) epochs → All (IsReadEpoch t) epochs
read_epochs t journals epochs all are sets k d l =
    let rows : AllByRecursion AreReadBases epochs = subst (AllByRecursion AreReadBases) (sym are.epochs_are) (bases_rows are.closed are.last journals all) in
    record {
      set = sets k d l;
      bases = All-from_recursion (λ (g : Segment). IsBase g.base) _ (All-from_recursion AreReadBases epochs rows k d l);
    }

-- ---- the run

not_empty : {X : Type 0} (xs : List X) (x : X) → [] ≡ xs ++ x ∷ [] → ⊥
not_empty [] x e = absurd (cc e)
not_empty (y ∷ xs) x e = absurd (cc e)

pub one_history : (t : Topology) (journals epochs : List (List Segment)) → RunsBeginAtFirst → AreEpochs journals epochs → BeginWorld t epochs → AreOneRun t epochs → AreOfOneRun t journals
one_history t journals [] law are begin one = absurd (not_empty _ _ are.epochs_are)
one_history t journals (first ∷ more) law are begin one = record {
  first = first;
  more = more;
  epochs = are;
  begin = begin;
  events = one.events;
  run = (law (site_of t) one.events).is_run (subst (λ (world : World). IsRunFrom (site_of t) world one.events) (begins_first t first begin) one.run);
  comes = one.comes;
}
