-- The journals of a world over several epochs, as those of one run.
use Rattle.std.specs.Prelude.{◌≡◌, ℕ, ⊤, nat_le, List, flat_map, filter, Option, None, Some}
use Rattle.std.specs.List.{AllZip}
use Rattle.cmh_topology3.specs.Topology.{Topology}
use Rattle.cmh_segment3.specs.declared.segment.Segment.{Segment}
use Rattle.cmh_console.specs.TopologyFile3.{SaysNoWorld}
use Rattle.cmh_files3.specs.Audits.{IsFindingOn, IsOfNoTopology, SaysTopology}
use Rattle.cmh_files3.specs.declared.audit_fault.AuditFault.{AuditFault}
use Rattle.cmh_files3.specs.declared.audit_fault.AuditFault.TheVariants.{Json, Topology as NoTopology, Output, Memory}
use Rattle.cmh_files3.specs.declared.auditing.Finding.{Finding}
use Rattle.cmh_history3.specs.Epochs.{open_in}
use Rattle.cmh_long_audit3.specs.Read.{AreRead}

-- those of the segments of a journal that are of no later epoch; all, where none is named
abbrev pub up_to : Option ℕ → List Segment → List Segment
up_to None segments = segments
up_to (Some last) segments = filter (λ (g : Segment). nat_le g.header.epoch last) segments

-- the files are those of segments, of which the journal has those up to the epoch
pub record IsReadUpTo (last : Option ℕ) (files : List (List ℕ)) (journal : List Segment) : Type 0 where
  pub segments : List Segment
  pub read : AreRead files segments
  pub journal_is : journal ≡ up_to last segments

abbrev pub AreReadUpTo : Option ℕ → List (List (List ℕ)) → List (List Segment) → Type 0
AreReadUpTo last files journals = AllZip (IsReadUpTo last) files journals

-- the files are those of journals, and of each there is one segment, in which the entries of each later segment stand behind
-- the turn to it
pub record AreWholesOf (last : Option ℕ) (files : List (List (List ℕ))) (wholes : List Segment) : Type 0 where
  pub journals : List (List Segment)
  pub read : AreReadUpTo last files journals
  pub wholes_are : wholes ≡ flat_map (open_in 0) journals

-- the topology file says the world, and it is the finding on the journals as those of one run
pub record AuditsUpTo (last : Option ℕ) (topology : List ℕ) (files : List (List (List ℕ))) (world : Topology) (finding : Finding) : Type 0 where
  pub says : SaysTopology topology world
  pub wholes : List Segment
  pub are_wholes : AreWholesOf last files wholes
  pub finds : IsFindingOn world wholes finding

-- the fault is one of the journals, or of memory
abbrev pub IsOfJournals : AuditFault → Type 0
IsOfJournals Json = ⊥
IsOfJournals (NoTopology fault) = ⊥
IsOfJournals Output = ⊥
IsOfJournals fault = ⊤

-- Why there is none: the topology file says no world, or it says one, and the journals or memory are at fault.
abbrev pub IsWholesFault : List ℕ → AuditFault → Type 0
IsWholesFault topology Json = SaysNoWorld topology
IsWholesFault topology (NoTopology fault) = IsOfNoTopology topology fault
IsWholesFault topology Memory = ⊤
IsWholesFault topology Output = ⊥
IsWholesFault topology fault = (world : Topology) × SaysTopology topology world
