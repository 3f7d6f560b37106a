-- How a cluster ends: what it wrote, or why it did not get so far.
use Rattle.std.specs.Prelude.{◌≡◌, ℕ, Bool, true, false, ◌⊎◌, List, [], ◌∷◌, ◌++◌, length, map, codes, Option, Result, Ok, Err, ⊤, flat_map}
use Rattle.std.specs.Io.KnownBytes.{Appends}
use Rattle.cmh_frames.specs.Topology.{Topology, sites_of}
use Rattle.cmh_console.specs.Device.{Writing}
use Rattle.cmh_files.specs.Audits.{AuditEnds}
use Rattle.cmh_console.specs.Faults.{NamesFault}
use Rattle.cmh_console.specs.TopologyFile.{IsOfNoTopology, OfTopology, SaysNoPorts}
use Rattle.cmh_console.specs.Dialogue.{Conversed}
use Rattle.cmh_console.specs.declared.dialogue.DialogueFault.TheVariants.{Input}
use Rattle.cmh_console.specs.declared.dialogue.Flow.{Flow}
use Rattle.cmh_console.specs.declared.dialogue.Flow.TheVariants.{Awaits, Ends}
use Rattle.cmh_talk.specs.SiteReplies.{closed_text}
use Rattle.cmh_cluster.specs.ClusterFaults.{as_fault}
use Rattle.cmh_cluster.specs.ClusterTalk.{IsTurnOfCluster}
use Rattle.cmh_cluster.specs.declared.cluster_fault.ClusterFault.{ClusterFault}
use Rattle.cmh_cluster.specs.declared.cluster_fault.ClusterFault.TheVariants.{ScriptFile, OutFile, Json, Topology as NoTopology, Listen, Output, Memory}
use Rattle.cmh_cluster.specs.declared.cluster.Played.{Played}
use Rattle.cmh_cluster.specs.declared.cluster.Played.TheVariants.{Read, NotSettled}
use Rattle.cmh_talk.specs.declared.site_reply.ClosedLink.{ClosedLink}

-- ---- what was written

-- some first lines of the script were answered, or none
abbrev pub Begun : Topology → List ℕ → Option (List ℕ) → Option (List ℕ) → Bool → Type 0
Begun t script old new has_failed = Conversed (IsTurnOfCluster t) tt script old new has_failed (Err Input)

abbrev pub closed_line : ClosedLink → List ℕ
closed_line link = closed_text link ++ 10 ∷ []

-- links were named that had closed
pub record NamesClosed (old new : Option (List ℕ)) : Type 0 where
  pub links : List ClosedLink
  pub wrote : Appends old new (flat_map closed_line links)

-- all lines of the script were answered, and then links were named that had closed, each on a line
abbrev pub Answered : Topology → List ℕ → Option (List ℕ) → Option (List ℕ) → Type 0
Answered t script old new = (said : Option (List ℕ)) × (links : List ClosedLink)
    × Conversed (IsTurnOfCluster t) tt script old said false (Ok Awaits)
    × Appends said new (flat_map (λ (link : ClosedLink). closed_text link ++ 10 ∷ []) links)

-- the lines of the script were answered, all of them or up to one, and nothing else was written but names of links
abbrev pub HasPlayed : Topology → List ℕ → Option (List ℕ) → Option (List ℕ) → Flow → Type 0
HasPlayed t script old new Awaits = Answered t script old new
HasPlayed t script old new Ends = Conversed (IsTurnOfCluster t) tt script old new false (Ok Ends)

-- ---- why all sites end early

-- why the sites of a topology are not started
abbrev pub IsStartFault : ClusterFault → Type 0
IsStartFault OutFile = ⊤
IsStartFault Listen = ⊤
IsStartFault Memory = ⊤
IsStartFault fault = ⊥

-- why they are not started, or end before their script's end, and what was written then
abbrev pub IsRunFault : Topology → List ℕ → Option (List ℕ) → Option (List ℕ) → Bool → ClusterFault → Type 0
IsRunFault t script old new write_failed OutFile = new ≡ old
IsRunFault t script old new write_failed Listen = new ≡ old
IsRunFault t script old new write_failed ScriptFile = Begun t script old new write_failed
IsRunFault t script old new write_failed Memory = Begun t script old new write_failed
IsRunFault t script old new write_failed Output = write_failed ≡ true
IsRunFault t script old new write_failed fault = ⊥

-- Why a cluster ends without an audit, and what was written then. What a disk or a port refuses comes only where the file
-- is that of a topology: a journal's file is refused before all lines, or after them, when it is read back.
abbrev pub IsClusterFault : List ℕ → List ℕ → Option (List ℕ) → Option (List ℕ) → Bool → ClusterFault → Type 0
IsClusterFault topology script old new write_failed Json = SaysNoPorts topology × (new ≡ old)
IsClusterFault topology script old new write_failed (NoTopology fault) = IsOfNoTopology topology fault × (new ≡ old)
IsClusterFault topology script old new write_failed Listen = OfTopology topology (λ world. new ≡ old)
IsClusterFault topology script old new write_failed OutFile = OfTopology topology (λ world. (new ≡ old) ⊎ Answered world script old new)
IsClusterFault topology script old new write_failed ScriptFile = OfTopology topology (λ world. Begun world script old new write_failed)
IsClusterFault topology script old new write_failed Memory =
    (new ≡ old) ⊎ OfTopology topology (λ world. Begun world script old new write_failed ⊎ Answered world script old new)
IsClusterFault topology script old new write_failed Output = write_failed ≡ true

-- ---- how a cluster ends

-- the lines of the script were answered up to one after which frames did not come, and that was said
abbrev pub SaysNotSettled : List ℕ → List ℕ → Option (List ℕ) → Option (List ℕ) → Type 0
SaysNotSettled topology script old new = OfTopology topology (λ world. (said : Option (List ℕ))
    × Conversed (IsTurnOfCluster world) tt script old said false (Ok Ends) × Appends said new (codes "not settled\n"))

-- what the play of a script comes to
abbrev pub ComesTo : List ℕ → List ℕ → Option (List ℕ) → Option (List ℕ) → Bool → Played → Type 0
ComesTo topology script old new is_flushed (Read files) = OfTopology topology (λ world. Answered world script old new
    × (length (map (λ file. file.items) files.items) ≡ length (sites_of world)))
ComesTo topology script old new is_flushed NotSettled = SaysNotSettled topology script old new × (is_flushed ≡ true)

-- The sites settled after each line, a file for each site was read back, and these were audited: the audit stands after
-- the answers, and its status is that of the command.
pub record EndsInAudit {W E : Type 0} (topology script : List ℕ) (old new : Writing W) (err_old err_new : Writing E)
    (status : ℕ) : Type 0 where
  pub files : List (List ℕ)
  pub before : Writing W
  pub reads : OfTopology topology (λ world. Answered world script old.written before.written
      × (length files ≡ length (sites_of world)))
  pub ends : AuditEnds topology files before new err_old err_new status

-- A cluster ended in an audit; or the sites did not settle, which was flushed, and the status is 1; or a fault was named
-- that has its cause.
abbrev pub ClusterEnds : {W E : Type 0} → List ℕ → List ℕ → Writing W → Writing W → Writing E → Writing E → ℕ → Type 0
ClusterEnds topology script old new err_old err_new status =
    EndsInAudit topology script old new err_old err_new status
    ⊎ (SaysNotSettled topology script old.written new.written × (new.is_flushed ≡ true) × (err_new ≡ err_old) × (status ≡ 1))
    ⊎ NamesFault as_fault (IsClusterFault topology script old.written new.written new.has_failed) status err_old err_new
