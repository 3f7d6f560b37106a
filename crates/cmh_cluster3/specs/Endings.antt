-- How a cluster of edition 3 ends: what it wrote, or why it did not get so far.
use Rattle.std.specs.Prelude.{◌≡◌, ℕ, Bool, true, false, ◌⊎◌, List, length, map, codes, Option, Ok, Err, flat_map}
use Rattle.std.specs.Io.KnownBytes.{Appends}
use Rattle.cmh_console.specs.Device.{Writing}
use Rattle.cmh_console.specs.Faults.{NamesFault}
use Rattle.cmh_console.specs.TopologyFile3.{SaysNoWorld}
use Rattle.cmh_console.specs.declared.dialogue.DialogueFault.TheVariants.{Input}
use Rattle.cmh_console.specs.declared.dialogue.Flow.{Flow}
use Rattle.cmh_console.specs.declared.dialogue.Flow.TheVariants.{Awaits, Ends}
use Rattle.cmh_disk3.specs.declared.disk_file.DiskFile.{DiskFile}
use Rattle.cmh_files3.specs.Audits.{AuditEnds, IsOfNoTopology, OfTopology}
use Rattle.cmh_station3.specs.Files.{Held}
use Rattle.cmh_node3.specs.Nodes.{Node}
use Rattle.cmh_topology3.specs.Topology.{Topology as World, sites_of}
use Rattle.cmh_cluster3.specs.Faults.{as_fault}
use Rattle.cmh_cluster3.specs.Replies.{link_text}
use Rattle.cmh_cluster3.specs.Sites.{AllStart}
use Rattle.cmh_cluster3.specs.Talks.{Conversed}
use Rattle.cmh_cluster3.specs.Turns.{IsTurn}
use Rattle.cmh_cluster3.specs.declared.cluster.Played.{Played}
use Rattle.cmh_cluster3.specs.declared.cluster.Played.TheVariants.{Read, NotSettled}
use Rattle.cmh_cluster3.specs.declared.cluster_fault.ClusterFault3.{ClusterFault3}
use Rattle.cmh_cluster3.specs.declared.cluster_fault.ClusterFault3.TheVariants.{Json, Topology, ScriptFile, OutFile, Output, Memory}
use Rattle.cmh_cluster3.specs.declared.reply.KeptLink.{KeptLink}

-- links were named that keep messages or were refused, each on a line
abbrev pub NamesLinks : Option (List ℕ) → Option (List ℕ) → Type 0
NamesLinks old new = (links : List KeptLink) × Appends old new (flat_map link_text links)

module _ {File : Type 0} (told : File → Option Held) (has_failed : File → Bool) where
  -- all sites were started, and some first lines of the script were answered, or none
  pub record Begun (t : World) (script : List ℕ) (old new : Option (List ℕ)) (failed : Bool) : Type 0 where
    pub first : List (Option (Node File))
    pub starts : AllStart told has_failed t first
    pub talked : Conversed (IsTurn told has_failed t) first script old new failed (Err Input)

  -- all sites were started, and the lines of the script were answered: all of them, or up to one after which the sites did not
  -- settle
  pub record Talks (t : World) (script : List ℕ) (flow : Flow) (old new : Option (List ℕ)) : Type 0 where
    pub first : List (Option (Node File))
    pub starts : AllStart told has_failed t first
    pub talked : Conversed (IsTurn told has_failed t) first script old new false (Ok flow)

  -- all lines were answered, and then links were named
  pub record Answered (t : World) (script : List ℕ) (old new : Option (List ℕ)) : Type 0 where
    pub said : Option (List ℕ)
    pub talks : Talks t script Awaits old said
    pub names : NamesLinks said new

  abbrev pub HasPlayed : World → List ℕ → Option (List ℕ) → Option (List ℕ) → Flow → Type 0
  HasPlayed t script old new Awaits = Answered t script old new
  HasPlayed t script old new Ends = Talks t script Ends old new

  -- why the sites are not started, or end before their script's end, and what was written then
  abbrev pub IsPlayFault : World → List ℕ → Option (List ℕ) → Option (List ℕ) → Bool → ClusterFault3 → Type 0
  IsPlayFault t script old new failed OutFile = new ≡ old
  IsPlayFault t script old new failed ScriptFile = Begun t script old new failed
  IsPlayFault t script old new failed Memory = (new ≡ old) ⊎ Begun t script old new failed
  IsPlayFault t script old new failed Output = failed ≡ true
  IsPlayFault t script old new failed fault = ⊥

  -- Why a cluster ends without an audit, and what was written then. A journal's file is refused before all lines, or after
  -- them, when it is read back.
  abbrev pub IsClusterFault : List ℕ → List ℕ → Option (List ℕ) → Option (List ℕ) → Bool → ClusterFault3 → Type 0
  IsClusterFault topology script old new failed Json = SaysNoWorld topology × (new ≡ old)
  IsClusterFault topology script old new failed (Topology fault) = IsOfNoTopology topology fault × (new ≡ old)
  IsClusterFault topology script old new failed OutFile =
      OfTopology topology (λ world. (new ≡ old) ⊎ Answered world script old new)
  IsClusterFault topology script old new failed ScriptFile = OfTopology topology (λ world. Begun world script old new failed)
  IsClusterFault topology script old new failed Memory =
      (new ≡ old) ⊎ OfTopology topology (λ world. Begun world script old new failed ⊎ Answered world script old new)
  IsClusterFault topology script old new failed Output = failed ≡ true

  -- the lines of the script were answered up to one after which the sites did not settle, and that was said
  abbrev pub SaysNotSettled : List ℕ → List ℕ → Option (List ℕ) → Option (List ℕ) → Type 0
  SaysNotSettled topology script old new = OfTopology topology (λ world. (said : Option (List ℕ))
      × Talks world script Ends old said × Appends said new (codes "not settled\n"))

  -- what the play of a script comes to
  abbrev pub ComesTo : List ℕ → List ℕ → Option (List ℕ) → Option (List ℕ) → Bool → Played → Type 0
  ComesTo topology script old new is_flushed (Read files) = OfTopology topology (λ world. Answered world script old new
      × (length (map (λ file. file.items) files.items) ≡ length (sites_of world)))
  ComesTo topology script old new is_flushed NotSettled = SaysNotSettled topology script old new × (is_flushed ≡ true)

  -- The sites settled after each line, a file for each site was read back, and these were audited: the audit stands after
  -- the answers, and its status is that of the command.
  pub record EndsInAudit {W E : Type 0} (topology script : List ℕ) (old new : Writing W) (err_old err_new : Writing E)
      (status : ℕ) : Type 0 where
    pub files : List (List ℕ)
    pub before : Writing W
    pub reads : OfTopology topology (λ world. Answered world script old.written before.written
        × (length files ≡ length (sites_of world)))
    pub ends : AuditEnds topology files before new err_old err_new status

  -- A cluster ended in an audit; or the sites did not settle, which was flushed, and the status is 1; or a fault was named
  -- that has its cause.
  abbrev pub ClusterEnds : {W E : Type 0} → List ℕ → List ℕ → Writing W → Writing W → Writing E → Writing E → ℕ → Type 0
  ClusterEnds topology script old new err_old err_new status =
      EndsInAudit topology script old new err_old err_new status
      ⊎ (SaysNotSettled topology script old.written new.written × (new.is_flushed ≡ true) × (err_new ≡ err_old) × (status ≡ 1))
      ⊎ NamesFault as_fault (IsClusterFault topology script old.written new.written new.has_failed) status err_old err_new

-- The same of folders on the disk, of which nothing is told.
abbrev pub DiskClusterEnds : {W E : Type 0} → List ℕ → List ℕ → Writing W → Writing W → Writing E → Writing E → ℕ → Type 0
DiskClusterEnds topology script old new err_old err_new status = (told : DiskFile → Option Held) × (has_failed : DiskFile → Bool)
    × ClusterEnds told has_failed topology script old new err_old err_new status
