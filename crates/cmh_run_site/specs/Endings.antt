-- How a running site ends: what it wrote, or why it did not get so far.
use Rattle.std.specs.Prelude.{◌≡◌, ℕ, Bool, true, false, List, [], ◌++◌, codes, ◌⊎◌, Option, Result, Ok, MatchResult, ⊤}
use Rattle.std.specs.Io.KnownBytes.{Appends}
use Rattle.cmh_frames.specs.Topology.{Topology, is_site}
use Rattle.cmh_console.specs.Device.{Tells}
use Rattle.cmh_console.specs.TopologyFile.{IsOfNoTopology, OfTopology, SaysNoPorts, SaysTopology}
use Rattle.cmh_console.specs.Dialogue.{Dialogue, IsDialogueFault, IsTextOf}
use Rattle.cmh_console.specs.declared.dialogue.DialogueFault.{DialogueFault}
use Rattle.cmh_console.specs.declared.dialogue.DialogueFault.TheVariants as dialogue
use Rattle.cmh_console.specs.declared.dialogue.Flow.{Flow}
use Rattle.cmh_console.specs.declared.dialogue.Flow.TheVariants.{Awaits}
use Rattle.cmh_setting.specs.declared.site_fault.SiteFault.{SiteFault}
use Rattle.cmh_setting.specs.declared.site_fault.SiteFault.TheVariants.{Json, Topology as NoTopology, Site, JournalDisk, Listen, Input, Output, Memory}
use Rattle.cmh_run_site.specs.SiteTalk.{IsTurnOfSite}

-- ---- the start

-- the topology file is that of a topology which has the site, or which doesn't
abbrev pub Knows : List ℕ → ℕ → Bool → Type 0
Knows topology site is_known = OfTopology topology (λ t. is_site t site ≡ is_known)

-- ---- one site

-- Why a site ends before it is told to. What a disk or a port refuses comes only where the topology has the site.
abbrev pub IsSiteFault : List ℕ → ℕ → Option (List ℕ) → Bool → Bool → SiteFault → Type 0
IsSiteFault topology site bytes read_failed write_failed Json = SaysNoPorts topology
IsSiteFault topology site bytes read_failed write_failed (NoTopology fault) = IsOfNoTopology topology fault
IsSiteFault topology site bytes read_failed write_failed Site = Knows topology site false
IsSiteFault topology site bytes read_failed write_failed JournalDisk = Knows topology site true
IsSiteFault topology site bytes read_failed write_failed Listen = Knows topology site true
IsSiteFault topology site bytes read_failed write_failed Input = IsDialogueFault bytes read_failed write_failed dialogue.Input
IsSiteFault topology site bytes read_failed write_failed Output = write_failed ≡ true
IsSiteFault topology site bytes read_failed write_failed Memory = ⊤

-- a site said that it listens, and then answered its lines, up to a fault if there is one
pub record Welcomed (t : Topology) (site : ℕ) (was : Bool) (bytes : List ℕ) (old new : Option (List ℕ)) (has_failed : Bool)
    (result : Result Flow DialogueFault) : Type 0 where
  pub text : List ℕ
  pub is : IsTextOf Bool (IsTurnOfSite t site) was bytes text result
  pub wrote : MatchResult result (λ flow. Appends old new (codes "listening\n" ++ text))
      (λ fault. Tells old new has_failed (codes "listening\n" ++ text))

-- a site of a topology file said that it listens, answered all lines, or those up to `quit`, and said that it stopped
pub record Served (topology : List ℕ) (site : ℕ) (bytes : List ℕ) (old new : Option (List ℕ)) : Type 0 where
  pub t : Topology
  pub says : SaysTopology topology t
  pub has_site : is_site t site ≡ true
  pub text : List ℕ
  pub flow : Flow
  pub is : IsTextOf Bool (IsTurnOfSite t site) false bytes text (Ok flow)
  pub wrote : Appends old new (codes "listening\n" ++ text ++ codes "stopped\n")

-- a text says that a site listens, and answers its lines up to some rest
pub record BeganToServe (t : Topology) (site : ℕ) (bytes text : List ℕ) : Type 0 where
  pub rest : List ℕ
  pub answers : List ℕ
  pub is_connected : Bool
  pub is : Dialogue Bool (IsTurnOfSite t site) false bytes rest answers is_connected Awaits
  pub text_is : text ≡ codes "listening\n" ++ answers

-- A site that ended at a fault wrote nothing, or, where the topology has it, that it listens and then its answers up to
-- there, unless the writer failed.
pub record EndedEarly (topology : List ℕ) (site : ℕ) (bytes : List ℕ) (old new : Option (List ℕ)) (has_failed : Bool)
    : Type 0 where
  pub text : List ℕ
  pub is : (text ≡ []) ⊎ OfTopology topology (λ t. (is_site t site ≡ true) × BeganToServe t site bytes text)
  pub wrote : Tells old new has_failed text
