-- How a cluster ends.
use Rattle.std.proofs.Common.{◌≡◌, ℕ, Bool, List, Option, length, sym, subst}
use Rattle.cmh_console.specs.Device.{Writing}
use Rattle.cmh_files3.specs.Audits.{AuditEnds, OfTopology}
use Rattle.cmh_station3.specs.Files.{Held}
use Rattle.cmh_topology3.specs.Topology.{sites_of}
use Rattle.cmh_cluster3.specs.Endings.{Answered, EndsInAudit}

module _ {File : Type 0} (told : File → Option Held) (has_failed : File → Bool) where
  -- the files that were read back were audited
  pub audited : {W E : Type 0} (topology script : List ℕ) (old before new : Writing W) (err_old err_new : Writing E) (status : ℕ) (files read : List (List ℕ))
      → AuditEnds topology files before new err_old err_new status → files ≡ read
      → OfTopology topology (λ world. Answered told has_failed world script old.written before.written × (length read ≡ length (sites_of world)))
      → EndsInAudit told has_failed topology script old new err_old err_new status
  audited topology script old before new err_old err_new status files read ends same reads = record {
    files = files;
    before = before;
    reads = subst (λ (fs : List (List ℕ)). OfTopology topology (λ world. Answered told has_failed world script old.written before.written × (length fs ≡ length (sites_of world)))) (sym same) reads;
    ends = ends;
  }
