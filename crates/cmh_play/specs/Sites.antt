-- The sites of a world that is played.
use Rattle.std.specs.Prelude.{◌≡◌, List, map, All}
use Rattle.std.specs.List.Sorted.{IsStrictlyIncreasing}
use Rattle.cmh_frames.specs.Topology.{Topology, sites_of}
use Rattle.cmh_frames.specs.Journals.{IsLawful, value}
use Rattle.cmh_controller.specs.Controller.{Controller}
use Rattle.cmh_journal.specs.Journal.{Journal}
use Rattle.cmh_audit.specs.Journals.{AreAllLawful}

-- the controller that wrote a journal
abbrev pub controller_of : Topology → Journal → Controller
controller_of t j = record { topology = t; site = j.site; state = value t j.site j.entries }

-- A controller and the journal that it wrote.
pub record IsStanding (t : Topology) (c : Controller) (j : Journal) : Type 0 where
  pub edition : j.edition ≡ t.edition
  pub lawful : IsLawful t j.site j.entries
  pub wrote : c ≡ controller_of t j

-- ---- of all sites

-- there is one journal for each site, in the order of the sites
abbrev pub ArePlaced : Topology → List Journal → Type 0
ArePlaced t js = map (λ (j : Journal). j.site) js ≡ sites_of t

abbrev pub AreOfEdition : Topology → List Journal → Type 0
AreOfEdition t js = All (λ (j : Journal). j.edition ≡ t.edition) js

-- each controller wrote the journal at its place
abbrev pub ArePlayed : Topology → List Controller → List Journal → Type 0
ArePlayed t cs js = cs ≡ map (controller_of t) js

-- what holds of all sites of a world, whatever steps were taken
pub record AreStanding (t : Topology) (cs : List Controller) (js : List Journal) : Type 0 where
  pub ascending : IsStrictlyIncreasing (sites_of t)
  pub placed : ArePlaced t js
  pub edition : AreOfEdition t js
  pub lawful : AreAllLawful t js
  pub played : ArePlayed t cs js
