-- What the journals of one audit have to be.
use Rattle.std.specs.Prelude.{◌≡◌, Bool, false, not, ◌||◌, ◌==◌, if◌then◌else◌, List, [], ◌∷◌, Option, None, Some}
use Rattle.std.specs.List.{list_any}
use Rattle.cmh_frames.specs.Edition.{number_of}
use Rattle.cmh_frames.specs.Topology.{Topology, sites_of, is_site}
use Rattle.cmh_journal.specs.Journal.{Journal}
use Rattle.cmh_journal.specs.declared.set_fault.SetFault.{SetFault}
use Rattle.cmh_journal.specs.declared.set_fault.SetFault.TheVariants.{UnknownSite, OtherEdition, RepeatedSite, MissingSite}

-- two of the journals are of one site
abbrev pub repeats_site : List Journal → Bool
repeats_site [] = false
repeats_site (j ∷ journals) = list_any (λ (other : Journal). other.site == j.site) journals || repeats_site journals

-- The first fault that holds over all journals: a site that isn't in the topology, another edition than the topology's,
-- two journals of one site, or none of some site.
abbrev pub fault_of : Topology → List Journal → Option SetFault
fault_of t journals =
    if list_any (λ (j : Journal). not (is_site t j.site)) journals then Some UnknownSite
    else (if list_any (λ (j : Journal). not (number_of j.edition == number_of t.edition)) journals then Some OtherEdition
    else (if repeats_site journals then Some RepeatedSite
    else (if list_any (λ s. not (list_any (λ (j : Journal). j.site == s) journals)) (sites_of t) then Some MissingSite
    else None)))

-- each journal is of a site of the topology and of its edition, and each site has just one
abbrev pub IsSet : Topology → List Journal → Type 0
IsSet t journals = fault_of t journals ≡ None
