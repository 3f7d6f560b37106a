-- The faults of a set of journals, as tests.
use Rattle.std.specs.Prelude.{ℕ, Bool, not, ◌==◌, List}
use Rattle.std.specs.List.{list_any}
use Rattle.cmh_frames.specs.declared.edition.Edition.{Edition}
use Rattle.cmh_frames.specs.Edition as edition
use Rattle.cmh_frames.specs.Topology.{Topology, is_site}
use Rattle.cmh_journal.specs.Journal.{Journal}

-- the journal is of a site that isn't in the topology
abbrev pub is_stranger : Topology → Journal → Bool
is_stranger t j = not (is_site t j.site)

abbrev pub is_of_other_edition : Edition → Journal → Bool
is_of_other_edition e j = not (edition.number_of j.edition == edition.number_of e)

-- one of the journals is of the site
abbrev pub has_journal : List Journal → ℕ → Bool
has_journal journals s = list_any (λ (j : Journal). j.site == s) journals

-- one of the sites has no journal
abbrev pub lacks_site : List ℕ → List Journal → Bool
lacks_site sites journals = list_any (λ s. not (has_journal journals s)) sites
