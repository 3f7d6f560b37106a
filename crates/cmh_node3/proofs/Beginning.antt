-- A site that begins where its station was opened.
use Rattle.std.proofs.Common.{◌≡◌, ℕ, ◌<◌, Bool, false, List, [], ◌∷◌, length, map, get_or, Option, None, Some, refl, sym, ap, ◌∙◌, subst, arith, append-nil}
use Rattle.std.specs.List.Sorted.{IsStrictlyIncreasing}
use Rattle.std.proofs.lemmas.List.{get_or-map, length-map}
use Rattle.cmh_journaled.specs.Keepers.{unsent}
use Rattle.cmh_journaled.specs.Steps.{HandedOver}
use Rattle.cmh_model3.specs.Entries.{Entry as Step}
use Rattle.cmh_topology3.specs.Topology.{Topology, sites_of}
use Rattle.cmh_station3.specs.Files.{Held}
use Rattle.cmh_station3.specs.Opening.{Opened}
use Rattle.cmh_segment3.specs.declared.links.LinkState.{LinkState}
use Rattle.cmh_segment3.specs.Base.{IsLinkRow, link_place}
use Rattle.cmh_segment3.specs.Rows.{AreRows}
use Rattle.cmh_station3.specs.declared.beginning.Beginning.{Beginning}
use Rattle.cmh_node3.specs.Links.{link_at, met_from}
use Rattle.cmh_node3.specs.Peers.{IsGiven, IsGivenPart, others as others_but}
use Rattle.cmh_node3.specs.declared.peer.Peer.{Peer}
use Rattle.cmh_node3.specs.Nodes.{Fits, HasStory, IsExact}
use Rattle.cmh_node3.specs.Steps.{BeginsAs, GivenSo, Station}
use Rattle.cmh_node3.specs.declared.sealed.Sealed.{Sealed}
use Rattle.cmh_node3.specs.declared.sealed.Sealed.TheVariants.{Disk, Memory, Mismatch}
use Rattle.cmh_node3.proofs.Growing.{IsCounted, grown_part, grown_whole, site_of, sites_same}

fits_unmet : (links : List LinkState) (s : ℕ) → Fits links None [] (met_from links [] s)
fits_unmet links s = record {
  given = [];
  stands = record { past = []; count_is = omega arith; mark_is = refl; all = sym (append-nil (link_at links s).out.kept) };
  begins = ([], refl);
  all = λ _. refl;
  counted = refl;
  marked = refl;
  synced = refl;
}

counted_met : (links : List LinkState) (more : List Step) (s : ℕ) → IsCounted more (met_from links [] s) (met_from links more s)
counted_met links more s = record { site = refl; out = refl; got = omega arith; mark = refl; synced = refl }

met_at : (links : List LinkState) (more : List Step) (others : List ℕ) (k : ℕ) (d : Peer) → k < length others → get_or (map (met_from links more) others) k d ≡ met_from links more (get_or others k 0)
met_at links more others k d inside = get_or-map (met_from links more) others k 0 d inside

sites_met : (links : List LinkState) (more : List Step) (others : List ℕ) → map site_of (map (met_from links more) others) ≡ others
sites_met links more [] = refl
sites_met links more (s ∷ others) = ap (λ (l : List ℕ). s ∷ l) (sites_met links more others)

fits_whole : (links : List LinkState) (more : List Step) (s : ℕ) (p r : Peer) → p ≡ met_from links more s → IsGiven more p r → Fits links None more r
fits_whole links more s p r is given =
    let g : IsGiven more (met_from links more s) r = subst (λ (x : Peer). IsGiven more x r) is given in
    grown_whole links [] more (met_from links [] s) (met_from links more s) r (fits_unmet links s) (counted_met links more s) g.site g.into g.out

fits_part : (links : List LinkState) (more : List Step) (s : ℕ) (p r : Peer) → p ≡ met_from links more s → IsGivenPart more p r → Fits links (Some Memory) more r
fits_part links more s p r is given =
    let g : IsGivenPart more (met_from links more s) r = subst (λ (x : Peer). IsGivenPart more x r) is given in
    grown_part links [] more (met_from links [] s) (met_from links more s) r (fits_unmet links s) (counted_met links more s) g.site g.into g.out.part g.out.begins g.out.after

module _ {File : Type 0} (told : File → Option Held) (has_failed : File → Bool) where
  module _ (world : List ℕ) (site : ℕ) (station after : Station told has_failed) (others : List ℕ) (peers : List Peer)
      (story : HasStory told has_failed station station.kept.waiting) (works : station.sealed ≡ false)
      (handed : HandedOver unsent station station.kept.waiting after) (later : (steps : List Step) → HasStory told has_failed station steps → HasStory told has_failed after steps)
      (rising : IsStrictlyIncreasing others) where
    abbrev more : List Step
    more = station.kept.waiting

    abbrev links : List LinkState
    links = station.base.base.links

    exact_by : (t : Option Sealed) → length peers ≡ length (map (met_from links more) others) → ((k : ℕ) (d e : Peer) → k < length (map (met_from links more) others) → (get_or peers k e).site ≡ (get_or (map (met_from links more) others) k d).site)
        → ((k : ℕ) → k < length others → (d : Peer) → Fits links t more (get_or peers k d))
        → IsExact told has_failed (record { world = world; site = site; station = after; peers = peers; others = others; sealed = t; last = [] }) more
    exact_by t same sites fits = record {
      story = later more story;
      none_waits = handed.kept.1;
      ascending = rising;
      sites = sites_same (map (met_from links more) others) peers same sites ∙ sites_met links more others;
      fits = λ k inside d.
          subst (λ (b : Beginning). Fits b.base.links t more (get_or peers k d)) (ap (λ (x : Station told has_failed). x.base) (sym handed.is))
          (fits k (omega (arith, inside, same, length-map others (met_from links more))) d);
      is_open = λ _. ap (λ (x : Station told has_failed). x.sealed) handed.is ∙ works;
    }

    pub begins_exact : (t : Option Sealed) → GivenSo t more (map (met_from links more) others) peers
        → IsExact told has_failed (record { world = world; site = site; station = after; peers = peers; others = others; sealed = t; last = [] }) more
    begins_exact None given = exact_by None given.same_length (λ k d x inside. (given.each k d x inside).site) (λ k inside d.
        let within : k < length (map (met_from links more) others) = omega (arith, inside, length-map others (met_from links more)) in
        fits_whole links more (get_or others k 0) (get_or (map (met_from links more) others) k d) (get_or peers k d) (met_at links more others k d inside) (given.each k d d within))
    begins_exact (Some Memory) given = exact_by (Some Memory) given.same_length (λ k d x inside. (given.each k d x inside).site) (λ k inside d.
        let within : k < length (map (met_from links more) others) = omega (arith, inside, length-map others (met_from links more)) in
        fits_part links more (get_or others k 0) (get_or (map (met_from links more) others) k d) (get_or peers k d) (met_at links more others k d inside) (given.each k d d within))
    begins_exact (Some Disk) given = absurd given
    begins_exact (Some (Mismatch peer mismatch)) given = absurd given

  pub begins : (t : Topology) (s : ℕ) (before : Option Held) (station after : Station told has_failed) (others : List ℕ) (peers : List Peer) (world : List ℕ) (sealed : Option Sealed)
      → Opened told has_failed t s before station → others ≡ others_but s (sites_of t) → IsStrictlyIncreasing others
      → HandedOver unsent station station.kept.waiting after → ((steps : List Step) → HasStory told has_failed station steps → HasStory told has_failed after steps)
      → GivenSo sealed station.kept.waiting (map (met_from station.base.base.links station.kept.waiting) others) peers → world ≡ t.world
      → BeginsAs told has_failed t s station (record { world = world; site = s; station = after; peers = peers; others = others; sealed = sealed; last = [] })
  begins t s before station after others peers world sealed opened others_are rising handed later given world_is =
      let story : HasStory told has_failed station station.kept.waiting = subst (λ (l : List Step). HasStory told has_failed station l) (sym opened.waiting) opened.story in
      record {
        world = world_is;
        site = refl;
        others_are = others_are;
        handed = handed;
        none_last = refl;
        given = given;
        exact = begins_exact world s station after others peers story opened.is_open handed later rising sealed given;
      }

  -- the links of its base are rows of the grammar
  pub links_are_rows : (t : Topology) (s : ℕ) (before : Option Held) (station : Station told has_failed) → Opened told has_failed t s before station → AreRows IsLinkRow link_place station.base.base.links
  links_are_rows t s before station opened = subst (λ (b : Beginning). AreRows IsLinkRow link_place b.base.links) (sym opened.base) opened.begins.base.links
