-- A site goes on in its next epoch, and its ends have just what the base says.
use Rattle.std.proofs.Common.{◌≡◌, ℕ, zero, suc, ◌<◌, Bool, List, [], ◌∷◌, ◌++◌, length, map, get_or, Option, None, Some, refl, sym, ap, ◌∙◌, subst, arith, append-nil}
use Rattle.std.specs.List.{AllByRecursion, AllPairs}
use Rattle.std.specs.List.Sorted.{IsStrictlyIncreasing}
use Rattle.std.proofs.lemmas.List.{get_or-map, length-map}
use Rattle.std.proofs.lemmas.List.Kept.{AllPairs-from_increasing}
use Rattle.cmh_model3.specs.Entries.{Entry as Step}
use Rattle.cmh_model3.specs.Lists.{IsAscending}
use Rattle.cmh_station3.specs.Files.{Held}
use Rattle.cmh_segment3.specs.declared.links.LinkState.{LinkState}
use Rattle.cmh_segment3.specs.States.{base_of, stamp_of, state_in, turned_to}
use Rattle.cmh_segment3.specs.declared.rows.Stamped.{Stamped}
use Rattle.cmh_station3.specs.declared.beginning.Beginning.{Beginning}
use Rattle.cmh_bases3.specs.Bases.{IsBaseOf}
use Rattle.cmh_controller3.specs.Controller.{Controller, state_of}
use Rattle.cmh_segment3.specs.declared.base.Base.{Base}
use Rattle.cmh_station3.specs.Journals.{IsOrigin, Origin, steps_of}
use Rattle.cmh_station3.specs.Starting.{IsStart, NewSegment, Starts}
use Rattle.cmh_node3.specs.Links.{PeersComeBack, at_rest, link_at, link_of, met_from, site_of}
use Rattle.cmh_node3.specs.declared.peer.Peer.{Peer}
use Rattle.cmh_node3.specs.Nodes.{Fits, HasStory, IsExact, Node, epoch_of}
use Rattle.cmh_node3.specs.Steps.{Station}
use Rattle.cmh_node3.specs.Turns.{IsNext, IsNextBase}
use Rattle.cmh_node3.specs.declared.sealed.Sealed.{Sealed}
use Rattle.cmh_node3.specs.declared.sealed.Sealed.TheVariants.{Disk}
use Rattle.cmh_node3.proofs.OtherPlaces.{Seals, seals_new, when_sealed}

-- ---- the peers' own links

above_first : (x : ℕ) (xs : List ℕ) → ((k : ℕ) → k < length xs → x < get_or xs k 0) → AllByRecursion (λ y. x < y) xs
above_first x [] each = tt
above_first x (y ∷ xs) each = (each zero (omega arith), above_first x xs (λ k inside. each (suc k) (omega (arith, inside))))

ascends : (xs : List ℕ) → AllPairs (λ x y. x < y) xs → IsAscending xs
ascends [] pairs = tt
ascends (x ∷ xs) pairs = (
  above_first x xs (λ k inside. pairs zero (suc k) 0 (omega arith) (omega (arith, inside))),
  ascends xs (λ i j d before inside. pairs (suc i) (suc j) d (omega (arith, before)) (omega (arith, inside))),
)

-- where peers that are met from their own links are those at rest, an end has what its link says
fits_own : (links : List LinkState) (s : Option Sealed) (p : Peer) → met_from links [] p.site ≡ at_rest p → p.into.unsynced ≡ 0 → Fits links s [] p
fits_own links s p back synced = record {
  given = [];
  stands = record {
    past = [];
    count_is = (let acked = ap (λ (q : Peer). q.out.acked) back in omega (arith, acked));
    mark_is = ap (λ (q : Peer). q.out.mark) back;
    all = ap (λ (q : Peer). q.out.kept) (sym back) ∙ sym (append-nil (link_at links p.site).out.kept);
  };
  begins = ([], refl);
  all = λ _. refl;
  counted = ap (λ (q : Peer). q.into.got) (sym back);
  marked = ap (λ (q : Peer). q.into.mark) (sym back);
  synced = synced;
}

one_back : (xs : List Peer) (k : ℕ) (d : Peer) → k < length xs → map (met_from (map link_of xs) []) (map site_of xs) ≡ map at_rest xs
    → met_from (map link_of xs) [] (get_or xs k d).site ≡ at_rest (get_or xs k d)
one_back xs k d inside back =
    let many : length (map site_of xs) ≡ length xs = length-map xs site_of in
    ap (met_from (map link_of xs) []) (sym (get_or-map site_of xs k d 0 inside))
    ∙ sym (get_or-map (met_from (map link_of xs) []) (map site_of xs) k 0 d (omega (arith, inside, many)))
    ∙ ap (λ (l : List Peer). get_or l k d) back
    ∙ get_or-map at_rest xs k d d inside

-- ---- where the next epoch begins

module _ {File : Type 0} (n : Node File) (epoch before : ℕ) (beginning : Beginning) (c : Controller) (stops : List Stamped) (peers : List Peer) (base : Base)
    (beginning_is : beginning ≡ n.station.base) (controller_is : c ≡ n.station.machine.controller) (peers_are : peers ≡ n.peers)
    (base_is : base ≡ base_of (state_of c) (stamp_of stops) (map link_of peers)) where
  says_next : IsNextBase n base
  says_next = record {
    stops = stops;
    is =
        base_is ∙ ap (λ (d : Controller). base_of (state_of d) (stamp_of stops) (map link_of peers)) controller_is
        ∙ ap (λ (xs : List Peer). base_of (state_of n.station.machine.controller) (stamp_of stops) (map link_of xs)) peers_are;
  }

  pub next_is : (new : NewSegment) → n.sealed ≡ None → epoch_of n < epoch → before ≡ epoch_of n → ((e : ℕ) → state_in e base ≡ turned_to e (state_of c))
      → IsStart beginning.topology beginning.site (record { epoch = epoch; before = before; base = base }) new → IsNext n epoch new
  next_is new is_open later before_is state start =
      let base_there : new.origin.base ≡ base = ap (λ (m : NewSegment). m.origin.base) start.is in
      record {
        is_open = is_open;
        later = later;
        topology = ap (λ (m : NewSegment). m.topology) start.is ∙ ap (λ (b : Beginning). b.topology) beginning_is;
        site = ap (λ (m : NewSegment). m.site) start.is ∙ ap (λ (b : Beginning). b.site) beginning_is;
        epoch_is = ap (λ (m : NewSegment). m.origin.epoch) start.is;
        before = ap (λ (m : NewSegment). m.origin.before) start.is ∙ before_is;
        base = subst (IsNextBase n) (sym base_there) says_next;
        begins = subst (λ (m : NewSegment). IsOrigin m.topology m.site m.origin) (sym start.is) start.begins;
        state = ap (state_in epoch) base_there ∙ state epoch ∙ ap (λ (d : Controller). turned_to epoch (state_of d)) controller_is;
      }

  pub next_is_none : (IsBaseOf beginning.topology beginning.site epoch base → ⊥)
      → (b : Base) × IsNextBase n b × (IsBaseOf n.station.base.topology n.station.base.site epoch b → ⊥)
  next_is_none none = (base, says_next, subst (λ (b : Beginning). IsBaseOf b.topology b.site epoch base → ⊥) beginning_is none)

-- ---- the site

module _ {File : Type 0} (told : File → Option Held) (has_failed : File → Bool) where
  pub turned : PeersComeBack → (n : Node File) (steps : List Step) (epoch : ℕ) (new : NewSegment) (file : Option Held) (station : Station told has_failed) → IsExact told has_failed n steps
      → IsNext n epoch new → Starts told has_failed new file station → IsExact told has_failed (record n { station = station }) []
  turned law n steps epoch new file station exact next starts =
      let base : station.base.base.links ≡ map link_of n.peers =
      ap (λ (b : Beginning). b.base.links) starts.opened.base ∙ ap (λ (o : Origin). o.base.links) starts.origin ∙ ap (λ (b : Base). b.links) next.base.is in
      let up : IsAscending (map site_of n.peers) = subst IsAscending (sym exact.sites) (ascends n.others (AllPairs-from_increasing n.others exact.ascending)) in
      record {
        story = subst (λ es. HasStory told has_failed station (steps_of es)) starts.none starts.opened.story;
        none_waits = starts.opened.waiting ∙ ap steps_of starts.none;
        ascending = exact.ascending;
        sites = exact.sites;
        fits = λ k inside d.
            fits_own station.base.base.links n.sealed (get_or n.peers k d)
            (ap (λ (links : List LinkState). met_from links [] (get_or n.peers k d).site) base ∙ one_back n.peers k d inside (law n.peers up))
            (exact.fits k inside d).synced;
        is_open = λ _. starts.opened.is_open;
      }

  -- it was sealed for nothing before
  pub given_up : (n : Node File) (steps : List Step) → n.sealed ≡ None → IsExact told has_failed n steps → IsExact told has_failed (record n { sealed = Some Disk }) steps
  given_up n steps open_is exact =
      when_sealed told has_failed n steps (Some Disk) exact (subst (λ (s : Option Sealed). Seals s (Some Disk)) (sym open_is) (seals_new Disk))
