-- The journal grows, and the ends have just what it has.
use Rattle.std.proofs.Common.{◌≡◌, ◌≢◌, ℕ, ◌+◌, ◌<◌, Bool, false, List, [], ◌∷◌, ◌++◌, length, map, get_or, Option, None, Some, suc, refl, sym, ap, ◌∙◌, subst, inl, inr, arith, append_assoc, append-nil, length-append}
use Rattle.std.specs.Prelude.{slice_get, slice_set}
use Rattle.std.specs.List.Sorted.{IsStrictlyIncreasing}
use Rattle.std.proofs.lemmas.Bool.{cases_eq}
use Rattle.std.proofs.lemmas.Grind.{get_or-set_at}
use Rattle.std.proofs.lemmas.List.{get_or_default, get_or-set_other, length-set}
use Rattle.std.proofs.lemmas.Option.{get_or_from_slice_get, slice_get_within}
use Rattle.cmh_runs.specs.Runs.{IsBeginningOf}
use Rattle.cmh_runs.proofs.Journals.{receipts_of-append, sendings_of-append}
use Rattle.cmh_model3.specs.Entries.{Entry as Step}
use Rattle.cmh_model3.specs.Journals.{message_from, receipts_of, sendings_of}
use Rattle.cmh_model3.specs.declared.frame.Message.{Message}
use Rattle.cmh_wire3.specs.Mark.{mark_on}
use Rattle.cmh_wire3.specs.Wire.{spelled}
use Rattle.cmh_station3.specs.Files.{Held}
use Rattle.cmh_resume3.proofs.Ends.{marked_more}
use Rattle.cmh_resume3.specs.Receiver.{Receiver}
use Rattle.cmh_resume3.specs.Sender.{Sender}
use Rattle.cmh_segment3.specs.declared.links.LinkState.{LinkState}
use Rattle.cmh_segment3.specs.declared.links.Outgoing.{Outgoing}
use Rattle.cmh_station3.specs.declared.beginning.Beginning.{Beginning}
use Rattle.cmh_node3.proofs.Counting.{got_received, mark_received, synced_received}
use Rattle.cmh_node3.specs.Links.{got_since, link_at}
use Rattle.cmh_node3.specs.Peers.{WasGiven, received}
use Rattle.cmh_node3.specs.declared.peer.Peer.{Peer}
use Rattle.cmh_node3.specs.Nodes.{Fits, HasStory, IsExact, Node, StandsBehind, base_links}
use Rattle.cmh_node3.specs.Steps.{GivenSo, Station}
use Rattle.cmh_node3.specs.declared.sealed.Sealed.{Sealed}
use Rattle.cmh_node3.specs.declared.sealed.Sealed.TheVariants.{Disk, Memory, Mismatch}
use Rattle.cmh_node3.proofs.OtherPlaces.{apart}

-- ---- one peer

stands_all : (out : Outgoing) (s t : Sender) (ms xs : List Message) → StandsBehind out s ms → WasGiven xs s t → StandsBehind out t (ms ++ xs)
stands_all out s t ms xs st is = subst (λ (x : Sender). StandsBehind out x (ms ++ xs)) (sym is) (record {
  past = st.past;
  count_is = st.count_is;
  mark_is = st.mark_is;
  all = sym (append_assoc st.past s.kept xs) ∙ ap (λ (l : List Message). l ++ xs) st.all ∙ append_assoc out.kept ms xs;
})

-- its receiver's end counts what more steps got, and its sender's end was given nothing yet
pub record IsCounted (more : List Step) (p q : Peer) : Type 0 where
  pub site : q.site ≡ p.site
  pub out : q.out ≡ p.out
  pub got : q.into.got ≡ p.into.got + length (receipts_of p.site more)
  pub mark : q.into.mark ≡ mark_on p.into.mark (spelled (receipts_of p.site more))
  pub synced : q.into.unsynced ≡ 0

module _ (links : List LinkState) (steps more : List Step) (p q r : Peer) (f : Fits links None steps p) (c : IsCounted more p q) (site : r.site ≡ q.site) (into : r.into ≡ q.into) where
  abbrev got : List Message
  got = receipts_of p.site steps

  abbrev new : List Message
  new = receipts_of p.site more

  abbrev sent : List Message
  sent = sendings_of q.site more

  abbrev link : LinkState
  link = link_at links p.site

  receipts_are : got ++ new ≡ receipts_of p.site (steps ++ more)
  receipts_are = sym (receipts_of-append message_from p.site steps more)

  here : p.site ≡ r.site
  here = sym (site ∙ c.site)

  counted_so : r.into.got ≡ link.into.got + length (got ++ new)
  counted_so =
      let counted = ap (λ (x : Receiver). x.got) into ∙ c.got ∙ ap (λ (n : ℕ). n + length new) f.counted in
      omega (arith, counted, length-append got new)

  counted_are : r.into.got ≡ (got_since links (steps ++ more) r.site).got
  counted_are =
      counted_so ∙ ap (λ (l : List Message). link.into.got + length l) receipts_are
      ∙ ap (λ (z : ℕ). (got_since links (steps ++ more) z).got) here

  marked_are : r.into.mark ≡ (got_since links (steps ++ more) r.site).mark
  marked_are =
      ap (λ (x : Receiver). x.mark) into ∙ c.mark ∙ ap (λ (n : ℕ). mark_on n (spelled new)) f.marked
      ∙ sym (marked_more link.into.mark got new) ∙ ap (λ (l : List Message). mark_on link.into.mark (spelled l)) receipts_are
      ∙ ap (λ (z : ℕ). (got_since links (steps ++ more) z).mark) here

  synced_are : r.into.unsynced ≡ 0
  synced_are = ap (λ (x : Receiver). x.unsynced) into ∙ c.synced

  abbrev unsealed : Option Sealed
  unsealed = None

  none_memory : unsealed ≢ Some Memory
  none_memory e = absurd (cc e)

  sendings_are : f.given ++ sent ≡ sendings_of r.site (steps ++ more)
  sendings_are =
      ap (λ (l : List Message). l ++ sent) (f.all none_memory)
      ∙ ap (λ (z : ℕ). sendings_of z steps ++ sent) (sym c.site)
      ∙ sym (sendings_of-append q.site steps more)
      ∙ ap (λ (z : ℕ). sendings_of z (steps ++ more)) (sym site)

  stands_so : (part : List Message) → WasGiven part q.out r.out → StandsBehind (link_at links r.site).out r.out (f.given ++ part)
  stands_so part given =
      let stood : StandsBehind link.out q.out f.given = subst (λ (x : Sender). StandsBehind link.out x f.given) (sym c.out) f.stands in
      subst (λ (z : ℕ). StandsBehind (link_at links z).out r.out (f.given ++ part)) here (stands_all link.out q.out r.out f.given part stood given)

  pub grown_whole : WasGiven sent q.out r.out → Fits links None (steps ++ more) r
  grown_whole given = record {
    given = f.given ++ sent;
    stands = stands_so sent given;
    begins = ([], append-nil (f.given ++ sent) ∙ sendings_are);
    all = λ _. sendings_are;
    counted = counted_are;
    marked = marked_are;
    synced = synced_are;
  }

  pub grown_part : (part : List Message) → IsBeginningOf part sent → WasGiven part q.out r.out → Fits links (Some Memory) (steps ++ more) r
  grown_part part begins given = record {
    given = f.given ++ part;
    stands = stands_so part given;
    begins = (begins.0, append_assoc f.given part begins.0 ∙ ap (λ (l : List Message). f.given ++ l) begins.1 ∙ sendings_are);
    all = λ no. absurd (no refl);
    counted = counted_are;
    marked = marked_are;
    synced = synced_are;
  }

pub counted_none : (more : List Step) (p : Peer) → receipts_of p.site more ≡ [] → p.into.unsynced ≡ 0 → IsCounted more p p
counted_none more p none synced =
    let nothing : length (receipts_of p.site more) ≡ 0 = ap (λ (l : List Message). length l) none in
    record {
      site = refl;
      out = refl;
      got = omega (arith, nothing);
      mark = sym (ap (λ (l : List Message). mark_on p.into.mark (spelled l)) none);
      synced = synced;
    }

pub counted_batch : (more : List Step) (p : Peer) (xs : List Message) (now : ℕ) (closes : Bool) → receipts_of p.site more ≡ xs
    → IsCounted more p (record p { into = received xs now closes p.into })
counted_batch more p xs now closes are = record {
  site = refl;
  out = refl;
  got = got_received xs now closes p.into ∙ ap (λ (l : List Message). p.into.got + length l) (sym are);
  mark = mark_received xs now closes p.into ∙ ap (λ (l : List Message). mark_on p.into.mark (spelled l)) (sym are);
  synced = synced_received xs now closes p.into;
}

-- ---- all peers

abbrev pub site_of : Peer → ℕ
site_of p = p.site

pub sites_same : (xs ys : List Peer) → length ys ≡ length xs → ((k : ℕ) (d e : Peer) → k < length xs → (get_or ys k e).site ≡ (get_or xs k d).site) → map site_of ys ≡ map site_of xs
sites_same [] [] same each = refl
sites_same [] (y ∷ ys) same each = absurd (omega (arith, same))
sites_same (x ∷ xs) [] same each = absurd (omega (arith, same))
sites_same (x ∷ xs) (y ∷ ys) same each =
    let first : y.site ≡ x.site = each 0 x y (omega arith) in
    let rest = sites_same xs ys (omega (arith, same)) (λ k d e inside. each (suc k) d e (omega (arith, inside))) in
    λ i. first i ∷ rest i

-- each peer of a list counts what more steps got
abbrev pub AreCounted : List Step → List Peer → List Peer → Type 0
AreCounted more xs ys = (length ys ≡ length xs) × ((k : ℕ) (d e : Peer) → k < length xs → IsCounted more (get_or xs k d) (get_or ys k e))

module _ {File : Type 0} (told : File → Option Held) (has_failed : File → Bool) where
  module _ (n : Node File) (steps more : List Step) (mid peers : List Peer) (station : Station told has_failed) (e : IsExact told has_failed n steps) (open_is : n.sealed ≡ None)
      (counted : AreCounted more n.peers mid) (story : HasStory told has_failed station (steps ++ more)) (none_waits : station.kept.waiting ≡ []) (works : station.sealed ≡ false) (base : station.base ≡ n.station.base) where
    fits_now : (k : ℕ) → k < length n.peers → (d : Peer) → Fits (base_links n) None steps (get_or n.peers k d)
    fits_now k inside d = subst (λ (s : Option Sealed). Fits (base_links n) s steps (get_or n.peers k d)) open_is (e.fits k inside d)

    exact_by : (t : Option Sealed) (l : List Step) → length peers ≡ length mid → ((k : ℕ) (d e : Peer) → k < length mid → (get_or peers k e).site ≡ (get_or mid k d).site)
        → ((k : ℕ) → k < length mid → (d : Peer) → Fits (base_links n) t (steps ++ more) (get_or peers k d))
        → IsExact told has_failed (record n { station = station; peers = peers; sealed = t; last = l }) (steps ++ more)
    exact_by t l same sites fits = record {
      story = story;
      none_waits = none_waits;
      ascending = e.ascending;
      sites = sites_same mid peers same sites ∙ sites_same n.peers mid counted.0 (λ k d x inside. (counted.1 k d x inside).site) ∙ e.sites;
      fits = λ k inside d.
          subst (λ (b : Beginning). Fits b.base.links t (steps ++ more) (get_or peers k d)) (sym base) (fits k (omega (arith, inside, same)) d);
      is_open = λ _. works;
    }

    pub exact_after : (t : Option Sealed) (l : List Step) → GivenSo t more mid peers → IsExact told has_failed (record n { station = station; peers = peers; sealed = t; last = l }) (steps ++ more)
    exact_after None l given = exact_by None l given.same_length (λ k d x inside. (given.each k d x inside).site) (λ k inside d.
        let within : k < length n.peers = omega (arith, inside, counted.0) in
        let g = given.each k d d inside in
        grown_whole (base_links n) steps more (get_or n.peers k d) (get_or mid k d) (get_or peers k d) (fits_now k within d) (counted.1 k d d within) g.site g.into g.out)
    exact_after (Some Memory) l given = exact_by (Some Memory) l given.same_length (λ k d x inside. (given.each k d x inside).site) (λ k inside d.
        let within : k < length n.peers = omega (arith, inside, counted.0) in
        let g = given.each k d d inside in
        grown_part (base_links n) steps more (get_or n.peers k d) (get_or mid k d) (get_or peers k d) (fits_now k within d) (counted.1 k d d within) g.site g.into g.out.part g.out.begins g.out.after)
    exact_after (Some Disk) l given = absurd given
    exact_after (Some (Mismatch peer mismatch)) l given = absurd given

  -- the journal failed, or memory was refused: its station has the same story
  pub exact_still : (n : Node File) (steps : List Step) (station : Station told has_failed) (t : Option Sealed) → IsExact told has_failed n steps → n.sealed ≡ None
      → HasStory told has_failed station steps → station.kept.waiting ≡ n.station.kept.waiting → (t ≢ Some Memory) → (t ≡ None → station.sealed ≡ n.station.sealed) → station.base ≡ n.station.base
      → IsExact told has_failed (record n { station = station; sealed = t }) steps
  exact_still n steps station t e open_is story waits other works base = record {
    story = story;
    none_waits = waits ∙ e.none_waits;
    ascending = e.ascending;
    sites = e.sites;
    fits = λ k inside d.
        let f = e.fits k inside d in
        subst (λ (b : Beginning). Fits b.base.links t steps (get_or n.peers k d)) (sym base) (record {
          given = f.given;
          stands = f.stands;
          begins = f.begins;
          all = λ _. f.all (λ memory. absurd (cc (sym open_is ∙ memory)));
          counted = f.counted;
          marked = f.marked;
          synced = f.synced;
        });
    is_open = λ none. works none ∙ e.is_open open_is;
  }

-- ---- which peers count

-- a batch from one site counts at its peer alone
pub counted_at : (more : List Step) (xs : List Peer) (sites : List ℕ) (place : ℕ) (p : Peer) (ms : List Message) (now : ℕ) (closes : Bool) → IsStrictlyIncreasing sites → map site_of xs ≡ sites
    → slice_get xs place ≡ Some p → ((k : ℕ) (d : Peer) → k < length xs → (get_or xs k d).into.unsynced ≡ 0)
    → receipts_of p.site more ≡ ms → ((a : ℕ) → a ≢ p.site → receipts_of a more ≡ [])
    → AreCounted more xs (slice_set xs place (record p { into = received ms now closes p.into }))
counted_at more xs sites place p ms now closes rising are there synced here elsewhere =
    let q : Peer = record p { into = received ms now closes p.into } in
    let inside : place < length xs = slice_get_within xs place p there in (
      length-set xs place q,
      λ k d e within. elim (cases_eq k place) [
        | inl same ↦
            let old : get_or xs k d ≡ p = ap (λ (j : ℕ). get_or xs j d) same ∙ get_or_from_slice_get xs place p d there in
            let new : get_or (slice_set xs place q) k e ≡ q = get_or-set_at xs place k q e same inside in
            subst (λ (x : Peer). IsCounted more x (get_or (slice_set xs place q) k e)) (sym old)
            (subst (λ (x : Peer). IsCounted more p x) (sym new) (counted_batch more p ms now closes here))
        | inr far ↦
            let other = get_or xs k d in
            let new : get_or (slice_set xs place q) k e ≡ other = get_or-set_other xs place k q e far ∙ get_or_default xs k e d within in
            let site : other.site ≢ p.site = λ same.
            apart xs sites rising are k place d within inside far (same ∙ ap site_of (sym (get_or_from_slice_get xs place p d there))) in
            subst (λ (x : Peer). IsCounted more other x) (sym new) (counted_none more other (elsewhere other.site site) (synced k d within))
      ],
    )

-- none of these steps got a message
pub counted_own : (more : List Step) (xs : List Peer) → ((k : ℕ) (d : Peer) → k < length xs → (get_or xs k d).into.unsynced ≡ 0) → ((a : ℕ) → receipts_of a more ≡ [])
    → AreCounted more xs xs
counted_own more xs synced none = (
  refl,
  λ k d e inside.
      subst (λ (x : Peer). IsCounted more (get_or xs k d) x) (get_or_default xs k d e inside) (counted_none more (get_or xs k d) (none (get_or xs k d).site) (synced k d inside)),
)
