-- The ends of one link change, and all stays exact.
use Rattle.std.proofs.Common.{◌≡◌, ◌≢◌, ◌⊎◌, ℕ, ◌<◌, Bool, List, [], ◌∷◌, ◌++◌, length, map, get_or, Option, None, Some, zero, suc, refl, sym, ap, ◌∙◌, subst, inl, inr, arith}
use Rattle.std.specs.Prelude.{Contains, slice_get, slice_set}
use Rattle.std.specs.List.Sorted.{IsStrictlyIncreasing}
use Rattle.std.proofs.lemmas.List.{length-map, length-set}
use Rattle.std.proofs.Math.Seq.{map-set_same}
use Rattle.std.proofs.lemmas.Bool.{cases_eq}
use Rattle.std.proofs.lemmas.Grind.{get_or-set_at}
use Rattle.std.proofs.lemmas.List.{get_or-map, get_or-set_other}
use Rattle.std.proofs.lemmas.List.Kept.{AllPairs-from_increasing}
use Rattle.std.proofs.lemmas.Option.{get_or_from_slice_get, slice_get_within}
use Rattle.cmh_model3.specs.Entries.{Entry as Step}
use Rattle.cmh_station3.specs.Files.{Held}
use Rattle.cmh_resume3.specs.declared.acknowledgement.Acknowledgement.{Acknowledgement}
use Rattle.cmh_resume3.specs.declared.answer.Answer.{Answer}
use Rattle.cmh_resume3.specs.Receiver.{Claims, Receiver}
use Rattle.cmh_resume3.specs.Sender.{Sender}
use Rattle.cmh_segment3.specs.declared.links.LinkState.{LinkState}
use Rattle.cmh_node3.specs.Links.{link_at}
use Rattle.cmh_resume3.specs.declared.refusal.Mismatch.{Mismatch as MismatchOf}
use Rattle.cmh_resume3.specs.declared.refusal.Mismatch.TheVariants.{LessThanAcknowledged, MoreThanSent, OtherFrames}
use Rattle.cmh_node3.specs.PeerChanges.{Acknowledges, ChangesInto, ChangesOut, EndsAt, SaysCount, StandsStill}
use Rattle.cmh_node3.specs.declared.happening.Action.{Action}
use Rattle.cmh_node3.specs.declared.happening.Action.TheVariants.{Rest, Dial, Greet, Note, Refuse, Close, Turn}
use Rattle.cmh_node3.specs.Peers.{IsPlaceOf}
use Rattle.cmh_node3.specs.declared.peer.Peer.{Peer}
use Rattle.cmh_node3.specs.Changes.{sealed_by, sealed_if_told}
use Rattle.cmh_node3.specs.Nodes.{Fits, IsExact, Node, base_links}
use Rattle.cmh_node3.specs.declared.sealed.Sealed.{Sealed}
use Rattle.cmh_node3.specs.declared.sealed.Sealed.TheVariants.{Memory, Mismatch}

-- ---- why it is sealed

-- A later reason does not hide that memory was refused, and what is not sealed then was not before.
pub record Seals (s t : Option Sealed) : Type 0 where
  pub memory : t ≢ Some Memory → s ≢ Some Memory
  pub none : t ≡ None → s ≡ None

pub seals_same : (s : Option Sealed) → Seals s s
seals_same s = record { memory = λ h. h; none = λ h. h }

pub seals_new : (why : Sealed) → Seals None (Some why)
seals_new why = record { memory = λ h e. absurd (cc e); none = λ e. absurd (cc e) }

pub seals_by : (peer : ℕ) (action : Action) → Seals None (sealed_by peer action)
seals_by peer Rest = seals_same None
seals_by peer Dial = seals_same None
seals_by peer Greet = seals_same None
seals_by peer Note = seals_same None
seals_by peer (Refuse MoreThanSent) = seals_new (Mismatch peer MoreThanSent)
seals_by peer (Refuse OtherFrames) = seals_new (Mismatch peer OtherFrames)
seals_by peer (Refuse LessThanAcknowledged) = seals_same None
seals_by peer Close = seals_same None
seals_by peer Turn = seals_same None

pub seals_after : (s t : Option Sealed) (peer : ℕ) (action : Action) → s ≡ None → t ≡ sealed_by peer action → Seals s t
seals_after s t peer action none is =
    subst (λ (x : Option Sealed). Seals x t) (sym none) (subst (λ (x : Option Sealed). Seals None x) (sym is) (seals_by peer action))

pub seals_told : (s : Option Sealed) (peer : ℕ) (mismatch : MismatchOf) → Seals s (sealed_if_told s peer mismatch)
seals_told (Some why) peer MoreThanSent = seals_same (Some why)
seals_told (Some why) peer OtherFrames = seals_same (Some why)
seals_told (Some why) peer LessThanAcknowledged = seals_same (Some why)
seals_told None peer MoreThanSent = seals_same None
seals_told None peer OtherFrames = seals_same None
seals_told None peer LessThanAcknowledged = seals_new (Mismatch peer LessThanAcknowledged)

-- ---- one peer

pub fits_sealed : (links : List LinkState) (s t : Option Sealed) (steps : List Step) (p : Peer) → Seals s t → Fits links s steps p → Fits links t steps p
fits_sealed links s t steps p seals f = record {
  given = f.given;
  stands = f.stands;
  begins = f.begins;
  all = λ n. f.all (seals.memory n);
  counted = f.counted;
  marked = f.marked;
  synced = f.synced;
}

pub fits_out : (links : List LinkState) (s : Option Sealed) (steps : List Step) (p : Peer) (out : Sender) → StandsStill p.out out → Fits links s steps p → Fits links s steps (record p { out = out })
fits_out links s steps p out stands f = record {
  given = f.given;
  stands = (let sent = (link_at links p.site).out in stands sent.acked sent.mark (sent.kept ++ f.given) f.stands);
  begins = f.begins;
  all = f.all;
  counted = f.counted;
  marked = f.marked;
  synced = f.synced;
}

-- the receiver's end counts what it counted
pub record CountsSame (a b : Receiver) : Type 0 where
  pub got : b.got ≡ a.got
  pub mark : b.mark ≡ a.mark
  pub unsynced : b.unsynced ≡ a.unsynced

pub fits_into : (links : List LinkState) (s : Option Sealed) (steps : List Step) (p : Peer) (into : Receiver) → CountsSame p.into into → Fits links s steps p → Fits links s steps (record p { into = into })
fits_into links s steps p into same f = record {
  given = f.given;
  stands = f.stands;
  begins = f.begins;
  all = f.all;
  counted = same.got ∙ f.counted;
  marked = same.mark ∙ f.marked;
  synced = same.unsynced ∙ f.synced;
}

-- ---- places

pub sites_set : (xs : List Peer) (k : ℕ) (p q : Peer) → slice_get xs k ≡ Some p → q.site ≡ p.site → map (λ (x : Peer). x.site) (slice_set xs k q) ≡ map (λ (x : Peer). x.site) xs
sites_set xs k p q there site = map-set_same (λ (x : Peer). x.site) xs k q p (site ∙ ap (λ (x : Peer). x.site) (sym (get_or_from_slice_get xs k p p there)))

-- no two places have one site
pub apart : (xs : List Peer) (sites : List ℕ) → IsStrictlyIncreasing sites → map (λ (x : Peer). x.site) xs ≡ sites → (j k : ℕ) (d : Peer) → j < length xs → k < length xs → j ≢ k
    → (get_or xs j d).site ≢ (get_or xs k d).site
apart xs sites inc are j k d inj ink far same =
    let site : Peer → ℕ = λ (x : Peer). x.site in
    let rising = subst (λ (l : List ℕ). IsStrictlyIncreasing l) (sym are) inc in
    let pairs = AllPairs-from_increasing (map site xs) rising in
    let lens = ap (λ (l : List ℕ). length l) are in
    let at_j : get_or (map site xs) j 0 ≡ (get_or xs j d).site = get_or-map site xs j d 0 inj in
    let at_k : get_or (map site xs) k 0 ≡ (get_or xs k d).site = get_or-map site xs k d 0 ink in
    let many : length (map site xs) ≡ length xs = length-map xs site in
    let up : j < k → get_or (map site xs) j 0 < get_or (map site xs) k 0 = λ h. pairs j k 0 h (omega (arith, many, ink)) in
    let down : k < j → get_or (map site xs) k 0 < get_or (map site xs) j 0 = λ h. pairs k j 0 h (omega (arith, many, inj)) in
    elim (order j k far) [
      | inl h ↦ let less = up h in omega (arith, less, at_j, at_k, same)
      | inr h ↦ let less = down h in omega (arith, less, at_j, at_k, same)
    ]
  where
    order : (j k : ℕ) → j ≢ k → (j < k) ⊎ (k < j)
    order zero zero far = absurd (far refl)
    order zero (suc k) far = inl (omega arith)
    order (suc j) zero far = inr (omega arith)
    order (suc j) (suc k) far = elim (order j k (λ e. far (ap suc e))) [
      | inl below ↦ inl (omega (arith, below))
      | inr above ↦ inr (omega (arith, above))
    ]

module _ {File : Type 0} (told : File → Option Held) (has_failed : File → Bool) where
  -- the peer at a place is another, and the site may be sealed
  pub at_place : (n : Node File) (steps : List Step) (place : ℕ) (p q : Peer) (t : Option Sealed) → IsExact told has_failed n steps → slice_get n.peers place ≡ Some p → q.site ≡ p.site
      → Seals n.sealed t → (Fits (base_links n) n.sealed steps p → Fits (base_links n) n.sealed steps q) → IsExact told has_failed (record n { peers = slice_set n.peers place q; sealed = t }) steps
  at_place n steps place p q t e there site seals fits =
      let inside : place < length n.peers = slice_get_within n.peers place p there in
      let many : length (slice_set n.peers place q) ≡ length n.peers = length-set n.peers place q in
      let before : Fits (base_links n) n.sealed steps p = subst (λ (x : Peer). Fits (base_links n) n.sealed steps x) (get_or_from_slice_get n.peers place p p there) (e.fits place inside p) in
      record {
        story = e.story;
        none_waits = e.none_waits;
        ascending = e.ascending;
        sites = sites_set n.peers place p q there site ∙ e.sites;
        fits = λ k within d. elim (cases_eq k place) [
          | inl same ↦ subst (λ (x : Peer). Fits (base_links n) t steps x) (sym (get_or-set_at n.peers place k q d same inside)) (fits_sealed (base_links n) n.sealed t steps q seals (fits before))
          | inr far ↦ subst (λ (x : Peer). Fits (base_links n) t steps x) (sym (get_or-set_other n.peers place k q d far))
              (fits_sealed (base_links n) n.sealed t steps (get_or n.peers k d) seals (e.fits k (omega (arith, many, within)) d))
        ];
        is_open = λ none. e.is_open (seals.none none);
      }

  -- the site is sealed
  pub when_sealed : (n : Node File) (steps : List Step) (t : Option Sealed) → IsExact told has_failed n steps → Seals n.sealed t → IsExact told has_failed (record n { sealed = t }) steps
  when_sealed n steps t e seals = record {
    story = e.story;
    none_waits = e.none_waits;
    ascending = e.ascending;
    sites = e.sites;
    fits = λ k within d. fits_sealed (base_links n) n.sealed t steps (get_or n.peers k d) seals (e.fits k within d);
    is_open = λ none. e.is_open (seals.none none);
  }

  -- a sender's end changed, and stands for what it stood for
  pub out_exact : (n : Node File) (steps : List Step) (place : ℕ) (Changes : Sender → Sender → Type 0) (ys : List Peer) (t : Option Sealed) → IsExact told has_failed n steps
      → (c : ChangesOut place Changes n.peers ys) → ((a b : Sender) → Changes a b → StandsStill a b) → Seals n.sealed t → IsExact told has_failed (record n { peers = ys; sealed = t }) steps
  out_exact n steps place Changes ys t e c stands seals =
      subst (λ (l : List Peer). IsExact told has_failed (record n { peers = l; sealed = t }) steps) (sym c.after)
      (at_place n steps place c.peer (record c.peer { out = c.out }) t e c.there refl seals (fits_out (base_links n) n.sealed steps c.peer c.out (stands c.peer.out c.out c.changes)))

  -- a receiver's end changed, and counts what it counted
  pub into_exact : (n : Node File) (steps : List Step) (place : ℕ) (Changes : Receiver → Receiver → Type 0) (ys : List Peer) → IsExact told has_failed n steps
      → (c : ChangesInto place Changes n.peers ys) → ((a b : Receiver) → Changes a b → CountsSame a b) → IsExact told has_failed (record n { peers = ys }) steps
  into_exact n steps place Changes ys e c counts =
      subst (λ (l : List Peer). IsExact told has_failed (record n { peers = l }) steps) (sym c.after)
      (at_place n steps place c.peer (record c.peer { into = c.into }) n.sealed e c.there refl (seals_same n.sealed) (fits_into (base_links n) n.sealed steps c.peer c.into (counts c.peer.into c.into c.changes)))

-- ---- receiver's ends that count the same

pub claims_same : (line now : ℕ) (answer : Answer) (a b : Receiver) → Claims a line now answer b → CountsSame a b
claims_same line now answer a b c = record {
  got = ap (λ (r : Receiver). r.got) c.after;
  mark = ap (λ (r : Receiver). r.mark) c.after;
  unsynced = ap (λ (r : Receiver). r.unsynced) c.after;
}

pub says_same : (line : ℕ) (filled : Bool) (epoch : ℕ) (acknowledgement : Acknowledgement) (a b : Receiver) → SaysCount line filled epoch acknowledgement a b → CountsSame a b
says_same line filled epoch acknowledgement a b c = record {
  got = ap (λ (r : Receiver). r.got) c.after;
  mark = ap (λ (r : Receiver). r.mark) c.after;
  unsynced = ap (λ (r : Receiver). r.unsynced) c.after;
}

-- whether a connection has the claim
claim_is : (line : ℕ) (claim : Option ℕ) → (claim ≡ Some line) ⊎ (claim ≢ Some line)
claim_is line None = inr (λ e. absurd (cc e))
claim_is line (Some c) = elim (cases_eq c line) [ inl e ↦ inl (ap (λ (x : ℕ). Some x) e) | inr n ↦ inr (λ e. n (cc e)) ]

pub ends_same : (line : ℕ) (a b : Receiver) → EndsAt line a b → CountsSame a b
ends_same line a b ends = elim (claim_is line a.claim) [
  | inl has ↦
      let after = ends.claimed has in
      record { got = ap (λ (r : Receiver). r.got) after; mark = ap (λ (r : Receiver). r.mark) after; unsynced = ap (λ (r : Receiver). r.unsynced) after }
  | inr not ↦
      let after = ends.other not in
      record { got = ap (λ (r : Receiver). r.got) after; mark = ap (λ (r : Receiver). r.mark) after; unsynced = ap (λ (r : Receiver). r.unsynced) after }
]

-- a site that is one of the others stands among the peers
pub none_missed : (xs : List Peer) (others : List ℕ) (site : ℕ) → map (λ (x : Peer). x.site) xs ≡ others → IsPlaceOf xs site None → Contains others site → ⊥
none_missed [] others site are none has =
    let few = ap (λ (l : List ℕ). length l) are in
    let inside = has.1 in
    omega (arith, few, inside)
none_missed (x ∷ xs) others site are none has =
    let k = has.0 in
    let few = ap (λ (l : List ℕ). length l) are in
    let many = length-map (x ∷ xs) (λ (p : Peer). p.site) in
    let inside : k < length (x ∷ xs) = omega (arith, few, many, has.1) in
    none k x inside (sym (get_or-map (λ (p : Peer). p.site) (x ∷ xs) k x site inside) ∙ ap (λ (l : List ℕ). get_or l k site) are ∙ has.2)

-- an acknowledgement, or none
pub said_exact : {File : Type 0} (told : File → Option Held) (has_failed : File → Bool) (n : Node File) (steps : List Step) (place line : ℕ) (filled : Bool) (epoch : ℕ) (said : Option Acknowledgement) (ys : List Peer)
    → IsExact told has_failed n steps → Acknowledges place line filled epoch said n.peers ys → IsExact told has_failed (record n { peers = ys }) steps
said_exact told has_failed n steps place line filled epoch None ys e says = subst (λ (l : List Peer). IsExact told has_failed (record n { peers = l }) steps) (sym says.0) e
said_exact told has_failed n steps place line filled epoch (Some a) ys e says = into_exact told has_failed n steps place (SaysCount line filled epoch a) ys e says (says_same line filled epoch a)
