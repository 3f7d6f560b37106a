-- Links as a base has them, and the peers that are met from them.
use Rattle.std.proofs.Common.{◌≡◌, ℕ, zero, suc, ◌+◌, ◌^◌, ◌<◌, ◌≤◌, ◌==◌, Bool, true, false, if◌then◌else◌, List, [], ◌∷◌, length, get_or, map, refl, sym, ap, ◌∙◌, subst, arith}
use Rattle.std.specs.List.{AllByRecursion}
use Rattle.std.proofs.lemmas.Bool.{eq-eqb, ne_eqb}
use Rattle.cmh_model3.specs.Entries.{Entry}
use Rattle.cmh_model3.specs.Journals.{receipts_of}
use Rattle.cmh_model3.specs.Lists.{IsAscending}
use Rattle.cmh_wire3.specs.Wire.{IsMessage}
use Rattle.cmh_resume3.specs.Receiver.{opened}
use Rattle.cmh_segment3.specs.Base.{IsLinkRow, link_place}
use Rattle.cmh_segment3.specs.Rows.{AreRows}
use Rattle.cmh_segment3.specs.declared.links.LinkState.{LinkState}
use Rattle.cmh_node3.specs.Links.{CanBeRows, at_rest, at_rest_after, link_at, link_of, met_from, receiver_of, sender_of, site_of, with_receipts}
use Rattle.cmh_node3.specs.declared.peer.Peer.{Peer}

-- ---- rows

-- what was sent to a site can be counted
pub countable_at : (links : List LinkState) (s : ℕ) → AllByRecursion IsLinkRow links → (link_at links s).out.acked + length (link_at links s).out.kept < 2 ^ 64
countable_at [] s each = omega arith
countable_at (l ∷ links) s each = one (l.site == s) each.0.1.sent (countable_at links s each.1)
  where
    one : (b : Bool) → l.out.acked + length l.out.kept < 2 ^ 64 → (link_at links s).out.acked + length (link_at links s).out.kept < 2 ^ 64
        → (if b then l else link_at links s).out.acked + length (if b then l else link_at links s).out.kept < 2 ^ 64
    one true here later = here
    one false here later = later

-- rows above a site are few
few_above : (n : ℕ) (links : List LinkState) → n ≤ 9999 → AllByRecursion (λ k. n < k) (map link_place links) → IsAscending (map link_place links) → AllByRecursion IsLinkRow links
    → n + length links ≤ 9999
few_above n [] low above up each = omega (arith, low)
few_above n (l ∷ links) low above up each =
    let least = above.0 in
    let most : l.site ≤ 9999 = each.0.0.most in
    let later = few_above l.site links most up.0 up.1 each.1 in
    omega (arith, least, later)

few_rows : (links : List LinkState) → IsAscending (map link_place links) → AllByRecursion IsLinkRow links → length links < 2 ^ 32
few_rows [] up each = omega arith
few_rows (l ∷ links) up each =
    let most : l.site ≤ 9999 = each.0.0.most in
    let later = few_above l.site links most up.0 up.1 each.1 in
    omega (arith, later)

places_are : (peers : List Peer) → map link_place (map link_of peers) ≡ map site_of peers
places_are [] = refl
places_are (p ∷ peers) = ap (λ (l : List ℕ). p.site ∷ l) (places_are peers)

each_is : (peers : List Peer) → ((k : ℕ) (d : Peer) → k < length peers → AllByRecursion IsMessage (get_or peers k d).out.kept → IsLinkRow (link_of (get_or peers k d)))
    → AllByRecursion (λ (p : Peer). AllByRecursion IsMessage p.out.kept) peers → AllByRecursion IsLinkRow (map link_of peers)
each_is [] row messages = tt
each_is (p ∷ peers) row messages = (row zero p (omega arith) messages.0, each_is peers (λ k d inside. row (suc k) d (omega (arith, inside))) messages.1)

-- the links of peers are rows of a base
pub are_rows : (peers : List Peer) → ((k : ℕ) (d : Peer) → k < length peers → AllByRecursion IsMessage (get_or peers k d).out.kept → IsLinkRow (link_of (get_or peers k d)))
    → CanBeRows peers → AreRows IsLinkRow link_place (map link_of peers)
are_rows peers row can =
    let up : IsAscending (map link_place (map link_of peers)) = subst IsAscending (sym (places_are peers)) can.ascending in
    let each = each_is peers row can.messages in
    record { few = few_rows (map link_of peers) up each; ascending = up; each = each }

-- ---- peers that are met again

-- the first link is that of no site above it
behind_first : (p : Peer) (links : List LinkState) (peers : List Peer) → AllByRecursion (λ k. p.site < k) (map site_of peers)
    → AllByRecursion (λ (q : Peer). link_at links q.site ≡ link_of q) peers → AllByRecursion (λ (q : Peer). link_at (link_of p ∷ links) q.site ≡ link_of q) peers
behind_first p links [] above found = tt
behind_first p links (q ∷ peers) above found =
    let low = above.0 in (
      ap (λ (b : Bool). if b then link_of p else link_at links q.site) (ne_eqb p.site q.site (λ e. absurd (omega (arith, low, e)))) ∙ found.0,
      behind_first p links peers above.1 found.1,
    )

-- each peer's link is found by its site
found_at : (peers : List Peer) → IsAscending (map site_of peers) → AllByRecursion (λ (q : Peer). link_at (map link_of peers) q.site ≡ link_of q) peers
found_at [] up = tt
found_at (p ∷ peers) up = (
  ap (λ (b : Bool). if b then link_of p else link_at (map link_of peers) p.site) (eq-eqb p.site p.site refl),
  behind_first p (map link_of peers) peers up.0 (found_at peers up.1),
)

met_at_rest : (links : List LinkState) (entries : List Entry) (p : Peer) → link_at links p.site ≡ link_of p → met_from links entries p.site ≡ at_rest_after entries p
met_at_rest links entries p found = ap (λ (l : LinkState). met_by l) found
  where
    met_by : LinkState → Peer
    met_by l = record { site = p.site; out = sender_of l.out; into = receiver_of (with_receipts (receipts_of p.site entries) l.into) }

pub go_on : (peers : List Peer) (entries : List Entry) → IsAscending (map site_of peers) → map (met_from (map link_of peers) entries) (map site_of peers) ≡ map (at_rest_after entries) peers
go_on peers entries up = each (map link_of peers) peers (found_at peers up)
  where
    each : (links : List LinkState) (peers : List Peer) → AllByRecursion (λ (q : Peer). link_at links q.site ≡ link_of q) peers
        → map (met_from links entries) (map site_of peers) ≡ map (at_rest_after entries) peers
    each links [] found = refl
    each links (p ∷ peers) found =
        ap (λ (q : Peer). q ∷ map (met_from links entries) (map site_of peers)) (met_at_rest links entries p found.0)
        ∙ ap (λ (l : List Peer). at_rest_after entries p ∷ l) (each links peers found.1)

-- no entry changes nothing
after_none : (peers : List Peer) → map (at_rest_after []) peers ≡ map at_rest peers
after_none [] = refl
after_none (p ∷ peers) =
    ap (λ n. record (at_rest p) { into = opened n p.into.mark false } ∷ map (at_rest_after []) peers) (let same : p.into.got + 0 ≡ p.into.got = omega arith in same)
    ∙ ap (λ (l : List Peer). at_rest p ∷ l) (after_none peers)

pub come_back : (peers : List Peer) → IsAscending (map site_of peers) → map (met_from (map link_of peers) []) (map site_of peers) ≡ map at_rest peers
come_back peers up = go_on peers [] up ∙ after_none peers
