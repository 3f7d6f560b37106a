-- The links of a base, and the peers whose ends they say.
use Rattle.std.specs.Prelude.{◌≡◌, ℕ, ◌+◌, ◌^◌, ◌≤◌, ◌==◌, if◌then◌else◌, false, List, [], ◌∷◌, length, map, Contains}
use Rattle.std.specs.List.{AllByRecursion}
use Rattle.cmh_model3.specs.Entries.{Entry}
use Rattle.cmh_model3.specs.Journals.{receipts_of}
use Rattle.cmh_model3.specs.Lists.{IsAscending}
use Rattle.cmh_model3.specs.declared.frame.Message.{Message}
use Rattle.cmh_wire3.specs.Mark.{first_mark, mark_on}
use Rattle.cmh_wire3.specs.Wire.{IsMessage, spelled}
use Rattle.cmh_resume3.specs.Receiver.{Receiver, opened}
use Rattle.cmh_resume3.specs.Sender.{Sender, fresh_sender, with_state}
use Rattle.cmh_resume3.specs.declared.sender.State.TheVariants.{Down}
use Rattle.cmh_segment3.specs.declared.links.Incoming.{Incoming}
use Rattle.cmh_segment3.specs.declared.links.LinkState.{LinkState}
use Rattle.cmh_segment3.specs.declared.links.Outgoing.{Outgoing}
use Rattle.cmh_node3.specs.declared.peer.Peer.{Peer}

-- ---- from a base

-- the link with a site to which nothing was sent, and from which nothing was got
abbrev pub unused : ℕ → LinkState
unused s = record {
  site = s;
  out = record { acked = 0; mark = first_mark; kept = [] };
  into = record { got = 0; mark = first_mark };
}

-- the link with a site: its row, or an unused one where it has none
abbrev pub link_at : List LinkState → ℕ → LinkState
link_at [] s = unused s
link_at (l ∷ links) s = if l.site == s then l else link_at links s

-- what was got, with these messages after it
abbrev pub with_receipts : List Message → Incoming → Incoming
with_receipts messages into = record { got = into.got + length messages; mark = mark_on into.mark (spelled messages) }

-- what was got from a site: what the base says of it, and then what the entries behind the base got
abbrev pub got_since : List LinkState → List Entry → ℕ → Incoming
got_since links entries s = with_receipts (receipts_of s entries) (link_at links s).into

-- a sender's end of what the base says was sent
abbrev pub sender_of : Outgoing → Sender
sender_of out = fresh_sender out.acked out.mark out.kept

-- a receiver's end of what was got
abbrev pub receiver_of : Incoming → Receiver
receiver_of into = opened into.got into.mark false

-- a peer whose receipts are those of the base and then of the entries, and whose sender's end was given nothing of what the
-- entries sent
abbrev pub met_from : List LinkState → List Entry → ℕ → Peer
met_from links entries s = record {
  site = s;
  out = sender_of (link_at links s).out;
  into = receiver_of (got_since links entries s);
}

-- more was got from one of these sites than can be counted
pub record HasTooMany (links : List LinkState) (entries : List Entry) (them : List ℕ) : Type 0 where
  pub site : ℕ
  pub one : Contains them site
  pub many : 2 ^ 64 ≤ (got_since links entries site).got

-- ---- to a base

abbrev pub site_of : Peer → ℕ
site_of peer = peer.site

-- what its ends know, but for their connections
abbrev pub link_of : Peer → LinkState
link_of peer = record {
  site = peer.site;
  out = record { acked = peer.out.acked; mark = peer.out.mark; kept = peer.out.kept };
  into = record { got = peer.into.got; mark = peer.into.mark };
}

-- The peers are in the order of their sites, and the grammar allows each message that one keeps.
pub record CanBeRows (peers : List Peer) : Type 0 where
  pub ascending : IsAscending (map site_of peers)
  pub messages : AllByRecursion (λ (peer : Peer). AllByRecursion IsMessage peer.out.kept) peers

-- the peer as a restart leaves it: it dials at once, no connection of it has the claim, and all that it got is synced
abbrev pub at_rest : Peer → Peer
at_rest peer = record {
  site = peer.site;
  out = with_state peer.out (Down 0 0);
  into = receiver_of (link_of peer).into;
}

-- that peer, with what the entries got after it
abbrev pub at_rest_after : List Entry → Peer → Peer
at_rest_after entries peer = record (at_rest peer) { into = receiver_of (with_receipts (receipts_of peer.site entries) (link_of peer).into) }

-- Peers that are met from their own links, with no entry behind, are those peers at rest.
abbrev pub PeersComeBack : Type 0
PeersComeBack = (peers : List Peer) → IsAscending (map site_of peers)
    → map (met_from (map link_of peers) []) (map site_of peers) ≡ map at_rest peers

-- Where entries are behind, what these got is counted besides.
abbrev pub EntriesGoOn : Type 0
EntriesGoOn = (peers : List Peer) (entries : List Entry) → IsAscending (map site_of peers)
    → map (met_from (map link_of peers) entries) (map site_of peers) ≡ map (at_rest_after entries) peers
