use Rattle.std.proofs.Common.{List, ℕ, [], ◌∷◌, ◌++◌, refl, sym, ap, ◌∙◌, inl, inr, append-nil}
use Rattle.cmh_links3.specs.Connections.{Outgoing}
use Rattle.cmh_links3.specs.Speaking.{says}
use Rattle.cmh_links3.proofs.Giving.{gives_here, gives_more, said_more}
use Rattle.cmh_links3.proofs.Growing.{grows_same, grows_stays, grows_then}
use Rattle.cmh_links3.proofs.Places.{gives_length}
use Rattle.cmh_links3.proofs.outgoing.Outgoing.queue_messages.Goals as goal

pub returns-then-to_write-ge-FEW_QUEUED-clause-writes : goal.returns-then-to_write-ge-FEW_QUEUED-clause-writes
returns-then-to_write-ge-FEW_QUEUED-clause-writes g c =
    let inv = c.loop-queued.invariant in
    record { messages = inv.messages; o = c.loop-queued.node; node = inv.given; then_none = inl refl; queued = inv.said }

pub returns-in_default-clause-writes : goal.returns-in_default-clause-writes
returns-in_default-clause-writes g c =
    let inv = c.loop-queued.invariant in
    let here = c.place.ensures ∙ ap (λ (x : Outgoing). x.place) inv.said in
    record {
      messages = inv.messages;
      o = c.loop-queued.node;
      node = inv.given;
      then_none = inr (gives_here _ _ _ _ _ _ c.in_default.ensures.«open» c.in_default.ensures.sealed here);
      queued = inv.said;
    }

pub returns-in-Close-clause-writes : goal.returns-in-Close-clause-writes
returns-in-Close-clause-writes g c =
    let inv = c.loop-queued.invariant in
    let message = c.in-Some.message in
    let here = c.place.ensures ∙ ap (λ (x : Outgoing). x.place) inv.said in
    let gives = gives_here c.args.self.now.place c.place.result c.args.now _ _ _ c.in-Some.ensures.«open» c.in-Some.ensures.sealed here in
    record {
      messages = inv.messages;
      last = message;
      node = gives_more _ _ inv.messages message _ _ _ inv.given gives;
      queued = c.in-Close.ensures ∙ inv.said;
    }

pub loop-queued-preserved : goal.loop-queued-preserved
loop-queued-preserved g c =
    let inv = c.loop-queued.invariant in
    let message = c.in-Some.message in
    let here = c.place.ensures ∙ ap (λ (x : Outgoing). x.place) inv.said in
    let gives = gives_here c.args.self.now.place c.place.result c.args.now _ _ _ c.in-Some.ensures.«open» c.in-Some.ensures.sealed here in
    let next = c.in-Open.ensures ∙ ap (λ (l : List ℕ). says l c.loop-queued.self) (c.as_slice.ensures.value ∙ c.encode.ensures) in
    record {
      messages = inv.messages ++ message ∷ [];
      given = gives_more _ _ inv.messages message _ _ _ inv.given gives;
      said = said_more inv.messages message _ _ _ inv.said next;
      peers = gives_length _ _ _ _ _ gives ∙ inv.peers;
      grows = grows_then g.F.SegmentFile.told g.F.SegmentFile.has_failed _ _ _ inv.grows
          (grows_stays g.F.SegmentFile.told g.F.SegmentFile.has_failed _ _ c.in-Some.ensures.exact);
    }

pub returns-clause-writes : goal.returns-clause-writes
returns-clause-writes g c =
    let inv = c.loop-queued.invariant in
    record { messages = inv.messages; o = c.loop-queued.node; node = inv.given; then_none = inl refl; queued = inv.said }

pub loop-queued-init : goal.loop-queued-init
loop-queued-init g c = record {
  messages = [];
  given = refl;
  said = ap (λ (l : List ℕ). record c.args.self.now { to_write = l }) (sym (append-nil c.args.self.now.to_write));
  peers = refl;
  grows = grows_same g.F.SegmentFile.told g.F.SegmentFile.has_failed _ _ refl;
}
