use Rattle.std.proofs.Common.{ℕ, ◌≡◌, ◌<◌, length, get_or, List, refl, ap, ◌∙◌, sym, subst}
use Rattle.std.specs.Prelude.{Contains, None}
use Rattle.std.proofs.lemmas.Option.{get_or_from_slice_get}
use Rattle.cmh_resume3.specs.declared.hello.Hello.{Hello}
use Rattle.cmh_resume3.specs.Receiver.{Claims, IsFit}
use Rattle.cmh_node3.specs.Peers.{IsPlaceOf}
use Rattle.cmh_node3.specs.declared.peer.Peer.{Peer}
use Rattle.cmh_node3.specs.Nodes.{IsExact, Node, epoch_of, kept_last}
use Rattle.cmh_node3.proofs.OtherPlaces.{claims_same, into_exact, none_missed}
use Rattle.cmh_node3.proofs.node.Node.hello.Goals as goal

abbrev hello_of : List ℕ → ℕ → ℕ → ℕ → Hello
hello_of world from to epoch = record { world = world; from = from; to = to; epoch = epoch }

pub unreachable-requires : goal.unreachable-requires
unreachable-requires g c =
    let s = c.self.inside in
    none_missed s.peers.items s.others.items c.args.hello.now.from c.self.invariant.1.sites
    (subst (λ (l : List Peer). IsPlaceOf l c.args.hello.now.from None) c.deref-2.ensures.value c.in_default.ensures)
    (subst (λ (l : List ℕ). Contains l c.args.hello.now.from) c.deref.ensures.value c.in-Ok.ensures.ok.from_is)

pub claim_at-requires-clause-synced : goal.claim_at-requires-clause-synced
claim_at-requires-clause-synced g c = λ d.
    (c.self.invariant.1.fits c.in-Some-place_of.place
    (subst (λ (l : List Peer). c.in-Some-place_of.place < length l) c.deref-2.ensures.value c.in-Some-place_of.ensures.0) d).synced

pub invariant_of-self-2 : goal.invariant_of-self-2
invariant_of-self-2 g c =
    let told = g.F.SegmentFile.told in
    let works = g.F.SegmentFile.has_failed in
    let s = c.self.inside in
    let n : Node g.row.F.Denot = record { world = s.world; site = s.site; station = s.station; peers = s.peers.items; others = s.others.items; sealed = s.sealed; last = kept_last s.last } in
    let steps = c.self.invariant.0 in (
      steps,
      into_exact told works n steps c.in-Some-place_of.place (λ a b. Claims a c.args.line c.args.now c.in-Ok-claim_at.answer b) c.claim_at.new.peers.items c.self.invariant.1 c.in-Ok-claim_at.ensures.claims
          (claims_same c.args.line c.args.now c.in-Ok-claim_at.answer),
    )

pub invariant_of-self : goal.invariant_of-self
invariant_of-self g c =
    let told = g.F.SegmentFile.told in
    let works = g.F.SegmentFile.has_failed in
    let s = c.self.inside in
    let n : Node g.row.F.Denot = record { world = s.world; site = s.site; station = s.station; peers = s.peers.items; others = s.others.items; sealed = s.sealed; last = kept_last s.last } in
    let steps = c.self.invariant.0 in
    (steps, subst (λ (l : List Peer). IsExact told works (record n { peers = l }) steps) (sym c.in-Err-claim_at.ensures.same) c.self.invariant.1)

pub returns-clause-ok : goal.returns-clause-ok
returns-clause-ok g c =
    let told = g.F.SegmentFile.told in
    let works = g.F.SegmentFile.has_failed in
    let s = c.self.inside in
    let n : Node g.row.F.Denot = record { world = s.world; site = s.site; station = s.station; peers = s.peers.items; others = s.others.items; sealed = s.sealed; last = kept_last s.last } in
    let steps = c.self.invariant.0 in
    let place = c.in-Some-place_of.place in
    let into = c.in-Ok-claim_at.ensures.claims in
    let whose : (get_or s.peers.items place into.peer).site ≡ c.args.hello.now.from =
    subst (λ (l : List Peer). (get_or l place into.peer).site ≡ c.args.hello.now.from) c.deref-2.ensures.value (c.in-Some-place_of.ensures.1 into.peer) in
    rw (← c.self.view_is) (record {
      fit = subst (λ (l : List ℕ). IsFit c.args.hello.now s.world s.site l) c.deref.ensures.value c.in-Ok.ensures.ok;
      is_open = c.in-None.is;
      at_end = into;
      of_sender = ap (λ (p : Peer). p.site) (sym (get_or_from_slice_get s.peers.items place into.peer into.peer into.there)) ∙ whose;
      speaks = c.in-Ok-claim_at.ensures.speaks ∙ ap (λ (e : ℕ). hello_of s.world s.site c.args.hello.now.from e) (c.epoch.ensures ∙ ap epoch_of (sym c.self.view_is));
      rest = refl;
    })

pub returns-clause-exact : goal.returns-clause-exact
returns-clause-exact g c =
    let told = g.F.SegmentFile.told in
    let works = g.F.SegmentFile.has_failed in
    let s = c.self.inside in
    let n : Node g.row.F.Denot = record { world = s.world; site = s.site; station = s.station; peers = s.peers.items; others = s.others.items; sealed = s.sealed; last = kept_last s.last } in
    rw (← c.self.view_is) (λ steps exact.
    into_exact told works n steps c.in-Some-place_of.place (λ a b. Claims a c.args.line c.args.now c.in-Ok-claim_at.answer b) c.claim_at.new.peers.items exact c.in-Ok-claim_at.ensures.claims
    (claims_same c.args.line c.args.now c.in-Ok-claim_at.answer))
