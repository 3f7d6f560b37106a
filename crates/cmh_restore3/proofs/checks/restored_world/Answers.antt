use Rattle.std.proofs.Common.{◌≡◌, ℕ, List, refl, sym, subst, ◌∙◌}
use Rattle.std.specs.List.{All}
use Rattle.std.proofs.lemmas.List.Elements.{All-map}
use Rattle.cmh_segment3.specs.Base.{IsBase}
use Rattle.cmh_segment3.specs.declared.head.Head.{Head}
use Rattle.cmh_segment3.specs.declared.segment.Segment.{Segment}
use Rattle.cmh_audit3.specs.Set.{AreOfWorld}
use Rattle.cmh_history3.specs.Between.{AreAgreed}
use Rattle.cmh_restore3.specs.Restored.{AreOfOther, BeginLawfully, StandsFor, restored, restored_all}
use Rattle.cmh_restore3.proofs.checks.restored_world.Goals as goal

pub fault_of_base-requires : goal.fault_of_base-requires
fault_of_base-requires c =
    let at = (λ (g : Segment). IsBase g.base) in
    let t = c.args.topology.now in
    let epoch = c.args.epoch in
    let heads = c.args.heads.items in
    let is : c.deref-4.result.now ≡ restored_all t epoch heads = c.deref-4.ensures.value ∙ c.in_ok-segments.ensures in
    subst (All at) (sym is) (All-map at (restored t epoch) heads c.requires)

pub returns-clause-can : goal.returns-clause-can
returns-clause-can c =
    let t = c.args.topology.now in
    let epoch = c.args.epoch in
    let heads = c.args.heads.items in
    let of_other = subst (λ (hs : List Head). AreOfOther c.world.result hs) c.deref.ensures.value (c.are_of_other.ensures.0 c.if-not-are_of_other.false) in
    let agreed = subst (λ (gs : List Segment). AreAgreed c.sites.result.now gs) (c.deref-5.ensures.value ∙ c.in_ok-segments.ensures) c.in_default-disagreement.ensures in
    record {
      world = subst (λ (world : List ℕ). AreOfOther world heads) c.world.ensures of_other;
      stand = subst (All (StandsFor epoch)) c.deref-2.ensures.value (c.have_begun.ensures.0 c.if-not-have_begun.false);
      begin = record {
        set = record {
          of_world = subst (AreOfWorld t) (c.deref-3.ensures.value ∙ c.in_ok-segments.ensures) c.in_default.ensures.ok;
          epoch = epoch;
          of_epoch = All-map (λ (g : Segment). g.header.epoch ≡ epoch) (restored t epoch) heads (λ k d inside. refl);
        };
        states = subst (BeginLawfully t) (c.deref-4.ensures.value ∙ c.in_ok-segments.ensures) (c.in_default-fault_of_base.ensures.none refl);
        agreed = subst (λ (sites : List ℕ). AreAgreed sites (restored_all t epoch heads)) c.sites.ensures.value agreed;
      };
    }
