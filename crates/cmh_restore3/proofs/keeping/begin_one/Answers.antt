use Rattle.std.proofs.Common.{List, ℕ, sym, subst₂, ◌∙◌}
use Rattle.std.proofs.lemmas.Bool.{eqb-true}
use Rattle.std.proofs.lemmas.Result.{on_ok_weaker}
use Rattle.cmh_restore3.proofs.keeping.begin_one.Goals as goal

pub returns-then-eq : goal.returns-then-eq
returns-then-eq g c =
    let site = c.segment-item.result.header.site in
    on_ok_weaker c.begin.result (λ begun. record {
      segment = c.segment-item.result;
      there = (c.loop-segment.segment-index, c.loop-segment-test.true, sym c.segment-item.is);
      of_site = eqb-true site c.args.site (sym c.eq.ensures ∙ c.if-eq.true);
      begun = subst₂ (λ keeper (bytes : List ℕ). g.K.NewJournals.begins keeper c.args.site c.segment-item.result.header.epoch bytes c.begin.new.self)
          c.loop-segment.invariant (c.deref.ensures.value ∙ c.in_ok-bytes.ensures) begun;
    }) c.begin.ensures
