use Rattle.std.proofs.Common.{◌≡◌, ◌↔◌, ℕ, true, List, length, refl, sym, subst, ap, ◌∙◌}
use Rattle.std.specs.Prelude.{Contains}
use Rattle.std.specs.List.Sorted.{IsStrictlySortedBy}
use Rattle.std.specs.Ordering.{nat_cmp}
use Rattle.std.proofs.lemmas.Map.Keys.{IsStrictlyIncreasing-from_sorted}
use Rattle.cmh_frames.specs.Relation.{pair_cmp}
use Rattle.cmh_audit.specs.Turns.{is_open}
use Rattle.cmh_audit.specs.Inner.FoundCycles.{AreFoundCycles}
use Rattle.cmh_audit.proofs.ReportLemmas.{found-length}
use Rattle.cmh_audit.proofs.report.report_with.Goals as goal

pub invariant_of-result : goal.invariant_of-result
invariant_of-result c = (
  found-length c.in_ok-graph.graph.waits.items c.deref.result.now c.in_ok-cycles.cycles.items c.in_ok-cycles.ensures ∙ ap length c.deref.ensures.value,
  IsStrictlyIncreasing-from_sorted c.in_ok-declared.declared.items (subst (λ ps. IsStrictlySortedBy nat_cmp ps) (sym c.in_ok-declared.ensures.processes) c.processes_of.ensures.ordered),
)

pub returns : goal.returns
returns c =
    let waits = c.in_ok-graph.graph.waits.items in
    let W : List (ℕ × ℕ) → Type 0 = λ ws. (j k : ℕ) → Contains ws (j, k) ↔ (is_open c.args.waits.now j k ≡ true) in
    let S : List (ℕ × ℕ) → Type 0 = λ ws. IsStrictlySortedBy pair_cmp ws in
    record {
      waits_are = subst W (sym c.in_ok-graph.ensures.waits_are) c.in_ok-pairs.ensures.pairs;
      declared_are = c.in_ok-declared.ensures.processes;
      cycles_are = subst (λ (ds : List ℕ). AreFoundCycles waits ds c.in_ok-cycles.cycles.items) c.deref.ensures.value c.in_ok-cycles.ensures;
      order = (
        subst S (sym c.in_ok-graph.ensures.waits_are) c.in_ok-pairs.ensures.ascending,
        IsStrictlyIncreasing-from_sorted c.in_ok-declared.declared.items (subst (λ ps. IsStrictlySortedBy nat_cmp ps) (sym c.in_ok-declared.ensures.processes) c.processes_of.ensures.ordered),
      );
      events_are = refl;
      in_transit_is = refl;
      tries_are = refl;
    }
