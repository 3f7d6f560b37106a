use Rattle.std.proofs.Common.{◌≡◌, ℕ, List, ◌++◌, length, map, refl, ap, subst, ◌∙◌}
use Rattle.cmh_draw.specs.Arrows.{arrows_of}
use Rattle.cmh_draw.specs.Inner.Columns.{AreWithin, lengths_of}
use Rattle.cmh_draw.specs.Marks.{AreForward, entry_marks, site_marks, stop_marks}
use Rattle.cmh_draw.specs.declared.mark.Arrow as arrows
use Rattle.cmh_draw.specs.declared.mark.Mark.TheVariants.{Arrow}
use Rattle.cmh_draw.proofs.ColumnLemmas.{ascending_from, lengths_from}
use Rattle.cmh_draw.proofs.running.run_picture.Goals as goal

pub returns : goal.returns
returns c =
    let t = c.args.topology.now in
    let journals = c.args.journals.now in
    let verdict = c.args.verdict.now in
    let columns = c.in_ok-columns.columns.items in
    let width = c.width_of-width.result in
    let drawn : c.in_ok-arrows.arrows.items ≡ arrows_of t journals columns =
    c.in_ok-arrows.ensures.same ∙ c.in_ok-sent.ensures ∙ ap (λ (cs : List (List ℕ)). arrows_of t journals cs) c.deref-2.ensures.value in
    record {
      columns = columns;
      lengths_are = lengths_from (lengths_of t journals) columns c.in_ok-columns.ensures;
      are_ascending = ascending_from (lengths_of t journals) columns c.in_ok-columns.ensures;
      are_forward = subst (λ (all : List arrows.Arrow). AreForward verdict all) drawn c.in_ok-arrows.ensures.forward;
      are_within = subst (AreWithin width) c.deref.ensures.value c.width_of-width.ensures;
      kind_is = refl;
      edition_is = refl;
      rows_are = ap (λ (l : List ℕ). length l) c.sites.ensures.value;
      marks_are = c.in_ok-marks.ensures
          ∙ ap (λ (all : List arrows.Arrow). site_marks t (λ site. width) ++ map Arrow all ++ entry_marks t journals c.deref-2.result.now
          ++ stop_marks t c.deref-2.result.now verdict) (c.deref-3.ensures.value ∙ drawn)
          ∙ ap (λ (cs : List (List ℕ)). site_marks t (λ site. width) ++ map Arrow (arrows_of t journals columns) ++ entry_marks t journals cs
          ++ stop_marks t cs verdict) c.deref-2.ensures.value;
    }
