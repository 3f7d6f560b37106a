use Rattle.std.proofs.Common.{◌≡◌, ◌∙◌, ℕ, List, [], get_or, length, replicate, sym, ap, subst, arith, rules}
use Rattle.std.specs.List.Sorted.{IsStrictlyIncreasing}
use Rattle.std.proofs.lemmas.List.{get_or-replicate, length-replicate}
use Rattle.cmh_waits3.specs.declared.summary.Summary.{Summary}
use Rattle.cmh_waits3.specs.declared.wait.Wait.{Wait}
use Rattle.cmh_waits3.specs.Inner.Summaries.{IsSummary}
use Rattle.cmh_waits3.proofs.Away.{no_rows, none_away}
use Rattle.cmh_waits3.proofs.NoYounger.{none_younger}
use Rattle.cmh_waits3.proofs.Summaries.{all_summed}
use Rattle.cmh_waits3.proofs.site_waits.SiteWaits.new.Goals as goal

pub invariant_of-result : goal.invariant_of-result
invariant_of-result c =
    let ms = c.in_ok-new.field-0 in
    let n = length c.args.members.now in
    let rows = c.in_ok-empty_lists.field-0.items in
    let aways = c.in_ok-empty_lists-2.field-0.items in
    let up : IsStrictlyIncreasing ms = search rules in
    let same : n ≡ length ms = ap (λ (xs : List ℕ). length xs) (sym c.in_ok-new.ensures) in
    let rows_are : rows ≡ replicate n [] = c.in_ok-empty_lists.ensures in
    let aways_are : aways ≡ replicate n [] = c.in_ok-empty_lists-2.ensures in
    let each : c.in_ok-vec.field-0.items ≡ replicate n c.of_none.result = search rules in
    let long : length rows ≡ length ms = ap (λ (rs : List (List Wait)). length rs) rows_are ∙ length-replicate n [] ∙ same in
    let many : length aways ≡ length ms = ap (λ (rs : List (List Wait)). length rs) aways_are ∙ length-replicate n [] ∙ same in (
      up,
      long,
      all_summed ms rows c.in_ok-vec.field-0.items c.empty.result.words (search rules) (no_rows rows n rows_are) (λ place s inside is. subst (IsSummary ms []) (sym (ap (λ (xs : List Summary). get_or xs place s) each ∙ get_or-replicate n place c.of_none.result s (omega (arith, inside, same))) ∙ is) (c.of_none.ensures ms)),
      none_away ms rows aways many (no_rows rows n rows_are) (no_rows aways n aways_are),
      none_younger ms rows c.of_none-2.result.stamp c.of_none-2.result.asker (no_rows rows n rows_are),
    )
