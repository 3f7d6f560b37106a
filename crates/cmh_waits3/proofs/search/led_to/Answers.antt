use Rattle.std.proofs.Common.{◌≡◌, ◌∙◌, ℕ, List, get_or, not, sym, ap, subst}
use Rattle.std.proofs.lemmas.List.{get_or_default}
use Rattle.cmh_model3.specs.Lists.{is_before}
use Rattle.cmh_waits3.proofs.NoYounger.{led_by_all}
use Rattle.cmh_waits3.proofs.Summaries.{led_nowhere, led_whole}
use Rattle.cmh_waits3.proofs.search.led_to.Goals as goal

pub returns-then-all_count : goal.returns-then-all_count
returns-then-all_count c =
    let v = c.args.waits.now in
    let place = c.args.place in
    let p = c.index-members-place.result in
    let is : p ≡ get_or v.members place 0 = subst (λ (ms : List ℕ). p ≡ get_or ms place p) c.members.ensures.value c.index-members-place.is ∙ get_or_default v.members place p 0 c.requires.place in
    led_whole v c.args.stamp c.args.origin place c.summary-summary.result.now c.summary-summary.ensures
    (ap (λ q. not (is_before c.args.stamp c.args.origin c.summary-summary.result.now.latest q)) (sym is) ∙ sym c.all_count.ensures ∙ c.if-all_count.true)

pub returns-then-none_counts : goal.returns-then-none_counts
returns-then-none_counts c = λ k.
    let v = c.args.waits.now in
    let place = c.args.place in
    let p = c.index-members-place.result in
    let is : p ≡ get_or v.members place 0 = subst (λ (ms : List ℕ). p ≡ get_or ms place p) c.members.ensures.value c.index-members-place.is ∙ get_or_default v.members place p 0 c.requires.place in
    c.empty.ensures k
    ∙ led_nowhere v c.args.stamp c.args.origin place c.summary-summary.result.now c.summary-summary.ensures
    (ap (λ q. is_before c.args.stamp c.args.origin c.summary-summary.result.now.earliest q) (sym is) ∙ sym c.none_counts.ensures ∙ c.if-none_counts.true) k

pub returns-then-all : goal.returns-then-all
returns-then-all c = led_by_all c.args.waits.now c.args.stamp c.args.origin c.args.place c.summary.result.now c.summary.ensures (c.requires.all c.if-all.true) c.requires.place
