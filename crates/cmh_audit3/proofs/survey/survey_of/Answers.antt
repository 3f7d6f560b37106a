use Rattle.std.proofs.Common.{List, ℕ, ◌+◌, ◌++◌, ◌∷◌, [], take, set, ap, sym, subst, ◌∙◌}
use Rattle.cmh_merge.specs.declared.walk.SiteWalk.{SiteWalk}
use Rattle.cmh_segment3.specs.declared.entry.Entry.{Entry}
use Rattle.cmh_controller3.specs.Controller.{state_of}
use Rattle.cmh_audit3.specs.Inner.Lawful.{IsLawfulLength, StandsIfLawful}
use Rattle.cmh_audit3.proofs.Surveys.{Surveying, survey_first, survey_more}
use Rattle.cmh_audit3.proofs.survey.survey_of.Goals as goal

pub loop-place-init : goal.loop-place-init
loop-place-init c = survey_first c.args.segments.now c.args.controllers.items c.new-limits.result.items c.new-walks.result.items c.requires c.new-limits.ensures.items c.new-walks.ensures.items

pub loop-place-preserved : goal.loop-place-preserved
loop-place-preserved c =
    let gs = c.args.segments.now in
    let begun = c.args.controllers.items in
    let i = c.loop-place.place in
    let g = c.index-segments-place.result in
    let n = c.in_ok-length.length in
    let old = c.index_mut.result.now in
    let new = c.lawful_length.new.controller in
    let same = c.as_slice-entries.ensures in
    let controllers = set c.loop-place.controllers.items i new in
    subst (λ (ws : List (SiteWalk (List Entry))). Surveying gs begun (i + 1) c.push.new.self.items ws controllers) (sym c.in_ok-push-2.ensures.items)
    (subst (λ (ls : List ℕ). Surveying gs begun (i + 1) ls (c.loop-place.walks.items ++ record { site = g.header.site; walk = c.new.result } ∷ []) controllers) (sym c.in_ok-push.ensures.items)
    (survey_more gs begun i c.loop-place.limits.items c.loop-place.walks.items c.loop-place.controllers.items g n c.new.result old new c.loop-place.invariant c.loop-place-test.true c.index-segments-place.is c.index_mut.ensures.value
    (subst (λ es. IsLawfulLength old.topology old.site (state_of old) es n) same c.in_ok-length.ensures.length) (c.new.ensures ∙ c.split_at.ensures.front ∙ ap (take n) same)
    (subst (λ es. StandsIfLawful old.topology old.site (state_of old) es new) same c.in_ok-length.ensures.controller)))
