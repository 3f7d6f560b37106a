use Rattle.std.proofs.Common.{true≢false, sym, ap, ◌∙◌, refl}
use Rattle.std.specs.List.{list_any}
use Rattle.cmh_frames.specs.declared.edition.Edition.{Edition}
use Rattle.cmh_audit.specs.Inner.Faults.{is_of_other_edition, lacks_site}
use Rattle.cmh_audit.proofs.SetLemmas.{no_fault, without_fault}
use Rattle.cmh_audit.proofs.set.check_set.Goals as goal

pub returns-then-has_stranger-clause-ok : goal.returns-then-has_stranger-clause-ok
returns-then-has_stranger-clause-ok c = (
  λ h. absurd (true≢false (sym h)),
  λ set. absurd (true≢false (sym c.if-has_stranger.true ∙ c.has_stranger.ensures ∙ (no_fault c.args.topology.now c.args.journals.now set).stranger)),
)

pub returns-then-has_other_edition-clause-ok : goal.returns-then-has_other_edition-clause-ok
returns-then-has_other_edition-clause-ok c = (
  λ h. absurd (true≢false (sym h)),
  λ set. absurd (true≢false (sym c.if-has_other_edition.true ∙ c.has_other_edition.ensures
      ∙ ap (λ (e : Edition). list_any (is_of_other_edition e) c.args.journals.now) c.edition.ensures ∙ (no_fault c.args.topology.now c.args.journals.now set).edition)),
)

pub returns-then-has_site_twice-clause-ok : goal.returns-then-has_site_twice-clause-ok
returns-then-has_site_twice-clause-ok c = (
  λ h. absurd (true≢false (sym h)),
  λ set. absurd (true≢false (sym c.if-has_site_twice.true ∙ c.has_site_twice.ensures ∙ (no_fault c.args.topology.now c.args.journals.now set).twice)),
)

pub returns-then-has_site_without-clause-ok : goal.returns-then-has_site_without-clause-ok
returns-then-has_site_without-clause-ok c = (
  λ h. absurd (true≢false (sym h)),
  λ set. absurd (true≢false (sym c.if-has_site_without.true ∙ c.has_site_without.ensures ∙ ap (λ ss. lacks_site ss c.args.journals.now) c.sites.ensures.value
      ∙ (no_fault c.args.topology.now c.args.journals.now set).lacking)),
)

pub returns-else-has_site_without-clause-ok : goal.returns-else-has_site_without-clause-ok
returns-else-has_site_without-clause-ok c = (
  λ _. without_fault c.args.topology.now c.args.journals.now (record {
    stranger = sym c.has_stranger.ensures ∙ c.if-has_stranger.false;
    edition = ap (λ (e : Edition). list_any (is_of_other_edition e) c.args.journals.now) (sym c.edition.ensures) ∙ sym c.has_other_edition.ensures ∙ c.if-has_other_edition.false;
    twice = sym c.has_site_twice.ensures ∙ c.if-has_site_twice.false;
    lacking = sym (c.has_site_without.ensures ∙ ap (λ ss. lacks_site ss c.args.journals.now) c.sites.ensures.value) ∙ c.if-has_site_without.false;
  }),
  λ _. refl,
)
