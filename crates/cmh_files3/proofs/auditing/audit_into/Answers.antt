use Rattle.std.proofs.Common.{ℕ, List, refl, subst, ◌∙◌}
use Rattle.std.specs.Io.KnownBytes.{Appends}
use Rattle.std.proofs.KnownBytes.{Appends-kept}
use Rattle.cmh_files3.proofs.auditing.audit_into.Goals as goal

pub returns-clause-wrote : goal.returns-clause-wrote
returns-clause-wrote g c = (
  _,
  record {
    world = c.in_ok-audited.audited.world;
    cuts = c.in_ok-audited.audited.cuts.items;
    finding = c.in_ok-audited.audited.finding;
    audits = c.in_ok-audited.ensures.audits;
    text_is = refl;
    status_is = c.status-status.ensures;
  },
  subst (λ (text : List ℕ). Appends c.args.out.now.written c.flush.new.self.written text)
      (c.as_str.ensures.value ∙ c.in_ok-text.ensures) (Appends-kept _ _ _ _ c.in_ok-write_text.ensures.bytes c.flush.ensures.bytes),
)
