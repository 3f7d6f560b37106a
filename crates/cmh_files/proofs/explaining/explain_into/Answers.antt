use Rattle.std.proofs.Common.{ℕ, List, subst, ◌∙◌}
use Rattle.std.specs.Io.KnownBytes.{Appends}
use Rattle.std.proofs.KnownBytes.{Appends-kept}
use Rattle.cmh_files.proofs.explaining.explain_into.Goals as goal

pub explained_text-requires : goal.explained_text-requires
explained_text-requires g c = c.in_ok-audited.ensures.audits.verdict_is.stops

pub returns-clause-wrote : goal.returns-clause-wrote
returns-clause-wrote g c =
    let told = c.in_ok-text.ensures in
    record {
      world = c.in_ok-audited.audited.world;
      journals = c.in_ok-audited.audited.journals.items;
      cuts = c.in_ok-audited.audited.cuts.items;
      verdict = c.in_ok-audited.audited.verdict;
      audits = c.in_ok-audited.ensures.audits;
      status_is = c.status-status.ensures;
      reasons = told.0;
      are_reasons = told.1;
      wrote = subst (λ (text : List ℕ). Appends c.args.out.now.written c.flush.new.self.written text)
          (c.as_str.ensures.value ∙ told.2) (Appends-kept _ _ _ _ c.in_ok-write_text.ensures.bytes c.flush.ensures.bytes);
    }
