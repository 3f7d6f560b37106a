use Rattle.std.proofs.Common.{ℕ, List, ◌++◌, subst₂, ◌∙◌}
use Rattle.std.specs.Io.KnownBytes.{Appends}
use Rattle.std.proofs.KnownBytes.{Appends-kept, Appends-trans}
use Rattle.cmh_files3.proofs.telling.tell_into.Goals as goal

pub returns-clause-wrote : goal.returns-clause-wrote
returns-clause-wrote g c =
    let both = Appends-trans _ _ _ _ _ c.in_ok-write_text.ensures.bytes c.in_ok-write_text-2.ensures.bytes in
    record {
      world = c.in_ok-told.told.audited.world;
      cuts = c.in_ok-told.told.audited.cuts.items;
      finding = c.in_ok-told.told.audited.finding;
      lines = _;
      tells = c.in_ok-told.ensures.tells;
      status_is = c.status-status.ensures;
      wrote = subst₂ (λ (a b : List ℕ). Appends c.args.out.now.written c.flush.new.self.written (a ++ b))
          (c.as_str.ensures.value ∙ c.in_ok-text.ensures) c.as_str-2.ensures.value (Appends-kept _ _ _ _ both c.flush.ensures.bytes);
    }
