use Rattle.std.proofs.Common.{ℕ, List, subst}
use Rattle.std.specs.Prelude.{string_bytes}
use Rattle.std.specs.Io.KnownBytes.{Appends}
use Rattle.std.proofs.KnownBytes.{Appends-kept}
use Rattle.cmh_page3.proofs.paging.page_into.Goals as goal

pub returns-clause-wrote : goal.returns-clause-wrote
returns-clause-wrote g c = (
  string_bytes c.in_ok-page.page,
  c.in_ok-page.ensures.page,
  subst (λ (text : List ℕ). Appends c.args.out.now.written c.flush.new.self.written text) c.as_str.ensures.value
      (Appends-kept _ _ _ _ c.in_ok-write_text.ensures.bytes c.flush.ensures.bytes),
)
