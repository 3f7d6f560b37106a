use Rattle.std.proofs.Common.{ℕ, List, string_bytes, subst}
use Rattle.cmh_page.specs.Pages.{IsAround}
use Rattle.cmh_page3.proofs.paging.page_text.Goals as goal

pub returns-clause-page : goal.returns-clause-page
returns-clause-page c = record {
  lines = string_bytes c.in_ok-lines.lines;
  tells = c.in_ok-lines.ensures.tells;
  around = subst (λ (lines : List ℕ). IsAround lines (string_bytes c.in_ok-text.text)) c.as_str.ensures.value c.in_ok-text.ensures;
}
