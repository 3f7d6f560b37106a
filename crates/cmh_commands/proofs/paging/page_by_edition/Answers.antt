use Rattle.std.proofs.Common.{ℕ, List, Vec, inr, map, subst₂}
use Rattle.std.proofs.lemmas.Bool.{MatchBool-at_false}
use Rattle.std.specs.Global.{Global}
use Rattle.cmh_page.specs.Pages.{PageEnds}
use Rattle.cmh_commands.proofs.paging.page_by_edition.Goals as goal

pub returns-clause-ends : goal.returns-clause-ends
returns-clause-ends g c = inr (
  MatchBool-at_false _ _ c.if-files.false c.requires,
  subst₂ (λ (topology : List ℕ) (journals : List (Vec ℕ Global)). PageEnds topology (map (λ (file : Vec ℕ Global). file.items) journals)
      c.args.out.now c.run_page.new.out c.args.err.now c.run_page.new.err c.run_page.result)
      c.deref-2.ensures.value c.deref-3.ensures.value c.run_page.ensures.ends,
)
