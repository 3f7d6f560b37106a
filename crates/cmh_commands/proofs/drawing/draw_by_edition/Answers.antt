use Rattle.std.proofs.Common.{ℕ, List, Vec, inl, map, subst₂}
use Rattle.std.proofs.lemmas.Bool.{MatchBool-at_true}
use Rattle.std.specs.Global.{Global}
use Rattle.cmh_draw3.specs.Draws.{DrawEnds}
use Rattle.cmh_commands.proofs.drawing.draw_by_edition.Goals as goal

pub returns-then-files-clause-ends : goal.returns-then-files-clause-ends
returns-then-files-clause-ends g c = inl (
  MatchBool-at_true _ _ c.if-files.true c.requires,
  subst₂ (λ (topology : List ℕ) (journals : List (Vec ℕ Global)). DrawEnds topology (map (λ (file : Vec ℕ Global). file.items) journals)
      c.args.look.now.kind c.args.look.now.format c.args.look.now.part c.args.out.now c.run_draw3.new.out c.args.err.now c.run_draw3.new.err c.run_draw3.result)
      c.deref.ensures.value c.deref-2.ensures.value c.run_draw3.ensures.ends,
)
