use Rattle.std.proofs.Common.{map, take}
use Rattle.std.specs.List.{All}
use Rattle.cmh_segment3.specs.Base.{IsBase}
use Rattle.cmh_segment3.specs.declared.head.Head.{Head}
use Rattle.cmh_restore3.specs.Reading.{AreNamedHeads}
use Rattle.cmh_restore3.proofs.reading.heads_for.Given as goal

-- the heads so far are those of the journals so far
abbrev pub invariant-loop-i : goal.invariant-loop-i
invariant-loop-i g l = record {
  bases : All (λ (head : Head). IsBase head.base) l.heads.items;
  named : AreNamedHeads (g.N.Inputs.holds l.inputs) (map (λ path. path.now) (take l.i l.paths)) l.heads.items;
}
