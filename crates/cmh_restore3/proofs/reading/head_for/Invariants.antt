use Rattle.cmh_segment3.specs.Base.{IsBase}
use Rattle.cmh_restore3.specs.Reading.{IsNamedHead}
use Rattle.cmh_restore3.proofs.reading.head_for.Given as goal

-- the head so far is one of the journal
abbrev pub invariant-loop : goal.invariant-loop
invariant-loop g l = record {
  base : IsBase l.head.base;
  named : IsNamedHead (g.N.Inputs.holds l.inputs) l.path l.head;
}
