-- Rows whose numbers are within the limits of the grammar.
use Rattle.std.specs.List.{AllByRecursion}
use Rattle.cmh_segment3.specs.Base.{IsPairRow, IsStampedPairRow, IsStampedRow}
use Rattle.cmh_segment3.specs.declared.base.Base.{Base}

-- those of a base that name processes
pub record HasKinds (base : Base) : Type 0 where
  pub waits : AllByRecursion IsStampedPairRow base.waits
  pub leaving : AllByRecursion IsPairRow base.leaving
  pub owed : AllByRecursion IsPairRow base.owed
  pub dependents : AllByRecursion IsStampedPairRow base.dependents
  pub declared : AllByRecursion IsStampedRow base.declared
  pub stamps : AllByRecursion IsStampedRow base.stamps
