-- How relations are coded, for the models of types that keep one.
use Rattle.std.specs.FinSet as set
use Rattle.std.specs.Coded.{Coded, coded×, coded_ℕ}
use Rattle.cmh_frames.specs.Relation.{Relation}

abbrev pub relation_code : Coded Relation
relation_code = set.code (coded× coded_ℕ coded_ℕ)
