use Rattle.std.proofs.Common.{◌≡◌, ◌++◌, map, take}
use Rattle.std.specs.List.{AllByRecursion}
use Rattle.cmh_runs.specs.Number.{IsNumber}
use Rattle.cmh_bases3.specs.Inner.Rows.{pair_of}
use Rattle.cmh_bases3.proofs.pairs.push_pairs.Given as goal

-- the pairs so far
abbrev pub invariant-loop-second : goal.invariant-loop-second
invariant-loop-second l = record {
  rows : l.rows.items ≡ l.initial.rows.items ++ map (pair_of l.first) (take l.second-index l.seconds);
  numbers : AllByRecursion IsNumber (take l.second-index l.seconds);
}
