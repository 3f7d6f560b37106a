use Rattle.cmh_report3.proofs.Declaring.{each_has_cycle, each_has_leaver, each_is_declared_there}
use Rattle.cmh_report3.proofs.laws.declarations_law.Goals as goal

pub returns : goal.returns
returns c = record {
  declared = each_is_declared_there;
  cycle = each_has_cycle;
  left = each_has_leaver;
}
