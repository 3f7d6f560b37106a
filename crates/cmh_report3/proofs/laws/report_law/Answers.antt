use Rattle.cmh_report3.proofs.Ended.{cycles_stand_or_are_left}
use Rattle.cmh_report3.proofs.Told.{each_lay_on_cycle, each_was_declared_there, each_was_left_by_member}
use Rattle.cmh_report3.proofs.laws.report_law.Goals as goal

pub returns : goal.returns
returns c = record {
  declared = each_was_declared_there;
  cycle = each_lay_on_cycle;
  left = each_was_left_by_member;
  stands = cycles_stand_or_are_left;
}
