use Rattle.std.proofs.Common.{refl}
use Rattle.cmh_report3.proofs.report.Report.new.Goals as goal

pub of_kept-requires : goal.of_kept-requires
of_kept-requires c = (
  c.args.topology.now,
  c.args.events.now,
  record { is_run = c.requires.run; stand = c.requires.stand; events_are = refl; sent_is = c.sent_in.ensures },
)
