-- Of a world that is shown and was played, the totals are those of a run.
use Rattle.std.proofs.Common.{Bool}
use Rattle.cmh_audit.specs.Totals.{AreTotalsOfRun}
use Rattle.cmh_play.specs.Held.{Held, Shows}
use Rattle.cmh_play.specs.Runs.{IsPlayed}
use Rattle.cmh_play.specs.World.{World}
use Rattle.cmh_play.proofs.Seats.{is_set}

pub totals_of_run : (keeps : Bool) (world : World) (held : Held) → Shows keeps world held → IsPlayed world → AreTotalsOfRun world.topology world.journals held.history.totals
totals_of_run keeps world held shows (events, of) = record {
  set = is_set world.topology world.journals shows.standing.ascending shows.standing.placed shows.standing.edition;
  limit = shows.limit;
  comes = (events, of.run, of.comes);
  sums = shows.totals;
}
