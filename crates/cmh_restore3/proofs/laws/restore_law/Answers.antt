use Rattle.cmh_restore3.proofs.Standing.{one_stands}
use Rattle.cmh_restore3.proofs.Worlds.{same_world}
use Rattle.cmh_restore3.proofs.Histories.{follow_all, have_histories}
use Rattle.cmh_restore3.proofs.laws.restore_law.Goals as goal

pub returns : goal.returns
returns c =
    let t = c.args.topology.now in
    record {
      one = one_stands t;
      same = same_world t;
      follow = follow_all t c.turn_law.ensures;
      history = have_histories t c.turn_law.ensures c.chain_law.ensures.chain;
    }
