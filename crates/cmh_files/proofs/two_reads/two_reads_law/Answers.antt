use Rattle.std.proofs.Common.{subst, sym}
use Rattle.cmh_frames.specs.Runs.{IsRun}
use Rattle.cmh_frames.proofs.Journals.{run_front}
use Rattle.cmh_files.proofs.TwoReads.{enough}
use Rattle.cmh_files.proofs.two_reads.two_reads_law.Goals as goal

pub returns : goal.returns
returns c = record {
  enough = λ events so_far reads run begins around.
      let t = c.args.topology.now in
      enough t so_far (run_front t so_far begins.0 (subst (IsRun t) (sym begins.1) run)) reads around c.stranger_law.ensures.silent c.cut_law_of_every_run.ensures.stops;
}
