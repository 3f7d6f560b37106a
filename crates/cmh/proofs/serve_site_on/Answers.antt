use Rattle.cmh_inputs.specs.declared.file_fault.FileFault.TheVariants.{Memory}
use Rattle.cmh.proofs.Serving.{is_unread}
use Rattle.cmh.proofs.serve_site_on.Goals as goal

pub returns-in-Err-clause-serves : goal.returns-in-Err-clause-serves
returns-in-Err-clause-serves g c =
    is_unread c.args.topology.now c.args.site c.args.input.now c.args.input.now c.args.out.now c.args.err.now
    c.name_on.new.err c.name_on.result
    (record {
      fault = Memory;
      cause = tt;
      status_is = c.name_on.ensures.status;
      named = c.name_on.ensures.named;
    })
