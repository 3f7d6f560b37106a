use Rattle.cmh_controller.proofs.TakingBack.{request_back, request_stands}
use Rattle.cmh_controller.proofs.controller.Controller.got_request.Goals as goal

pub returns-clause-ok : goal.returns-clause-ok
returns-clause-ok c =
    let inside = c.self.inside in
    let old = c.args.self.now in record {
      accepted = c.requires.accepted;
      sends = (c.silent.ensures.sent, c.silent.ensures.declared);
      stands = request_stands inside.topology inside.site inside.waits c.got_request.new.self inside.dependents inside.declared old c.args.sender c.args.asker c.args.holder c.silent.result.outcome.declared c.self.view_is c.in_ok-got_request.ensures.ok;
      back = request_back old.topology old.site old.state c.args.sender c.args.asker c.args.holder c.silent.result.acted c.silent.result.outcome.declared c.requires.accepted.3 c.silent.ensures.declared;
    }
