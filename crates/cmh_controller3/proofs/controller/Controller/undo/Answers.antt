use Rattle.cmh_controller3.proofs.WaysBack.{facts_here, fits_here, stands_again}
use Rattle.cmh_controller3.proofs.controller.Controller.undo.Goals as goal

pub put_rows-requires : goal.put_rows-requires
put_rows-requires c =
    let r = c.requires in record {
      fits = fits_here r.0 c.args.event.now r.1 c.args.way r.2 c.args.self.now r.3;
      facts = facts_here r.0 c.args.event.now r.1 c.args.way r.2 c.args.self.now r.3;
    }

pub give_up-requires : goal.give_up-requires
give_up-requires c =
    let r = c.requires in
    (r.0, stands_again r.0 c.args.event.now r.1 c.args.way r.2 c.args.self.now r.3 c.put_rows.new.self c.put_rows.ensures.topology c.put_rows.ensures.site c.put_rows.ensures.state)

pub returns : goal.returns
returns c = λ old d leads is.
    c.give_up.ensures old (stands_again old c.args.event.now d c.args.way leads c.args.self.now is c.put_rows.new.self c.put_rows.ensures.topology c.put_rows.ensures.site c.put_rows.ensures.state)
