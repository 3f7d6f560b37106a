use Rattle.cmh_controller3.specs.Controller.{state_of}
use Rattle.cmh_history3.proofs.Rows.{has_same, is_for}
use Rattle.cmh_history3.proofs.states.is_base_for.Goals as goal

pub returns-clause-is : goal.returns-clause-is
returns-clause-is c =
    let v = state_of c.args.controller.now in
    let base = c.args.base.now in
    let own = c.in_ok-own.own in
    let stops = c.as_slice.result.now in
    let links = c.new-no_links.result in
    let named = c.as_slice.ensures in
    let made = c.in_ok-own.ensures.value in (
      (λ yes. is_for v base own stops links named made (c.are_same_rows.ensures.0 yes)),
      (λ is. c.are_same_rows.ensures.1 (has_same v base own stops links named made is)),
    )
