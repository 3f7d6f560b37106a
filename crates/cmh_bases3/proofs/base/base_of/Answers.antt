use Rattle.std.proofs.Common.{◌≡◌, ◌∙◌, sym, ap, subst}
use Rattle.cmh_controller3.specs.Controller.{state_of}
use Rattle.cmh_segment3.specs.Base.{IsBase}
use Rattle.cmh_segment3.specs.States.{base_of, stamp_of, state_in, turned_to}
use Rattle.cmh_segment3.specs.declared.base.Base.{Base}
use Rattle.cmh_bases3.proofs.Turns.{begins}
use Rattle.cmh_bases3.proofs.Whole.{is_base}
use Rattle.cmh_bases3.specs.Inner.Kinds.{HasKinds}
use Rattle.cmh_bases3.proofs.base.base_of.Goals as goal
use Rattle.cmh_bases3.proofs.base.base_of.Goals.{After-kinds_law}

-- what the rows make up
abbrev made : After-kinds_law → Base
made c = record {
  waits = c.in_ok-wait_rows.field-0;
  leaving = c.in_ok-leaving_rows.field-0;
  owed = c.in_ok-owed_rows.field-0;
  dependents = c.in_ok-mark_rows.field-0;
  declared = c.in_ok-declared_rows.field-0;
  stamps = c.in_ok-stamp_rows.field-0;
  links = c.args.links;
}

-- it is the base of the state
made_is : (c : After-kinds_law) → made c ≡ base_of (state_of c.args.controller.now) (stamp_of c.args.stops.now) c.args.links
made_is c = λ i. record {
  waits = c.in_ok-wait_rows.ensures i;
  leaving = c.in_ok-leaving_rows.ensures.rows i;
  owed = c.in_ok-owed_rows.ensures i;
  dependents = c.in_ok-mark_rows.ensures.rows i;
  declared = c.in_ok-declared_rows.ensures i;
  stamps = c.in_ok-stamp_rows.ensures i;
  links = c.args.links;
}

pub returns-clause-begins : goal.returns-clause-begins
returns-clause-begins c = begins c.args.controller.now c.members.ensures.facts c.in_ok-leaving_rows.ensures.numbers c.in_ok-mark_rows.ensures.numbers

pub returns-clause-state : goal.returns-clause-state
returns-clause-state c = λ epoch.
    let turned = turned_to epoch (state_of c.args.controller.now) in
    ap (state_in epoch) (made_is c)
    ∙ c.state_law.ensures.back epoch turned (stamp_of c.args.stops.now) c.args.links (returns-clause-begins c epoch)

pub returns-clause-whole : goal.returns-clause-whole
returns-clause-whole c = λ fit.
    let kinds = subst HasKinds (made_is c) c.kinds_law.ensures in
    subst IsBase (sym (made_is c)) (is_base c.args.controller.now c.members.ensures.facts (stamp_of c.args.stops.now) c.args.links kinds fit)
