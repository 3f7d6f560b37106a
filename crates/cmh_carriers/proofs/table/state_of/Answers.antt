use Rattle.std.proofs.Common.{ℕ, Option, sym, subst}
use Rattle.cmh_carriers.specs.Table.{IsPlace}
use Rattle.cmh_carriers.proofs.Rows.{none_there, state_there}
use Rattle.cmh_carriers.proofs.table.state_of.Goals as goal

pub returns-in_default : goal.returns-in_default
returns-in_default c = sym (none_there c.args.rows.now c.args.site (subst (λ (o : Option ℕ). IsPlace c.args.rows.now c.args.site o) c.in_default.is c.place_of.ensures))

pub returns : goal.returns
returns c = sym (state_there c.args.rows.now c.args.site c.in-Some.i c.index-rows-i.result c.in-Some.ensures)
