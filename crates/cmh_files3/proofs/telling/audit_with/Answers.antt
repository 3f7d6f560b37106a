use Rattle.cmh_files3.proofs.telling.audit_with.Goals as goal

pub finding_on-requires : goal.finding_on-requires
finding_on-requires c = c.in_ok-world.ensures.read.set

pub returns-clause-tells : goal.returns-clause-tells
returns-clause-tells c = record {
  segments = c.in_ok-world.field-0.segments.items;
  read = c.in_ok-world.ensures.read;
  finds = c.in_ok-told.ensures.finding;
  are_more = c.in_ok-told.ensures.more;
}
