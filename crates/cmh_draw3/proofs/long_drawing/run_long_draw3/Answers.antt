use Rattle.std.proofs.Common.{inl, inr, refl}
use Rattle.cmh_draw3.proofs.long_drawing.run_long_draw3.Goals as goal

pub returns-in-Ok-written-clause-ends : goal.returns-in-Ok-written-clause-ends
returns-in-Ok-written-clause-ends g c = inl (
  record { whole = c.in-Ok.drawn.whole; part = c.in-Ok.drawn.part; draws = c.in-Ok.ensures.draws; shows = c.in-Ok-written.ensures.wrote },
  refl,
  c.in-Ok-written.ensures.flushed,
  refl,
)

pub returns-in-Err-written-clause-ends : goal.returns-in-Err-written-clause-ends
returns-in-Err-written-clause-ends g c = inr (inr (record {
  whole = c.in-Ok.drawn.whole;
  part = c.in-Ok.drawn.part;
  draws = c.in-Ok.ensures.draws;
  names = record {
    fault = c.in-Err-written.fault;
    cause = c.in-Err-written.ensures.fault;
    status_is = c.name_on-in-Err-written.ensures.status;
    named = c.name_on-in-Err-written.ensures.named;
  };
}))
