use Rattle.std.proofs.Common.{inl, inr, refl}
use Rattle.cmh_draw3.proofs.drawing.run_draw3.Goals as goal

pub returns-in-Ok-written-clause-ends : goal.returns-in-Ok-written-clause-ends
returns-in-Ok-written-clause-ends g c =
    inl (record { whole = c.in-Ok.whole; draws = c.in-Ok.ensures.draws; shows = c.in-Ok-written.ensures.wrote }, refl, c.in-Ok-written.ensures.flushed, refl)

pub returns-in-Err-written-clause-ends : goal.returns-in-Err-written-clause-ends
returns-in-Err-written-clause-ends g c =
    inr (inr (
      c.in-Ok.whole,
      c.in-Ok.ensures.draws,
      record {
        fault = c.in-Err-written.fault;
        cause = c.in-Err-written.ensures.fault;
        status_is = c.name_on-in-Err-written.ensures.status;
        named = c.name_on-in-Err-written.ensures.named;
      },
    ))
