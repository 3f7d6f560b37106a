use Rattle.std.proofs.Common.{refl}
use Rattle.cmh.proofs.serve_site_of.Goals as goal

pub returns-in-Ok-clause-ends : goal.returns-in-Ok-clause-ends
returns-in-Ok-clause-ends g c = record {
  served = λ done. c.in-Ok.ensures.served;
  flushed = λ done. c.in-Ok.ensures.flushed;
  silent = λ done. refl;
  early = λ failed. absurd (failed refl);
  fault = λ failed. absurd (failed refl);
}

pub returns-in-Err-clause-ends : goal.returns-in-Err-clause-ends
returns-in-Err-clause-ends g c =
    let named = c.name_on.ensures in
    record {
      served = λ done. absurd (named.fails done);
      flushed = λ done. absurd (named.fails done);
      silent = λ done. absurd (named.fails done);
      early = λ failed. c.in-Err.ensures.early;
      fault = λ failed. record {
        fault = c.in-Err.fault;
        cause = c.in-Err.ensures.fault;
        status_is = rw c.from.ensures at named.status;
        named = rw c.from.ensures at named.named;
      };
    }
