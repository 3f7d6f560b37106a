use Rattle.std.proofs.Common.{inl}
use Rattle.cmh_c.proofs.opening3.reopened_of_words.Goals as goal

pub returns-in-Err-clause-fault : goal.returns-in-Err-clause-fault
returns-in-Err-clause-fault c = inl (c.in-Err.ensures.fault, c.in-Err.ensures.told)
