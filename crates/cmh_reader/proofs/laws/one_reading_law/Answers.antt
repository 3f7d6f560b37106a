use Rattle.cmh_reader.proofs.OneReading.{reads_once}
use Rattle.cmh_reader.proofs.SomeReading.{some_reading}
use Rattle.cmh_reader.proofs.laws.one_reading_law.Goals as goal

pub returns-clause-some : goal.returns-clause-some
returns-clause-some c = some_reading

pub returns-clause-one : goal.returns-clause-one
returns-clause-one c = reads_once
