use Rattle.cmh_reader.proofs.Links.{link_reads}
use Rattle.cmh_reader.proofs.laws.link_law.Goals as goal

pub returns : goal.returns
returns c = link_reads
