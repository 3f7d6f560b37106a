use Rattle.cmh_picture.proofs.drawing.picture_of_files.Goals as goal

pub returns-clause-draws : goal.returns-clause-draws
returns-clause-draws c = record {
  world = c.in_ok-audited.audited.world;
  journals = c.in_ok-audited.audited.journals.items;
  cuts = c.in_ok-audited.audited.cuts.items;
  verdict = c.in_ok-audited.audited.verdict;
  audits = c.in_ok-audited.ensures.audits;
  is_picture = c.in_ok-picture.ensures;
}
