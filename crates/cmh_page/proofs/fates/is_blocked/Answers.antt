use Rattle.std.proofs.Common.{◌∙◌}
use Rattle.cmh_page.proofs.FateLemmas.{refused_tells}
use Rattle.cmh_page.proofs.fates.is_blocked.Goals as goal

pub returns : goal.returns
returns c = c.is_of_blocked.ensures ∙ refused_tells _ _ _ _ _ c.requires c.in-Err.ensures.refused
