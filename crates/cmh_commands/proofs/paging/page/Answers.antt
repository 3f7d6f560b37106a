use Rattle.std.proofs.Common.{inl}
use Rattle.cmh_commands.proofs.paging.page.Goals as goal

pub returns-in-Ok-clause-pages_named : goal.returns-in-Ok-clause-pages_named
returns-in-Ok-clause-pages_named g c = inl (_, _, c.in-Ok.ensures.named, c.page_by_edition.ensures.ends)

pub returns-in-Ok-clause-pages : goal.returns-in-Ok-clause-pages
returns-in-Ok-clause-pages g c = inl (_, _, c.page_by_edition.ensures.ends)
