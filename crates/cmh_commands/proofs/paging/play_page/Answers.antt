use Rattle.std.proofs.Common.{inl, rules}
use Rattle.cmh_commands.proofs.PageLemmas.{page_refused, page_written}
use Rattle.cmh_commands.proofs.paging.play_page.Goals as goal

pub returns-then-played-ne0-clause-plays : goal.returns-then-played-ne0-clause-plays
returns-then-played-ne0-clause-plays g c = inl c.play_keeping-played.ensures.plays

pub returns-in-Ok-clause-plays : goal.returns-in-Ok-clause-plays
returns-in-Ok-clause-plays g c =
    page_written _ c.play_keeping-played.new.input _ _ _ _ _ _ _ c.play_keeping-played.ensures.plays (search rules) c.write_page.ensures.ends

pub returns-clause-plays : goal.returns-clause-plays
returns-clause-plays g c =
    page_refused _ c.play_keeping-played.new.input _ _ _ _ _ _ _ c.play_keeping-played.ensures.plays (search rules) _ _ (record {
      fault = c.in-Err.fault;
      cause = c.in-Err.ensures.fault;
      status_is = c.name_on.ensures.status;
      named = c.name_on.ensures.named;
    })
