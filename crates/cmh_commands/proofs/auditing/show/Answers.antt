use Rattle.std.proofs.Common.{ℕ, List, Vec, inl, map, subst, sym}
use Rattle.std.specs.Global.{Global}
use Rattle.cmh_inputs.specs.Readings.{AreNamedJournals}
use Rattle.clap.specs.Matches.{found_of}
use Rattle.cmh_commands.specs.Paths.{journal_paths, shown_paths}
use Rattle.cmh_commands.proofs.auditing.show.Goals as goal

pub returns-in-Ok-clause-shows_named : goal.returns-in-Ok-clause-shows_named
returns-in-Ok-clause-shows_named g c = λ epoch told. inl (
  _,
  subst (λ (files : List (Vec ℕ Global)). AreNamedJournals (g.N.Inputs.holds c.args.inputs.now) (shown_paths epoch (journal_paths (found_of c.args.words.now)))
      (map (λ (file : Vec ℕ Global). file.items) files)) (sym c.deref.ensures.value) (c.in-Ok.ensures.named epoch told),
  c.show_files.ensures.ends,
)

pub returns-in-Ok-clause-shows : goal.returns-in-Ok-clause-shows
returns-in-Ok-clause-shows g c = inl (_, c.show_files.ensures.ends)
