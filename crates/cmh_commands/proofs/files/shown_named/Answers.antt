use Rattle.std.proofs.Common.{ℕ, Option, Some, Vec, ap, ◌∙◌, IfErr, IfOk, map, subst}
use Rattle.std.specs.Global.{Global}
use Rattle.clap.specs.Matches.{found_of}
use Rattle.cmh_inputs.specs.Readings.{AreNamedJournals, AreUnread}
use Rattle.cmh_commands.specs.Paths.{journal_paths, shown_paths}
use Rattle.cmh_commands.proofs.EpochLemmas.{epoch_is}
use Rattle.cmh_commands.proofs.files.shown_named.Goals as goal

pub returns-in-Some-clause-named : goal.returns-in-Some-clause-named
returns-in-Some-clause-named g c = λ epoch told.
    subst (λ (e : Option ℕ). IfOk c.segments_named.result (λ (files : Vec (Vec ℕ Global) Global).
    AreNamedJournals (g.N.Inputs.holds c.args.inputs.now) (shown_paths e (journal_paths (found_of c.args.words.now))) (map (λ (file : Vec ℕ Global). file.items) files.items)))
    (ap Some c.new.ensures ∙ epoch_is _ _ c.in-Some.ensures.none c.in-Some.ensures.some epoch told) c.segments_named.ensures.named

pub returns-in-Some-clause-unread : goal.returns-in-Some-clause-unread
returns-in-Some-clause-unread g c = λ epoch told.
    subst (λ (e : Option ℕ). IfErr c.segments_named.result (AreUnread (g.N.Inputs.holds c.args.inputs.now) (shown_paths e (journal_paths (found_of c.args.words.now)))))
    (ap Some c.new.ensures ∙ epoch_is _ _ c.in-Some.ensures.none c.in-Some.ensures.some epoch told) c.segments_named.ensures.unread

pub returns-in-None-clause-named : goal.returns-in-None-clause-named
returns-in-None-clause-named g c = λ epoch told.
    subst (λ (e : Option ℕ). IfOk c.journals_named.result (λ (files : Vec (Vec ℕ Global) Global).
    AreNamedJournals (g.N.Inputs.holds c.args.inputs.now) (shown_paths e (journal_paths (found_of c.args.words.now))) (map (λ (file : Vec ℕ Global). file.items) files.items)))
    (epoch_is _ _ c.in-None.ensures.none c.in-None.ensures.some epoch told) c.journals_named.ensures.named

pub returns-in-None-clause-unread : goal.returns-in-None-clause-unread
returns-in-None-clause-unread g c = λ epoch told.
    subst (λ (e : Option ℕ). IfErr c.journals_named.result (AreUnread (g.N.Inputs.holds c.args.inputs.now) (shown_paths e (journal_paths (found_of c.args.words.now)))))
    (epoch_is _ _ c.in-None.ensures.none c.in-None.ensures.some epoch told) c.journals_named.ensures.unread
