use Rattle.std.proofs.Common.{ℕ, List, Vec, map, subst₂}
use Rattle.std.proofs.lemmas.Option.{MatchOption-at_none, MatchOption-at_some}
use Rattle.std.specs.Global.{Global}
use Rattle.cmh_journal.specs.Journal.{Journal}
use Rattle.cmh_files.specs.Readings.{AreReadTwice}
use Rattle.cmh_files.specs.Stops.{IsLowest, NoneIsConsistent, Stop}
use Rattle.cmh_files.specs.declared.reading.Readings.{Readings}
use Rattle.cmh_files.proofs.ReadLemmas.{none_of_both}
use Rattle.cmh_files.proofs.common_stop.stop_of.Goals as goal

pub returns-in_default-2 : goal.returns-in_default-2
returns-in_default-2 c = λ before journals r.
    let firsts = map (λ (file : Vec ℕ Global). file.items) c.args.first.now in
    let seconds = map (λ (file : Vec ℕ Global). file.items) c.args.second.now in
    let read = c.in-Some.read in
    let own : AreReadTwice firsts seconds read.before.items read.journals.items =
    MatchOption-at_some ((b : Stop) (js : List Journal) → AreReadTwice firsts seconds b js → ⊥) (λ (x : Readings). AreReadTwice firsts seconds x.before.items x.journals.items) read c.in-Some.is c.in_ok-read.ensures in
    let none : NoneIsConsistent c.deref.result.now c.deref-2.result.now =
    MatchOption-at_none (NoneIsConsistent c.deref.result.now c.deref-2.result.now) (λ (s : Vec ℕ Global). IsLowest c.deref.result.now c.deref-2.result.now s.items) c.in_default-2.is c.in_ok-stop.ensures in
    none_of_both firsts seconds read.before.items read.journals.items own before journals r
    (subst₂ (λ (b : Stop) (js : List Journal). NoneIsConsistent b js) c.deref.ensures.value c.deref-2.ensures.value none)
