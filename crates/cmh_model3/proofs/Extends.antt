-- What is accepted extends a run.
use Rattle.std.proofs.Common.{◌≡◌, ℕ, List, [], ◌∷◌, ◌++◌, sym}
use Rattle.cmh_runs.proofs.Growing.{run_first, run_longer}
use Rattle.cmh_model3.specs.declared.frame.Message.{Message}
use Rattle.cmh_model3.specs.Entries.{WorldEvent}
use Rattle.cmh_model3.specs.Rules.{Accepts, Sends}
use Rattle.cmh_model3.specs.Journals.{message_from, rules_of}
use Rattle.cmh_model3.specs.Runs.{IsRun, state_of, under_way}
use Rattle.cmh_model3.specs.Laws.{ExtendsRun, NothingIsRun}

pub nothing_is_run : NothingIsRun
nothing_is_run home = run_first message_from (rules_of home)

pub accepted_extends : ExtendsRun
accepted_extends home = run_longer message_from (rules_of home)

-- the same, with what is under way behind the message
pub extends_run : (home : ℕ → ℕ) (events : List WorldEvent) (e : WorldEvent) → IsRun home events
    → Accepts home e.site (state_of home e.site events) e.entry.event → Sends home e.site (state_of home e.site events) e.entry.event e.entry.sent e.entry.declared
    → ((a : ℕ) → (behind : List Message) × (under_way a e.site events ≡ message_from a e.entry.event ++ behind)) → IsRun home (events ++ e ∷ [])
extends_run home events e run accepted sends next = accepted_extends home events e run accepted sends (λ a. ((next a).0, sym (next a).1))
