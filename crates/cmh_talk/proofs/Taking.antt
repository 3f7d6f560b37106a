-- Events that a station was given together, each as a step of its own.
use Rattle.std.proofs.Common.{◌≡◌, ℕ, ◌+◌, ◌<◌, true, false, List, [], ◌∷◌, ◌++◌, length, take, get_or, map, Option, None, Some, refl, sym, ap, subst, arith, Result, Ok, Err}
use Rattle.std.specs.Prelude.{IfSome, flat_map}
use Rattle.std.specs.Io.KnownBytes.{Appends, Keeps}
use Rattle.std.proofs.lemmas.List.{append-nil}
use Rattle.std.proofs.lemmas.Grind.{flat_map-append}
use Rattle.cmh_frames.specs.Topology.{Topology}
use Rattle.cmh_frames.specs.declared.event.Event.{Event}
use Rattle.cmh_frames.specs.Entries.{Entry, Outcome}
use Rattle.cmh_frames.specs.Journals.{value}
use Rattle.cmh_controller.proofs.Replaying.{not_accepted}
use Rattle.cmh_controller.specs.Refusals.{Refuses}
use Rattle.cmh_controller.specs.declared.refusal.Refusal.{Refusal}
use Rattle.cmh_controller.specs.declared.refusal.Refusal.TheVariants.{UnknownProcess, NotHere, BadTargets, Blocked, NotBlocked, NotOwed, AlreadyDeclared, Unlawful, Memory}
use Rattle.cmh_journal.specs.Journal.{entry_limit}
use Rattle.std.proofs.KnownBytes.{Appends-kept, Appends-nil, Appends-trans}
use Rattle.cmh_frames.proofs.ListLemmas.{texts_written}
use Rattle.cmh_station.specs.Batches.{AreAnswers, IsAnswer, SealedAll, SteppedAll, entry_for, made}
use Rattle.cmh_station.specs.Journaled.{Journaled}
use Rattle.cmh_station.specs.Questions.{CanStep, CanStepFirst}
use Rattle.cmh_station.specs.Steps.{Stepped}
use Rattle.cmh_station.specs.declared.refusal.StationRefusal.{StationRefusal}
use Rattle.cmh_station.specs.declared.refusal.StationRefusal.TheVariants.{Rule, Sealed, Full, Disk}
use Rattle.cmh_talk.specs.SiteReplies.{reply_text}
use Rattle.cmh_talk.specs.Steps.{WasStepped}
use Rattle.cmh_talk.specs.Together.{AreStepped, AreTaken, FirstRefused, WereAnswered, answer_text, reply_of}
use Rattle.cmh_talk.specs.declared.site_reply.SiteReply.{SiteReply}
use Rattle.cmh_talk.specs.declared.site_reply.SiteReply.TheVariants.{Taken, Refused}

-- a station of which no more is known than its journal
abbrev journaled_at : Topology → ℕ → List Entry → Journaled
journaled_at t site entries = record {
  topology = t;
  site = site;
  entries = entries;
  links = [];
  sealed = false;
  failures = 0;
  known = None;
  synced = 0;
}

refused_at : (t : Topology) (site : ℕ) (entries : List Entry) (event : Event) (reason : Refusal) → (length entries < entry_limit)
    → Refuses t site (value t site entries) event reason → WasStepped event (Refused (Rule reason))
refused_at t site entries event reason room refused =
    (journaled_at t site entries, journaled_at t site entries, (refl, room, refused, refl))

taken_one : (t : Topology) (site : ℕ) (entries : List Entry) (event : Event) (answer : Result Outcome StationRefusal) → IsAnswer t site entries event answer
    → WasStepped event (reply_of answer)
taken_one t site entries event (Ok outcome) h = (
  journaled_at t site entries,
  journaled_at t site (entries ++ entry_for event outcome ∷ []),
  outcome.sent,
  (
    record { was_open = refl; not_full = h.0; step = record { accepts = h.1; sends = h.2 } },
    record { is = record { topology = refl; site = refl; entries = refl; not_sealed = refl; known = refl; synced = tt }; failures = refl; links = tt },
  ),
  refl,
)
taken_one t site entries event (Err Full) h = (journaled_at t site entries, journaled_at t site entries, (refl, h, refl))
taken_one t site entries event (Err Sealed) h = absurd h
taken_one t site entries event (Err Disk) h = absurd h
taken_one t site entries event (Err (Rule Memory)) h = absurd h
taken_one t site entries event (Err (Rule UnknownProcess)) h = refused_at t site entries event UnknownProcess h.0 h.1
taken_one t site entries event (Err (Rule NotHere)) h = refused_at t site entries event NotHere h.0 h.1
taken_one t site entries event (Err (Rule BadTargets)) h = refused_at t site entries event BadTargets h.0 h.1
taken_one t site entries event (Err (Rule Blocked)) h = refused_at t site entries event Blocked h.0 h.1
taken_one t site entries event (Err (Rule NotBlocked)) h = refused_at t site entries event NotBlocked h.0 h.1
taken_one t site entries event (Err (Rule NotOwed)) h = refused_at t site entries event NotOwed h.0 h.1
taken_one t site entries event (Err (Rule AlreadyDeclared)) h = refused_at t site entries event AlreadyDeclared h.0 h.1
taken_one t site entries event (Err (Rule Unlawful)) h = refused_at t site entries event Unlawful h.0 h.1

taken_each : (t : Topology) (site : ℕ) (entries : List Entry) (events : List Event) (answers : List (Result Outcome StationRefusal))
    → AreAnswers t site entries events answers → AreTaken events answers
taken_each t site entries [] [] h = tt
taken_each t site entries [] (answer ∷ answers) h = absurd h
taken_each t site entries (event ∷ events) [] h = absurd h
taken_each t site entries (event ∷ events) (answer ∷ answers) h =
    (taken_one t site entries event answer h.0, taken_each t site _ events answers h.1)

pub taken_all : (events : List Event) (answers : List (Result Outcome StationRefusal)) → ((a : Journaled) × (b : Journaled) × SteppedAll a events answers b) → AreTaken events answers
taken_all events answers h = taken_each h.0.topology h.0.site h.0.entries events answers h.2.answered

-- one event was answered
pub stepped_ok : (event : Event) (outcome : Outcome) → ((a : Journaled) × (b : Journaled) × Stepped a event outcome.sent outcome.declared b)
    → WasStepped event (Taken (record { sent = length outcome.sent; declared = outcome.declared }))
stepped_ok event outcome h = (h.0, h.1, outcome.sent, h.2, refl)

-- the first event of a batch was accepted, and the sink failed
failed_at : (a : Journaled) (event : Event) (answer : Result Outcome StationRefusal) → CanStep a event → IsAnswer a.topology a.site a.entries event answer
    → WasStepped event (Refused Disk)
failed_at a event (Ok outcome) can h = (
  journaled_at a.topology a.site a.entries,
  record (journaled_at a.topology a.site a.entries) { sealed = true; failures = 1 },
  (
    entry_for event outcome,
    refl,
    record { was_open = refl; not_full = h.0; step = record { accepts = h.1; sends = h.2 } },
    record { is = refl; known = record { part = []; begins = (_, refl); told = refl }; synced = omega arith },
  ),
)
failed_at a event (Err refusal) can h = absurd (excluded refusal h)
  where
    by_rule : (reason : Refusal) → (reason ≡ Memory → ⊥) → Refuses a.topology a.site (value a.topology a.site a.entries) event reason → ⊥
    by_rule reason other refused = not_accepted a.topology a.site (value a.topology a.site a.entries) event reason refused.holds other can.accepted

    excluded : (r : StationRefusal) → IsAnswer a.topology a.site a.entries event (Err r) → ⊥
    excluded Full h = let room = can.not_full in absurd (omega (arith, room, h))
    excluded Sealed h = h
    excluded Disk h = h
    excluded (Rule Memory) h = h
    excluded (Rule UnknownProcess) h = by_rule UnknownProcess (λ e. cc) h.1
    excluded (Rule NotHere) h = by_rule NotHere (λ e. cc) h.1
    excluded (Rule BadTargets) h = by_rule BadTargets (λ e. cc) h.1
    excluded (Rule Blocked) h = by_rule Blocked (λ e. cc) h.1
    excluded (Rule NotBlocked) h = by_rule NotBlocked (λ e. cc) h.1
    excluded (Rule NotOwed) h = by_rule NotOwed (λ e. cc) h.1
    excluded (Rule AlreadyDeclared) h = by_rule AlreadyDeclared (λ e. cc) h.1
    excluded (Rule Unlawful) h = by_rule Unlawful (λ e. cc) h.1

pub first_failed : (a b : Journaled) (events : List Event) → CanStepFirst a events → SealedAll a events b → FirstRefused events Disk
first_failed a b [] can s = absurd can
first_failed a b (event ∷ events) can s = go s.answers s.answered s.some
  where
    go : (answers : List (Result Outcome StationRefusal)) → AreAnswers a.topology a.site a.entries (take (length answers) (event ∷ events)) answers
        → 0 < length (made (take (length answers) (event ∷ events)) answers) → WasStepped event (Refused Disk)
    go [] h some = absurd (omega (arith, some))
    go (answer ∷ answers) h some = failed_at a event answer can h.0

-- what was answered is what is written
pub written : (events : List Event) (answers : List (Result Outcome StationRefusal)) → AreTaken events answers → AreStepped events (map reply_of answers)
written [] [] h = tt
written [] (answer ∷ answers) h = absurd h
written (event ∷ events) [] h = absurd h
written (event ∷ events) (answer ∷ answers) h = (h.0, written events answers h.1)

-- first some events were answered, and then the others
pub stepped_on : (before after : List Event) (said more : List SiteReply) → AreStepped before said → AreStepped after more → AreStepped (before ++ after) (said ++ more)
stepped_on [] after [] more h g = g
stepped_on [] after (reply ∷ said) more h g = absurd h
stepped_on (event ∷ before) after [] more h g = absurd h
stepped_on (event ∷ before) after (reply ∷ said) more h g = (h.0, stepped_on before after said more h.1 g)

pub answered_on : (before after : List Event) (old mid new : Option (List ℕ)) → WereAnswered before old mid → WereAnswered after mid new → WereAnswered (before ++ after) old new
answered_on before after old mid new first then = record {
  replies = first.replies ++ then.replies;
  are = stepped_on before after first.replies then.replies first.are then.are;
  wrote = subst (λ (text : List ℕ). Appends old new text) (sym (flat_map-append reply_text first.replies then.replies))
      (Appends-trans old mid new (flat_map reply_text first.replies) (flat_map reply_text then.replies) first.wrote then.wrote);
}

pub none_answered : (out : Option (List ℕ)) → WereAnswered [] out out
none_answered out = record { replies = []; are = tt; wrote = Appends-nil out }

texts_answered : (answers : List (Result Outcome StationRefusal)) → flat_map answer_text answers ≡ flat_map reply_text (map reply_of answers)
texts_answered [] = refl
texts_answered (answer ∷ answers) = ap (λ l. answer_text answer ++ l) (texts_answered answers)

pub all_answered : (events : List Event) (answers : List (Result Outcome StationRefusal)) (old new : Option (List ℕ)) → AreTaken events answers
    → Appends old new (flat_map answer_text answers) → WereAnswered events old new
all_answered events answers old new taken wrote = record {
  replies = map reply_of answers;
  are = written events answers taken;
  wrote = subst (λ (text : List ℕ). Appends old new text) (texts_answered answers) wrote;
}

-- the text of one answer more
pub wrote_more : (answers : List (Result Outcome StationRefusal)) (i : ℕ) (answer : Result Outcome StationRefusal) (reply : SiteReply) (old out new : Option (List ℕ))
    → Appends old out (flat_map answer_text (take i answers)) → i < length answers → answer ≡ get_or answers i answer → reply ≡ reply_of answer
    → Appends out new (reply_text reply) → Appends old new (flat_map answer_text (take (i + 1) answers))
wrote_more answers i answer reply old out new before within is told more =
    subst (λ (text : List ℕ). Appends old new text) (texts_written answer_text answers i answer within is)
    (Appends-trans old out new (flat_map answer_text (take i answers)) (answer_text answer) before
    (subst (λ (r : SiteReply). Appends out new (reply_text r)) told more))

pub one_answered : (event : Event) (reply : SiteReply) (old new : Option (List ℕ)) → WasStepped event reply → Appends old new (reply_text reply) → WereAnswered (event ∷ []) old new
one_answered event reply old new stepped wrote = record {
  replies = reply ∷ [];
  are = (stepped, tt);
  wrote = subst (λ (text : List ℕ). Appends old new text) (sym (append-nil (reply_text reply))) wrote;
}

-- the first of some events was refused
pub first_alone : (rest front back : List Event) (refusal : StationRefusal) (reply : SiteReply) (out new : Option (List ℕ)) → length front ≡ 1 → front ++ back ≡ rest
    → FirstRefused rest refusal → reply ≡ Refused refusal → Appends out new (reply_text reply) → WereAnswered front out new
first_alone rest [] back refusal reply out new one whole refused is wrote = absurd (omega (arith, one))
first_alone rest (event ∷ []) back refusal reply out new one whole refused is wrote =
    one_answered event (Refused refusal) out new (subst (λ (es : List Event). FirstRefused es refusal) (sym whole) refused)
    (subst (λ (r : SiteReply). Appends out new (reply_text r)) is wrote)
first_alone rest (event ∷ other ∷ front) back refusal reply out new one whole refused is wrote = absurd (omega (arith, one))

-- the first was given alone
pub stepped_alone : (front : List Event) (event : Event) (reply given : SiteReply) (out new : Option (List ℕ)) → length front ≡ 1 → event ≡ get_or front 0 event
    → WasStepped event given → reply ≡ given → Appends out new (reply_text reply) → WereAnswered front out new
stepped_alone [] event reply given out new one is stepped same wrote = absurd (omega (arith, one))
stepped_alone (first ∷ []) event reply given out new one is stepped same wrote =
    one_answered first given out new (subst (λ (e : Event). WasStepped e given) is stepped) (subst (λ (r : SiteReply). Appends out new (reply_text r)) same wrote)
stepped_alone (first ∷ other ∷ front) event reply given out new one is stepped same wrote = absurd (omega (arith, one))

-- what was written stays when it is flushed
pub answered_kept : (events : List Event) (old new after : Option (List ℕ)) → WereAnswered events old new → Keeps new after → WereAnswered events old after
answered_kept events old new after told kept = record {
  replies = told.replies;
  are = told.are;
  wrote = Appends-kept old new after (flat_map reply_text told.replies) told.wrote kept;
}

pub no_events : (events : List Event) (out : Option (List ℕ)) → events ≡ [] → WereAnswered events out out
no_events events out none = subst (λ (es : List Event). WereAnswered es out out) (sym none) (none_answered out)

pub of_some : (refused : Option StationRefusal) (P : StationRefusal → Type 0) (refusal : StationRefusal) → refused ≡ Some refusal → IfSome refused P → P refusal
of_some refused P refusal is h = subst (λ (o : Option StationRefusal). IfSome o P) is h
