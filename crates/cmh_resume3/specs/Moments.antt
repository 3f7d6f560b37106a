-- What can happen to a link. Whatever an end does is what the contract of the call allows that does it.
use Rattle.std.specs.Prelude.{◌≡◌, ℕ, ◌+◌, ◌≤◌, Bool, true, false, List, [], ◌∷◌, ◌++◌, length, Some}
use Rattle.cmh_model3.specs.declared.frame.Message.{Message}
use Rattle.cmh_runs.specs.Runs.{IsBeginningOf}
use Rattle.cmh_wire3.specs.Mark.{mark_of}
use Rattle.cmh_wire3.specs.Wire.{spelled}
use Rattle.cmh_resume3.specs.declared.acknowledgement.Acknowledgement.{Acknowledgement}
use Rattle.cmh_resume3.specs.declared.answer.Answer.{Answer}
use Rattle.cmh_resume3.specs.declared.refusal.Refusal.{Refusal}
use Rattle.cmh_resume3.specs.declared.sender.Heard.{Heard}
use Rattle.cmh_resume3.specs.declared.sender.State.TheVariants.{Asked, Refused}
use Rattle.cmh_resume3.specs.Link.{Line, Link, IsNewest, at_one, silent_line, with_frame}
use Rattle.cmh_resume3.specs.Receiver.{Receiver, Claims, all_synced, closed_off, heard_at, opened, rested, said, synced_of, with_message}
use Rattle.cmh_resume3.specs.Sender.{HearsAcknowledgement, HearsAnswer, IsAsked, IsDown, IsRunning, Sender, WritesNext, ended_state, fresh_sender, noted_state, pause_of, state_by, task_of, with_kept, with_state}

-- what is left of a connection that ends: of all that it held a beginning, and nothing comes any more
pub record IsLeftOf (line left : Line) : Type 0 where
  pub hello : left.hello ≡ true → line.hello ≡ true
  pub answer : (a : Answer) → left.answer ≡ Some a → line.answer ≡ Some a
  pub frames : IsBeginningOf left.frames line.frames
  pub acks : IsBeginningOf left.acks line.acks
  pub ended : left.whole ≡ false

-- From one moment of a link to the next.
pub data Moment (l n : Link) : Type 0 where
  -- ---- the sender's site
  -- it writes an entry that sends a message; syncs its journal; gives its end the next synced message
  Wrote : (m : Message) → n ≡ record l { written = l.written ++ m ∷ [] } → Moment l n
  Synced : n ≡ record l { waiting = l.waiting ++ l.written; written = [] } → Moment l n
  Handed : (m : Message) (rest : List Message) → l.waiting ≡ m ∷ rest
      → n ≡ record l { handed = l.handed ++ m ∷ []; waiting = rest; out = with_kept m l.out } → Moment l n
  -- It is killed and opened again: of what was written only a beginning is left, which is synced first. Its end begins with
  -- the messages after some that were acknowledged.
  SenderOpened : (kept past later : List Message) → IsBeginningOf kept l.written → length past ≤ l.out.acked
      → past ++ later ≡ l.handed ++ (l.waiting ++ kept)
      → n ≡ record l { handed = l.handed ++ (l.waiting ++ kept); waiting = []; written = []; out = fresh_sender (length past) (mark_of (spelled past)) later }
      → Moment l n
  -- it dials and writes its hello
  Dialled : (now : ℕ) → IsDown l.out.state
      → n ≡ record l { out = with_state l.out (Asked now (pause_of l.out.state)); dialled = l.dialled + 1; line = at_one l.line l.dialled (record silent_line { hello = true }) }
      → Moment l n
  -- it hears an answer, an acknowledgement, a refusal
  HeardAnswer : (c : ℕ) (a : Answer) (epoch now : ℕ) (out : Sender) (heard : Heard) → IsNewest l c → IsAsked l.out.state
      → (l.line c).answer ≡ Some a → HearsAnswer l.out a epoch now out heard → n ≡ record l { out = out } → Moment l n
  HeardAcknowledgement : (c : ℕ) (before after : List Acknowledgement) (a : Acknowledgement) (epoch now : ℕ) (out : Sender) (heard : Heard)
      → IsNewest l c → IsRunning l.out.state → (l.line c).acks ≡ before ++ a ∷ after
      → HearsAcknowledgement l.out a epoch now out heard → n ≡ record l { out = out } → Moment l n
  HeardRefusal : (refusal : Refusal) → n ≡ record l { out = with_state l.out (Refused refusal) } → Moment l n
  -- it writes the next message; finds that its connection ended; turns; looks at the clock
  WroteOn : (c now : ℕ) (m : Message) (out : Sender) → IsNewest l c → WritesNext l.out now m out
      → n ≡ record l { out = out; line = at_one l.line c (with_frame m (l.line c)) } → Moment l n
  SenderEnded : (now : ℕ) → n ≡ record l { out = with_state l.out (ended_state now l.out.state) } → Moment l n
  SenderTurned : (now : ℕ) → n ≡ record l { out = with_state l.out (noted_state now l.out.state) } → Moment l n
  SenderTicked : (now : ℕ) → n ≡ record l { out = with_state l.out (state_by now l.out.state (task_of now l.out.state)) } → Moment l n
  -- ---- the receiver's site
  -- it reads a hello between two batches, and answers or refuses
  Claimed : (c now : ℕ) (a : Answer) (into : Receiver) → (l.line c).hello ≡ true → l.into.unsynced ≡ 0 → Claims l.into c now a into
      → n ≡ record l { into = into; line = at_one l.line c (record (l.line c) { hello = false; answer = Some a }) } → Moment l n
  HelloRefused : (c : ℕ) → n ≡ record l { line = at_one l.line c (record (l.line c) { hello = false }) } → Moment l n
  -- it takes a message of the claimed connection and writes its entry; syncs its journal; acknowledges
  Took : (c now : ℕ) (m : Message) (rest : List Message) → l.into.claim ≡ Some c → (l.line c).frames ≡ m ∷ rest
      → n ≡ record l { fresh = l.fresh ++ m ∷ []; into = with_message m l.into; line = at_one l.line c (record (l.line c) { frames = rest }) }
      → Moment l n
  ReceiverSynced : n ≡ record l { got = l.got ++ l.fresh; fresh = []; into = all_synced l.into } → Moment l n
  Acknowledged : (c : ℕ) (a : Acknowledgement) → l.into.claim ≡ Some c → a.count ≡ synced_of l.into
      → n ≡ record l { into = said l.into; line = at_one l.line c (record (l.line c) { acks = (l.line c).acks ++ a ∷ [] }) } → Moment l n
  -- it hears something on its connection; the connection ends for it; it closes the link for good
  ReceiverHeard : (now : ℕ) → n ≡ record l { into = heard_at now l.into } → Moment l n
  ReceiverRested : n ≡ record l { into = rested l.into } → Moment l n
  ReceiverClosed : n ≡ record l { into = closed_off l.into } → Moment l n
  -- it is killed and opened again: of what was written only a beginning is left, which is synced first
  ReceiverOpened : (kept : List Message) (closed : Bool) → IsBeginningOf kept l.fresh
      → n ≡ record l { got = l.got ++ kept; fresh = []; into = opened (length (l.got ++ kept)) (mark_of (spelled (l.got ++ kept))) closed }
      → Moment l n
  -- ---- between them
  -- a connection ends, with any part of what it held
  Lost : (c : ℕ) (left : Line) → IsLeftOf (l.line c) left → n ≡ record l { line = at_one l.line c left } → Moment l n

-- moments one after the other
abbrev pub Moments : Link → List Link → Link → Type 0
Moments l [] n = l ≡ n
Moments l (m ∷ ms) n = Moment l m × Moments m ms n
