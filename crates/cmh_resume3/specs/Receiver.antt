-- The receiver's end of a link, and what each call makes of it. Connections have numbers, and times are milliseconds.
use Rattle.std.specs.Prelude.{◌≡◌, ◌≢◌, ℕ, ◌+◌, ◌-◌, Bool, true, false, List, Contains, Option, None, Some}
use Rattle.cmh_model3.specs.declared.frame.Message.{Message}
use Rattle.cmh_wire3.specs.Mark.{mark_on}
use Rattle.cmh_wire3.specs.Wire.{spelling}
use Rattle.cmh_resume3.specs.declared.answer.Answer.{Answer}
use Rattle.cmh_resume3.specs.declared.hello.Hello.{Hello}
use Rattle.cmh_resume3.specs.declared.refusal.Refusal.{Refusal}
use Rattle.cmh_resume3.specs.declared.refusal.Refusal.TheVariants.{OtherWorld, NotThisSite, NoSuchSender}
use Rattle.cmh_resume3.specs.declared.receiver.Untaken.{Untaken}
use Rattle.cmh_resume3.specs.declared.receiver.Untaken.TheVariants.{Stale, Full}

-- How many of the link's messages are in the journal, their mark, how many of these may not be synced yet; the connection
-- whose messages are taken; whether the link is closed for good; how many came since the last acknowledgement; and when
-- something last came.
pub record Receiver : Type 0 where
  pub got : ℕ
  pub mark : ℕ
  pub unsynced : ℕ
  pub claim : Option ℕ
  pub closed : Bool
  pub unsaid : ℕ
  pub heard : ℕ

-- how many are synced
abbrev pub synced_of : Receiver → ℕ
synced_of r = r.got - r.unsynced

-- a receiver's end with so many messages of this mark, all synced, and no connection
abbrev pub opened : ℕ → ℕ → Bool → Receiver
opened got mark closed = record { got = got; mark = mark; unsynced = 0; claim = None; closed = closed; unsaid = 0; heard = 0 }

-- the connection has the claim from now on, and no other one
abbrev pub claimed_by : ℕ → ℕ → Receiver → Receiver
claimed_by line now r = record r { claim = Some line; unsaid = 0; heard = now }

-- one message more, which is written to the journal and not synced
abbrev pub with_message : Message → Receiver → Receiver
with_message message r = record r { got = r.got + 1; mark = mark_on r.mark (spelling message); unsynced = r.unsynced + 1; unsaid = r.unsaid + 1 }

-- all is synced
abbrev pub all_synced : Receiver → Receiver
all_synced r = record r { unsynced = 0 }

-- no connection has the claim
abbrev pub rested : Receiver → Receiver
rested r = record r { claim = None }

-- a count was said
abbrev pub said : Receiver → Receiver
said r = record r { unsaid = 0 }

-- something came on the claimed connection
abbrev pub heard_at : ℕ → Receiver → Receiver
heard_at now r = record r { heard = now }

-- the link is closed for good
abbrev pub closed_off : Receiver → Receiver
closed_off r = record r { claim = None; closed = true }

-- the connection takes the claim of an open link, and is told how many messages there are and their mark
pub record Claims (r : Receiver) (line now : ℕ) (a : Answer) (n : Receiver) : Type 0 where
  pub is_open : r.closed ≡ false
  pub count_is : a.count ≡ r.got
  pub mark_is : a.mark ≡ r.mark
  pub after : n ≡ claimed_by line now r

-- the hello is for this site and from one of the senders, in this world
pub record IsFit (hello : Hello) (world : List ℕ) (site : ℕ) (senders : List ℕ) : Type 0 where
  pub world_is : hello.world ≡ world
  pub to_is : hello.to ≡ site
  pub from_is : Contains senders hello.from

-- why it is not: another world, another site, or no such sender, in this order
abbrev pub IsUnfit : Hello → List ℕ → ℕ → List ℕ → Refusal → Type 0
IsUnfit hello world site senders OtherWorld = hello.world ≢ world
IsUnfit hello world site senders NotThisSite = (hello.world ≡ world) × (hello.to ≢ site)
IsUnfit hello world site senders NoSuchSender = (hello.world ≡ world) × (hello.to ≡ site) × ¬ Contains senders hello.from
IsUnfit hello world site senders other = ⊥

-- why a message is not taken that came on a connection: another one has the claim, or no more can be counted
abbrev pub IsUntaken : ℕ → Receiver → Untaken → Type 0
IsUntaken line r Stale = r.claim ≢ Some line
IsUntaken line r Full = (r.claim ≡ Some line) × (r.got ≡ 18446744073709551615)
