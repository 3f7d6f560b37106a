-- What contracts see of a connection, and what small changes make of it.
use Rattle.std.specs.Prelude.{ℕ, Bool, true, false, List, [], ◌++◌, drop, Option, None}
use Rattle.cmh_links3.specs.declared.onward.Onward.{Onward}
use Rattle.cmh_links3.specs.declared.onward.Onward.TheVariants.{Open, Close}

-- A connection that was accepted: its number, and when that was; the place of the peer whose hello was admitted; what was
-- heard and not taken yet; what is to be written; whether something was taken since the last acknowledgement; and whether
-- it is closed.
pub record Incoming : Type 0 where
  pub line : ℕ
  pub since : ℕ
  pub place : Option ℕ
  pub unread : List ℕ
  pub to_write : List ℕ
  pub owes : Bool
  pub is_closed : Bool

-- one on which nothing was heard
abbrev pub accepted : ℕ → ℕ → Incoming
accepted line now = record { line = line; since = now; place = None; unread = []; to_write = []; owes = false; is_closed = false }

abbrev pub hears : List ℕ → Incoming → Incoming
hears bytes c = record c { unread = c.unread ++ bytes }

abbrev pub with_unread : List ℕ → Incoming → Incoming
with_unread bytes c = record c { unread = bytes }

abbrev pub says : List ℕ → Incoming → Incoming
says bytes c = record c { to_write = c.to_write ++ bytes }

-- so many bytes were written
abbrev pub carries : ℕ → Incoming → Incoming
carries count c = record c { to_write = drop count c.to_write }

abbrev pub closed : Incoming → Incoming
closed c = record c { is_closed = true }

abbrev pub closed_if : Onward → Incoming → Incoming
closed_if Open c = c
closed_if Close c = closed c

-- The connection that a site dials to the peer at a place: whether it is dialled, and whether the answer was heard; what was
-- heard and not taken yet; what is to be written; and whether it is closed.
pub record Outgoing : Type 0 where
  pub place : ℕ
  pub is_dialled : Bool
  pub is_answered : Bool
  pub unread : List ℕ
  pub to_write : List ℕ
  pub is_closed : Bool

-- one that is not dialled
abbrev pub undialled : ℕ → Outgoing
undialled place = record { place = place; is_dialled = false; is_answered = false; unread = []; to_write = []; is_closed = false }
