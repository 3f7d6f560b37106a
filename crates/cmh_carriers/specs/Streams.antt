-- Connections over a stream: what a call passes on, and when the receiving end told its end.
use Rattle.std.specs.Prelude.{ℕ, ◌≡◌, ◌<◌, ◌⊎◌, ◌↔◌, Bool, true, IsTrue, List, length, Option, Result, Ok}
use Rattle.std.specs.Io.KnownBytes.{ReadConsumes, WriteAppends}
use Rattle.cmh_carriers.specs.declared.carrier.IoFault.{IoFault}

-- what the stream of a receiving end will still give, where it tells that; whether the end told its end; and how often
-- it failed
pub record ReadStream : Type 0 where
  pub remaining : Option (List ℕ)
  pub is_over : Bool
  pub faults : ℕ

-- A read gave just what the stream gave. The end was told exactly where it was before, or where nothing came though
-- there was room.
pub record PassesOnRead (old : ReadStream) (buffer : List ℕ) (result : Result ℕ IoFault) (new : ReadStream) : Type 0 where
  pub gave : ReadConsumes old.remaining new.remaining result buffer
  pub end : IsTrue new.is_over ↔ ((old.is_over ≡ true) ⊎ ((result ≡ Ok 0) × (0 < length buffer)))

-- what the stream of a sending end holds, where it tells that; and how often the end failed
pub record WrittenStream : Type 0 where
  pub contents : Option (List ℕ)
  pub faults : ℕ

-- the stream took what the write says it took
abbrev pub PassesOnWrite : WrittenStream → List ℕ → Result ℕ IoFault → WrittenStream → Type 0
PassesOnWrite old piece result new = WriteAppends old.contents new.contents result piece
