-- What stands first in what a client sent.
use Rattle.std.specs.Prelude.{◌≡◌, ◌⊎◌, ℕ, true, false, List, length}
use Rattle.std.specs.Io.BufRead.{take_through}
use Rattle.cmh_client.specs.Clients.{State}
use Rattle.cmh_client.specs.Lines.{HasFeed, IsEndless, NoFeedIn}
use Rattle.cmh_client.specs.declared.next.Next.{Next}
use Rattle.cmh_client.specs.declared.next.Next.TheVariants.{Line, Nothing, Endless}

-- a line with its line feed; a part of one; or bytes that become none
abbrev pub StandsFirst : List ℕ → Next → Type 0
StandsFirst bytes (Line line) = HasFeed bytes × (line.now ≡ take_through 10 bytes)
StandsFirst bytes Nothing = NoFeedIn (length bytes) bytes
StandsFirst bytes Endless = IsEndless bytes

-- what stands first, unless the client has said its last, or memory was refused
abbrev pub IsNext : State → Next → Type 0
IsNext client Nothing = (client.is_leaving ≡ true) ⊎ ((client.is_closed ≡ true) ⊎ NoFeedIn (length client.unread) client.unread)
IsNext client next = (client.is_leaving ≡ false) × (client.is_closed ≡ false) × StandsFirst client.unread next
