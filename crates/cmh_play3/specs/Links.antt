-- The links of a world that is played.
use Rattle.std.specs.Prelude.{ℕ, Bool, ◌&&◌, ◌==◌, List}
use Rattle.std.specs.List.{list_any}
use Rattle.cmh_merge.specs.Queues.{Queues, waiting}
use Rattle.cmh_model3.specs.declared.frame.Message.{Message}
use Rattle.cmh_play3.specs.declared.links.Ends.{Ends}

-- the messages under way, and the links that are cut
abbrev pub Links : Type 0
Links = Queues Message × List Ends

-- the messages under way from a to b, the oldest first
abbrev pub under_way : Links → ℕ → ℕ → List Message
under_way links a b = waiting links.0 a b

abbrev pub is_cut : Links → ℕ → ℕ → Bool
is_cut links a b = list_any (λ (ends : Ends). (a == ends.from) && (b == ends.to)) links.1
