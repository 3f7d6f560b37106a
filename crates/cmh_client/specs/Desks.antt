-- Replies that are given to clients.
use Rattle.std.specs.Prelude.{ℕ, List, [], ◌∷◌, ◌++◌, Option, None, Some}

-- a reply for each event, in their order
abbrev pub AreReplies : {E R : Type 0} → (E → R → Type 0) → List E → List R → Type 0
AreReplies Replies [] [] = Unit {0}
AreReplies Replies [] (reply ∷ replies) = ⊥
AreReplies Replies (event ∷ events) [] = ⊥
AreReplies Replies (event ∷ events) (reply ∷ replies) = Replies event reply × AreReplies Replies events replies

-- what was given before, where that is told, and then these
abbrev pub given_and : {T : Type 0} → Option (List T) → List T → Option (List T)
given_and None more = None
given_and (Some before) more = Some (before ++ more)
