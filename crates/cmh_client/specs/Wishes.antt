-- What a client wants next.
use Rattle.std.specs.Prelude.{◌≡◌, ℕ, ◌<◌, ◌⊎◌, true, List, length}
use Rattle.std.specs.Io.BufRead.{take_through}
use Rattle.cmh_client.specs.Clients.{State, leaves, skips}
use Rattle.cmh_client.specs.Lines.{HasFeed, IsEndless, NoFeedIn}
use Rattle.cmh_client.specs.declared.language.Meaning.{Meaning}
use Rattle.cmh_client.specs.declared.language.Meaning.TheVariants as meanings
use Rattle.cmh_client.specs.declared.wish.Wish.{Wish}
use Rattle.cmh_client.specs.declared.wish.Wish.TheVariants as wishes

-- its next line means this
abbrev pub NextMeans : {E Q : Type 0} → (List ℕ → Meaning E Q → Type 0) → State → Meaning E Q → Type 0
NextMeans Means client meaning = HasFeed client.unread × Means (take_through 10 client.unread) meaning

-- it said its last, or memory was refused, or its next line has not come, or is a question while others wait for their answers
abbrev pub WantsNothing : {E Q : Type 0} → (List ℕ → Meaning E Q → Type 0) → State → Type 0
WantsNothing {E} {Q} Means client =
    (client.is_leaving ≡ true) ⊎ ((client.is_closed ≡ true) ⊎ (NoFeedIn (length client.unread) client.unread
    ⊎ ((0 < client.waiting) × (question : Q) × NextMeans Means client (meanings.Question question))))

-- what it wants, of the client before and after
abbrev pub Wishes : {E Q : Type 0} → (List ℕ → Meaning E Q → Type 0) → State → Wish E Q → State → Type 0
Wishes Means old (wishes.Event event) new = NextMeans Means old (meanings.Event event) × (new ≡ old)
Wishes Means old (wishes.Question question) new =
    NextMeans Means old (meanings.Question question) × (old.waiting ≡ 0) × (new ≡ old)
Wishes Means old wishes.Silence new = NextMeans Means old meanings.Silence × (new ≡ skips old)
Wishes Means old wishes.Nothing new =
    (WantsNothing Means old × (new ≡ old)) ⊎ ((NextMeans Means old meanings.Last ⊎ IsEndless old.unread) × (new ≡ leaves old))
