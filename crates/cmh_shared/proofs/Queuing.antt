-- Frames of entries in a backlog: queued one entry after the other, they are queued together.
use Rattle.std.proofs.Common.{◌≡◌, ℕ, ◌+◌, ◌<◌, List, [], ◌++◌, length, get_or, drop, flat_map, ap, sym, ◌∙◌, append_assoc, append-nil}
use Rattle.std.proofs.lemmas.List.{drop_more}
use Rattle.cmh_runs.specs.declared.entry.Entry.{Entry}
use Rattle.cmh_runs.specs.Journals.{frames_to}
use Rattle.cmh_runs.proofs.Sent.{to-append}
use Rattle.cmh_shared.specs.Links.{Link, queued}

-- all frames that entries sent, in their order
abbrev pub sent_of : {E F : Type 0} → List (Entry E F) → List (ℕ × F)
sent_of {E} {F} entries = flat_map (λ (entry : Entry E F). entry.sent) entries

-- those of the entries from a place on
pub sent_from : {E F : Type 0} (entries : List (Entry E F)) (i : ℕ) (e : Entry E F) → i < length entries → e ≡ get_or entries i e → sent_of (drop i entries) ≡ e.sent ++ sent_of (drop (i + 1) entries)
sent_from {E} {F} entries i e within is =
    ap sent_of (drop_more entries i e within) ∙ ap (λ (x : Entry E F). x.sent ++ sent_of (drop (i + 1) entries)) (sym is)

pub queued_nothing : {F : Type 0} (l : Link F) → queued [] l ≡ l
queued_nothing {F} l = ap (λ (frames : List F). let k : Link F = record l { backlog = frames } in k) (append-nil l.backlog)

pub queued_both : {F : Type 0} (xs ys : List (ℕ × F)) (l : Link F) → queued (xs ++ ys) l ≡ queued ys (queued xs l)
queued_both {F} xs ys l = ap (λ (frames : List F). let k : Link F = record l { backlog = frames } in k)
    (ap (λ (frames : List F). l.backlog ++ frames) (to-append l.to xs ys) ∙ sym (append_assoc l.backlog (frames_to l.to xs) (frames_to l.to ys)))
