-- Which segments of a world may be archived.
use Rattle.std.specs.Prelude.{ℕ, Bool, true, ◌&&◌, List, [], ◌∷◌}
use Rattle.std.specs.Bool.{nat_lt}
use Rattle.std.specs.List.{list_all}
use Rattle.cmh_archive3.specs.declared.summary.Listed.{Listed}

-- A segment of this epoch is closed: each site has begun a later epoch. These are the newest epochs of the sites.
abbrev pub is_closed : List ℕ → ℕ → Bool
is_closed newest epoch = list_all (λ last. nat_lt epoch last) newest

-- The segment right before in the folder was audited, or none is there any more. The last one is given first.
abbrev pub is_audited_before : List Listed → Bool
is_audited_before [] = true
is_audited_before (last ∷ earlier) = last.is_audited

-- A segment may be archived: it is closed, it was audited, and so was the one before it. Its base is in the audits of both.
abbrev pub may_be_archived : List ℕ → Listed → List Listed → Bool
may_be_archived newest segment earlier =
    is_closed newest segment.summary.header.epoch && (segment.is_audited && is_audited_before earlier)
