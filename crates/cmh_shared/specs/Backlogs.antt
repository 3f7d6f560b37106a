-- What is seen of the fields of a link.
use Rattle.std.specs.Prelude.{ℕ, ◌≡◌, ◌-◌, ◌<◌, ◌≤◌, List, length, slice_index_or}
use Rattle.std.specs.VecDeque.{deque_len, deque_capacity}
use Rattle.rtrb.specs.Ring.{sent, known_free}
use Rattle.cmh_shared.specs.declared.link.Link.{Link as LinkFields}
use Rattle.cmh_shared.specs.Links.{Link}

abbrev pub seen : {F : Type 0} → LinkFields F → Link F
seen l = record {
  to = l.to;
  ring = (l.producer.end.words, l.producer.end.slots, l.producer.end.names);
  released = sent l.producer;
  backlog = l.backlog.items;
  free = known_free l.producer;
}

-- the backlog has room for so many frames more
abbrev pub HasRoom : {F : Type 0} → ℕ → LinkFields F → Type 0
HasRoom count l = count ≤ deque_capacity l.backlog - deque_len l.backlog

-- R at each place of two lists of one length, by its index
abbrev pub AtEach : {X Y : Type 0} → (X → Y → Type 0) → List X → List Y → Type 0
AtEach {X} {Y} R xs ys = (length ys ≡ length xs)
    × ((k : ℕ) (d : X) (e : Y) → k < length xs → R (slice_index_or xs k d) (slice_index_or ys k e))
