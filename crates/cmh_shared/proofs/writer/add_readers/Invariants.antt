use Rattle.std.proofs.Common.{◌≡◌, ◌≤◌, All, vec_len, vec_capacity}
use Rattle.left_right.specs.Sides.{view as seat_view}
use Rattle.cmh_shared.specs.Boards.{IsEmptyFront}
use Rattle.cmh_shared.proofs.writer.add_readers.Given as goal

abbrev pub invariant-loop : goal.invariant-loop
invariant-loop l = record {
  shown : l.writer.desk.shown ≡ l.initial.writer.desk.shown;
  log : l.writer.log ≡ l.initial.writer.log;
  behind : l.writer.behind ≡ l.initial.writer.behind;
  seat : seat_view l.writer.desk.place ≡ seat_view l.initial.writer.desk.place;
  length : vec_len l.readers ≡ l.counter;
  room : l.count ≤ vec_capacity l.readers;
  all : All (λ r. IsEmptyFront l.seen.book r) l.readers.items;
}
