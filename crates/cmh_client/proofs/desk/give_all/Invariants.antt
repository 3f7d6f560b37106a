use Rattle.std.proofs.Common.{◌≡◌, ◌+◌, drop, length, reverse, take, vec_len}
use Rattle.std.specs.List.{zip}
use Rattle.cmh_client.specs.Desks.{given_and}
use Rattle.cmh_client.proofs.desk.give_all.Given as goal

abbrev pub invariant-loop-at : goal.invariant-loop-at
invariant-loop-at g l = record {
  events : l.events.items ≡ reverse (drop l.at l.fn.events.items);
  places : l.places.items ≡ reverse (drop l.at l.fn.places.items);
  left : vec_len l.events + l.at ≡ length l.replies;
  places_left : vec_len l.places + l.at ≡ length l.replies;
  given : g.W.Waiting.given l.waiting ≡ given_and (g.W.Waiting.given l.fn.waiting) (zip (take l.at l.fn.places.items) (take l.at l.replies));
}
