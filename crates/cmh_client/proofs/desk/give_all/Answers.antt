use Rattle.std.proofs.Common.{rules, ℕ, List, [], ◌∷◌, ◌<◌, length, slice_index_or, take, ap, sym, subst, ◌∙◌, arith}
use Rattle.std.specs.List.{zip}
use Rattle.cmh_client.specs.Desks.{given_and}
use Rattle.cmh_client.proofs.Desks.{given_both, given_nothing, left_is, reply_at, reply_count, taken_is, zipped_more}
use Rattle.cmh_client.proofs.desk.give_all.Goals as goal

pub loop-at-init : goal.loop-at-init
loop-at-init g c =
    let count = reply_count g.W.Waiting.Replies c.args.events.now.items c.args.replies.now c.requires.replies in
    let both = c.requires.both in
    let events = c.reverse.ensures.len in
    let places = c.reverse-2.ensures.len in record {
      events = (search rules);
      places = (search rules);
      left = omega (arith, count, events);
      places_left = omega (arith, count, both, places);
      given = given_nothing (g.W.Waiting.given c.args.waiting.now);
    }

pub give-requires : goal.give-requires
give-requires g c =
    let events = c.args.events.now.items in
    let replies = c.args.replies.now in
    let at = c.loop-at.at in
    let test = c.loop-at-test.true in
    let count = reply_count g.W.Waiting.Replies events replies c.requires.replies in
    let few : at < length events = omega (arith, test, count) in
    subst (λ e. g.W.Waiting.Replies e c.index-replies-at.result)
    (sym (taken_is events c.loop-at.events.items c.pop.new.self.items at c.in-Some.event c.pop.result few c.loop-at.invariant.events c.pop.ensures.items c.in-Some.is))
    (subst (λ r. g.W.Waiting.Replies (slice_index_or events at c.in-Some.event) r) (sym c.index-replies-at.is)
    (reply_at g.W.Waiting.Replies events replies at c.in-Some.event c.index-replies-at.result c.requires.replies few))

pub loop-at-preserved : goal.loop-at-preserved
loop-at-preserved g c =
    let events = c.args.events.now.items in
    let places = c.args.places.now.items in
    let replies = c.args.replies.now in
    let at = c.loop-at.at in
    let before = g.W.Waiting.given c.args.waiting.now in
    let one : List (ℕ × g.row.R.Denot) = (c.in-Some-pop.place, c.index-replies-at.result) ∷ [] in
    let test = c.loop-at-test.true in
    let both = c.requires.both in
    let count = reply_count g.W.Waiting.Replies events replies c.requires.replies in
    let few : at < length events = omega (arith, test, count) in
    let few_places : at < length places = omega (arith, test, count, both) in
    let place_is = taken_is places c.loop-at.places.items c.pop-in-loop-at.new.self.items at c.in-Some-pop.place c.pop-in-loop-at.result few_places
    c.loop-at.invariant.places c.pop-in-loop-at.ensures.items c.in-Some-pop.is in record {
      events = left_is events c.loop-at.events.items c.pop.new.self.items at c.in-Some.event c.pop.result few c.loop-at.invariant.events
          c.pop.ensures.items c.in-Some.is;
      places = left_is places c.loop-at.places.items c.pop-in-loop-at.new.self.items at c.in-Some-pop.place c.pop-in-loop-at.result few_places
          c.loop-at.invariant.places c.pop-in-loop-at.ensures.items c.in-Some-pop.is;
      left = (search rules);
      places_left = (search rules);
      given = c.give.ensures ∙ (ap (λ o. given_and o one) c.loop-at.invariant.given
          ∙ (given_both before (zip (take at places) (take at replies)) one
          ∙ ap (given_and before) (sym (zipped_more places replies at c.in-Some-pop.place c.index-replies-at.result few_places test
          place_is c.index-replies-at.is))));
    }
