use Rattle.std.proofs.Common.{arith, refl, rules, ◌∙◌}
use Rattle.cmh_station.proofs.Declarations.{count_more, fed_on, few_more, kept_back, kept_up}
use Rattle.cmh_station.proofs.feeding.show.Goals as goal

pub feed-requires-clause-few : goal.feed-requires-clause-few
feed-requires-clause-few g c =
    few_more c.args.core.now.core.entries c.since.result.now c.args.fed.now 64 (g.B.Listing.listed c.args.board.now) (c.since.ensures.all c.requires.in_memory) c.requires.fed c.since.ensures.few_declared

pub feed-requires-clause-countable : goal.feed-requires-clause-countable
feed-requires-clause-countable g c =
    omega (arith, count_more c.args.core.now.core.entries c.since.result.now c.args.fed.now (c.since.ensures.all c.requires.in_memory) c.requires.fed.within, c.since.ensures.limited)

pub returns-in-Err-clause-keeps_up : goal.returns-in-Err-clause-keeps_up
returns-in-Err-clause-keeps_up g c =
    let a = g.B.Listing.listed c.args.board.now in
    let b = g.B.Listing.listed c.feed.new.board in
    let took = c.feed.ensures.took in
    let fed = fed_on c.args.core.now.core.entries c.since.result.now c.args.fed.now c.feed.new.fed a b (c.since.ensures.all c.requires.in_memory) c.requires.fed took in
    kept_back c.args.core.now.core.entries c.feed.new.fed a b b fed took.book took.shown refl refl refl (search rules)

pub returns-in-Err-publish-clause-keeps_up : goal.returns-in-Err-publish-clause-keeps_up
returns-in-Err-publish-clause-keeps_up g c =
    let a = g.B.Listing.listed c.args.board.now in
    let b = g.B.Listing.listed c.feed.new.board in
    let took = c.feed.ensures.took in
    let fed = fed_on c.args.core.now.core.entries c.since.result.now c.args.fed.now c.feed.new.fed a b (c.since.ensures.all c.requires.in_memory) c.requires.fed took in
    let p = c.publish.ensures in
    kept_back c.args.core.now.core.entries c.feed.new.fed a b (g.B.Listing.listed c.publish.new.self) fed took.book took.shown p.book p.list (search rules) (search rules)

pub returns-in-Ok-publish-clause-keeps_up : goal.returns-in-Ok-publish-clause-keeps_up
returns-in-Ok-publish-clause-keeps_up g c =
    let a = g.B.Listing.listed c.args.board.now in
    let b = g.B.Listing.listed c.feed.new.board in
    let took = c.feed.ensures.took in
    let entries = c.args.core.now.core.entries in
    let is = c.since.ensures.all c.requires.in_memory in
    let fed = fed_on entries c.since.result.now c.args.fed.now c.feed.new.fed a b is c.requires.fed took in
    let whole = c.in-Ok.ensures.ok ∙ count_more entries c.since.result.now c.args.fed.now is c.requires.fed.within in
    let p = c.publish.ensures in
    (kept_up entries c.feed.new.fed a b (g.B.Listing.listed c.publish.new.self) fed whole took.book took.shown p.book p.list c.in-Ok-publish.ensures.ok).0

pub returns-in-Ok-publish-clause-ok : goal.returns-in-Ok-publish-clause-ok
returns-in-Ok-publish-clause-ok g c =
    let a = g.B.Listing.listed c.args.board.now in
    let b = g.B.Listing.listed c.feed.new.board in
    let took = c.feed.ensures.took in
    let entries = c.args.core.now.core.entries in
    let is = c.since.ensures.all c.requires.in_memory in
    let fed = fed_on entries c.since.result.now c.args.fed.now c.feed.new.fed a b is c.requires.fed took in
    let whole = c.in-Ok.ensures.ok ∙ count_more entries c.since.result.now c.args.fed.now is c.requires.fed.within in
    let p = c.publish.ensures in
    (kept_up entries c.feed.new.fed a b (g.B.Listing.listed c.publish.new.self) fed whole took.book took.shown p.book p.list c.in-Ok-publish.ensures.ok).1
