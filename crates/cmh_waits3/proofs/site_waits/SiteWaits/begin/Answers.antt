use Rattle.std.proofs.Common.{◌≡◌, ◌∙◌, ◌&&◌, ◌||◌, List, [], get_or, length, refl, sym, ap, subst, arith}
use Rattle.std.proofs.Math.ListN.{set}
use Rattle.std.proofs.lemmas.Bool.{ne_eqb}
use Rattle.std.proofs.lemmas.List.{get_or_default, get_or-set_same, length-set}
use Rattle.cmh_model3.specs.Lists.{is_before}
use Rattle.cmh_model3.proofs.Counts.{and_no}
use Rattle.cmh_waits3.specs.declared.wait.Wait.{Wait}
use Rattle.cmh_waits3.specs.Inner.Away.{AreAway, AreInsertedAway, IsAway}
use Rattle.cmh_waits3.specs.Inner.Inserting.{AreInserted}
use Rattle.cmh_waits3.specs.Inner.Steps.{has_place}
use Rattle.cmh_waits3.specs.Inner.Summaries.{AreNoYounger, AreSummaries}
use Rattle.cmh_waits3.specs.Rows.{others_than}
use Rattle.cmh_waits3.proofs.Away.{apart_away, away_begun, away_set}
use Rattle.cmh_waits3.proofs.Members.{begun, begun_back, held, not_found, set_same}
use Rattle.cmh_waits3.proofs.NoYounger.{begun_no_younger, youngest_set}
use Rattle.cmh_waits3.proofs.Summaries.{begun_stay, summaries_set}
use Rattle.cmh_waits3.proofs.site_waits.SiteWaits.begin.Goals as goal

pub insert_all-requires-clause-new : goal.insert_all-requires-clause-new
insert_all-requires-clause-new c =
    let ms = c.self.inside.members in
    let rows = c.self.inside.rows.items in
    let at = c.in-Some.ensures in
    let inside = at.0 in
    let long = c.self.invariant.1 in
    let row : c.index_mut.result.now ≡ get_or rows c.in-Some.place [] = c.index_mut.ensures.value ∙ get_or_default rows c.in-Some.place c.index_mut.result.now [] (omega (arith, inside, long)) in
    not_found ms rows c.self.invariant.0 long c.in-Some.place c.args.asker inside at.1 c.args.self.now c.self.view_is c.index_mut.result.now row c.args.targets.now c.requires.new

pub insert_away-requires-clause-new : goal.insert_away-requires-clause-new
insert_away-requires-clause-new c =
    let ms = c.self.inside.members in
    let rows = c.self.inside.rows.items in
    let aways = c.self.inside.away.items in
    let place = c.in-Some.place in
    let at = c.in-Some.ensures in
    let inside = at.0 in
    let long = c.self.invariant.1 in
    let are = c.self.invariant.3 in
    let many : length aways ≡ length ms = are.long in
    let away : c.index_mut-2.result.now ≡ get_or aways place [] = c.index_mut-2.ensures.value ∙ get_or_default aways place c.index_mut-2.result.now [] (omega (arith, inside, many)) in
    apart_away ms c.args.targets.now (get_or rows place []) c.index_mut-2.result.now (subst (λ (r : List Wait). IsAway ms (get_or rows place []) r) (sym away) (are.each place inside))
    (not_found ms rows c.self.invariant.0 long place c.args.asker inside at.1 c.args.self.now c.self.view_is (get_or rows place []) refl c.args.targets.now c.requires.new)

pub returns-in-Err-clause-err : goal.returns-in-Err-clause-err
returns-in-Err-clause-err c =
    let ms = c.self.inside.members in
    let rows = c.self.inside.rows.items in
    let place = c.in-Some.place in
    let at = c.in-Some.ensures in
    let inside = at.0 in
    let long = c.self.invariant.1 in
    let new = c.insert_all.new.self in
    let row : c.index_mut.result.now ≡ get_or rows place [] = c.index_mut.ensures.value ∙ get_or_default rows place c.index_mut.result.now [] (omega (arith, inside, long)) in
    let is : c.remove_all.new.self ≡ others_than c.args.targets.now new =
    c.remove_all.ensures ∙ ap (others_than c.args.targets.now) (c.index_mut-in-Err.ensures.value ∙ get_or-set_same rows place new c.index_mut-in-Err.result.now (omega (arith, inside, long))) in
    ap (held ms) (begun_back ms rows c.self.invariant.0 long place c.args.asker inside at.1 c.args.self.now c.self.view_is c.index_mut.result.now row c.args.targets.now c.requires.new c.args.since new c.in_ok-insert_all.ensures.ok c.remove_all.new.self is)
    ∙ c.self.view_is

pub invariant_of-self-in-Err : goal.invariant_of-self-in-Err
invariant_of-self-in-Err c =
    let ms = c.self.inside.members in
    let rows = c.self.inside.rows.items in
    let aways = c.self.inside.away.items in
    let place = c.in-Some.place in
    let at = c.in-Some.ensures in
    let inside = at.0 in
    let long = c.self.invariant.1 in
    let are = c.self.invariant.3 in
    let many : length aways ≡ length ms = are.long in
    let new = c.insert_all.new.self in
    let row : c.index_mut.result.now ≡ get_or rows place [] = c.index_mut.ensures.value ∙ get_or_default rows place c.index_mut.result.now [] (omega (arith, inside, long)) in
    let is : c.remove_all.new.self ≡ others_than c.args.targets.now new =
    c.remove_all.ensures ∙ ap (others_than c.args.targets.now) (c.index_mut-in-Err.ensures.value ∙ get_or-set_same rows place new c.index_mut-in-Err.result.now (omega (arith, inside, long))) in
    let back = begun_back ms rows c.self.invariant.0 long place c.args.asker inside at.1 c.args.self.now c.self.view_is c.index_mut.result.now row c.args.targets.now c.requires.new c.args.since new c.in_ok-insert_all.ensures.ok c.remove_all.new.self is in
    let away : c.insert_away.new.self ≡ get_or aways place [] = c.in-Err.ensures.err ∙ c.index_mut-2.ensures.value ∙ get_or_default aways place c.index_mut-2.result.now [] (omega (arith, inside, many)) in
    let same : set aways place c.insert_away.new.self ≡ aways = ap (set aways place) away ∙ set_same aways place [] (omega (arith, inside, many)) in (
      c.self.invariant.0,
      ap (λ (rs : List (List Wait)). length rs) back ∙ long,
      subst (λ (rs : List (List Wait)). AreSummaries ms rs c.self.inside.summaries.items c.self.inside.leaving.words) (sym back) c.self.invariant.2,
      subst (λ (rs : List (List Wait)). AreAway ms rs (set aways place c.insert_away.new.self)) (sym back) (subst (λ (ws : List (List Wait)). AreAway ms rows ws) (sym same) are),
      subst (λ (rs : List (List Wait)). AreNoYounger ms rs c.self.inside.youngest.stamp c.self.inside.youngest.asker) (sym back) c.self.invariant.4,
    )

pub returns-clause-waits : goal.returns-clause-waits
returns-clause-waits c =
    let ms = c.self.inside.members in
    let rows = c.self.inside.rows.items in
    let at = c.in-Some.ensures in
    let inside = at.0 in
    let long = c.self.invariant.1 in
    let row : c.index_mut.result.now ≡ get_or rows c.in-Some.place [] = c.index_mut.ensures.value ∙ get_or_default rows c.in-Some.place c.index_mut.result.now [] (omega (arith, inside, long)) in
    (begun ms rows c.self.invariant.0 long c.in-Some.place c.args.asker inside at.1 c.args.self.now c.self.view_is c.index_mut.result.now row c.args.targets.now c.requires.new c.args.since c.insert_all.new.self c.in_ok-insert_all.ensures.ok c.requires.ascending).waits

pub returns-clause-since : goal.returns-clause-since
returns-clause-since c =
    let ms = c.self.inside.members in
    let rows = c.self.inside.rows.items in
    let at = c.in-Some.ensures in
    let inside = at.0 in
    let long = c.self.invariant.1 in
    let row : c.index_mut.result.now ≡ get_or rows c.in-Some.place [] = c.index_mut.ensures.value ∙ get_or_default rows c.in-Some.place c.index_mut.result.now [] (omega (arith, inside, long)) in
    (begun ms rows c.self.invariant.0 long c.in-Some.place c.args.asker inside at.1 c.args.self.now c.self.view_is c.index_mut.result.now row c.args.targets.now c.requires.new c.args.since c.insert_all.new.self c.in_ok-insert_all.ensures.ok c.requires.ascending).since

pub returns-clause-undone : goal.returns-clause-undone
returns-clause-undone c =
    let ms = c.self.inside.members in
    let rows = c.self.inside.rows.items in
    let at = c.in-Some.ensures in
    let inside = at.0 in
    let long = c.self.invariant.1 in
    let row : c.index_mut.result.now ≡ get_or rows c.in-Some.place [] = c.index_mut.ensures.value ∙ get_or_default rows c.in-Some.place c.index_mut.result.now [] (omega (arith, inside, long)) in
    (begun ms rows c.self.invariant.0 long c.in-Some.place c.args.asker inside at.1 c.args.self.now c.self.view_is c.index_mut.result.now row c.args.targets.now c.requires.new c.args.since c.insert_all.new.self c.in_ok-insert_all.ensures.ok c.requires.ascending).undone

pub invariant_of-self-2 : goal.invariant_of-self-2
invariant_of-self-2 c =
    let ms = c.self.inside.members in
    let rows = c.self.inside.rows.items in
    let aways = c.self.inside.away.items in
    let ks = c.args.targets.now in
    let place = c.in-Some.place in
    let inside = c.in-Some.ensures.0 in
    let long = c.self.invariant.1 in
    let are = c.self.invariant.2 in
    let apart = c.self.invariant.3 in
    let many : length aways ≡ length ms = apart.long in
    let row : c.index_mut.result.now ≡ get_or rows place [] = c.index_mut.ensures.value ∙ get_or_default rows place c.index_mut.result.now [] (omega (arith, inside, long)) in
    let away : c.index_mut-2.result.now ≡ get_or aways place [] = c.index_mut-2.ensures.value ∙ get_or_default aways place c.index_mut-2.result.now [] (omega (arith, inside, many)) in
    let new = c.insert_all.new.self in
    let more = c.insert_away.new.self in
    let inserted = subst (λ (old : List Wait). AreInserted ks c.args.since old new) row c.in_ok-insert_all.ensures.ok in
    let some = subst (λ (old : List Wait). AreInsertedAway ms ks c.args.since old more) away c.in_default-insert_away.ensures.ok in
    let before = are.each place c.index_mut-3.result.now inside (sym c.index_mut-3.ensures.value) in
    let leaving = c.self.inside.leaving.words in (
      c.self.invariant.0,
      length-set rows place new ∙ long,
      summaries_set ms rows c.self.inside.summaries.items leaving c.with_if-self-inside.result.words are long place inside new c.begin-leaves.new.self
          (c.begin-leaves.ensures.summary (get_or rows place []) new before inserted)
          (λ j ne. c.with_if-self-inside.ensures j ∙ ap (λ b. (c.begin-leaves.result && b) || has_place leaving j) (ne_eqb j place ne) ∙ ap (λ b. b || has_place leaving j) (and_no c.begin-leaves.result))
          (begun_stay ms ks c.args.since (get_or rows place []) new leaving c.with_if-self-inside.result.words place c.begin-leaves.result inserted
          c.with_if-self-inside.ensures c.begin-leaves.ensures.stay (λ none k h. are.stay place k inside none h)),
      away_set ms rows aways apart long place inside new more (away_begun ms ks c.args.since (get_or rows place []) new (get_or aways place []) more (apart.each place inside) inserted some),
      youngest_set ms rows c.self.inside.youngest.stamp c.self.inside.youngest.asker c.with-self-inside.result.stamp c.with-self-inside.result.asker c.self.invariant.4 long
          c.with-self-inside.ensures.before place inside new
          (begun_no_younger ks c.args.since c.with-self-inside.result.stamp c.with-self-inside.result.asker c.self.inside.youngest.stamp c.self.inside.youngest.asker (get_or ms place 0) (get_or rows place []) new inserted
          c.with-self-inside.ensures.before (ap (is_before c.with-self-inside.result.stamp c.with-self-inside.result.asker c.args.since) c.in-Some.ensures.1 ∙ c.with-self-inside.ensures.new) (λ k h. c.self.invariant.4.each place k inside h)),
    )
