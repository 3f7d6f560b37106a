use Rattle.std.proofs.Common.{◌≡◌, ◌∙◌, ◌&&◌, ◌==◌, not, List, [], length, get_or, sym, ap, subst, arith}
use Rattle.std.proofs.Math.ListN.{set}
use Rattle.std.specs.List.Sorted.{IsStrictlyIncreasing}
use Rattle.std.proofs.lemmas.Bool.{ne_eqb}
use Rattle.std.proofs.lemmas.List.{get_or_default, get_or-set_same, length-set}
use Rattle.cmh_model3.proofs.Counts.{and_no}
use Rattle.cmh_waits3.specs.declared.wait.Wait.{Wait}
use Rattle.cmh_waits3.specs.Held.{Held, ended, since_of, waits_of}
use Rattle.cmh_waits3.specs.Inner.Away.{IsAway}
use Rattle.cmh_waits3.specs.Inner.Steps.{has_place}
use Rattle.cmh_waits3.specs.Inner.Summaries.{IsSummary}
use Rattle.cmh_waits3.specs.Rows.{others_than}
use Rattle.cmh_waits3.proofs.Away.{away_ended, away_set}
use Rattle.cmh_waits3.proofs.Members.{ended_is, ended_since, ended_waits, held, rows_none}
use Rattle.cmh_waits3.proofs.NoYounger.{ended_no_younger, not_before_itself, youngest_set}
use Rattle.cmh_waits3.proofs.Summaries.{ended_stay, summaries_set}
use Rattle.cmh_waits3.proofs.site_waits.SiteWaits.end_all.Goals as goal

pub returns-in-Some : goal.returns-in-Some
returns-in-Some c =
    let v = c.args.self.now in
    let ms = c.self.inside.members in
    let rows = c.self.inside.rows.items in
    let place = c.in-Some.place in
    let at = c.in-Some.ensures in
    let inside = at.0 in
    let here = c.self.invariant.1 in
    let up = subst (λ (w : Held). IsStrictlyIncreasing w.members) c.self.view_is c.self.invariant.0 in
    let long = subst (λ (w : Held). length w.rows ≡ length w.members) c.self.view_is c.self.invariant.1 in
    let row : c.index_mut.result.now ≡ get_or rows place [] = c.index_mut.ensures.value ∙ get_or_default rows place c.index_mut.result.now [] (omega (arith, inside, here)) in
    let value : held ms (set rows place c.remove_all.new.self) ≡ ended v c.args.asker c.args.targets.now =
    ap (λ (r : List Wait). held ms (set rows place r)) (c.remove_all.ensures ∙ ap (others_than c.args.targets.now) row)
    ∙ ended_is ms rows c.self.invariant.0 here place c.args.asker inside at.1 c.args.targets.now
    ∙ ap (λ (w : Held). ended w c.args.asker c.args.targets.now) c.self.view_is in
    record { value = value; waits = ap waits_of value ∙ ended_waits v up long c.args.asker c.args.targets.now; since = ap since_of value ∙ ended_since v up long c.args.asker c.args.targets.now }

pub returns-in_default : goal.returns-in_default
returns-in_default c =
    let v = c.args.self.now in
    let ms = c.self.inside.members in
    let rows = c.self.inside.rows.items in
    let up = subst (λ (w : Held). IsStrictlyIncreasing w.members) c.self.view_is c.self.invariant.0 in
    let long = subst (λ (w : Held). length w.rows ≡ length w.members) c.self.view_is c.self.invariant.1 in
    let value : v ≡ ended v c.args.asker c.args.targets.now = subst (λ (w : Held). w ≡ ended w c.args.asker c.args.targets.now) c.self.view_is (sym (ap (held ms) (rows_none ms rows c.args.asker c.args.targets.now c.in_default.ensures))) in
    record { value = value; waits = ap waits_of value ∙ ended_waits v up long c.args.asker c.args.targets.now; since = ap since_of value ∙ ended_since v up long c.args.asker c.args.targets.now }

pub invariant_of-self : goal.invariant_of-self
invariant_of-self c =
    let ms = c.self.inside.members in
    let rows = c.self.inside.rows.items in
    let place = c.in-Some.place in
    let inside = c.in-Some.ensures.0 in
    let long = c.self.invariant.1 in
    let are = c.self.invariant.2 in
    let ks = c.args.targets.now in
    let row : c.index_mut.result.now ≡ get_or rows place [] = c.index_mut.ensures.value ∙ get_or_default rows place c.index_mut.result.now [] (omega (arith, inside, long)) in
    let aways = c.self.inside.away.items in
    let apart = c.self.invariant.3 in
    let many : length aways ≡ length ms = apart.long in
    let rest = c.remove_all-in-Some.new.self in
    let away : c.index_mut-in-Some.result.now ≡ get_or aways place [] = c.index_mut-in-Some.ensures.value ∙ get_or_default aways place c.index_mut-in-Some.result.now [] (omega (arith, inside, many)) in
    let gone : rest ≡ others_than ks (get_or aways place []) = c.remove_all-in-Some.ensures ∙ ap (others_than ks) away in
    let left = c.remove_all.new.self in
    let is : left ≡ others_than ks (get_or rows place []) = c.remove_all.ensures ∙ ap (others_than ks) row in
    let now : c.as_slice-left.result.now ≡ left = c.as_slice-left.ensures.value ∙ c.index.ensures ∙ get_or-set_same rows place left c.index.result.now (omega (arith, inside, long)) in
    let before = are.each place c.index_mut-in-Some-2.result.now inside (sym c.index_mut-in-Some-2.ensures.value) in
    let after = subst (λ (r : List Wait). IsSummary ms r c.end_all.new.self) now (c.end_all.ensures (get_or rows place []) before (now ∙ is)) in (
      c.self.invariant.0,
      length-set rows place left ∙ long,
      summaries_set ms rows c.self.inside.summaries.items c.self.inside.leaving.words c.without_if-self-inside.result.words are long place inside left c.end_all.new.self after
          (λ j ne. c.without_if-self-inside.ensures j ∙ ap (λ b. not (c.is_empty.result && b) && has_place c.self.inside.leaving.words j) (ne_eqb j place ne) ∙ ap (λ b. not b && has_place c.self.inside.leaving.words j) (and_no c.is_empty.result))
          (ended_stay ms ks (get_or rows place []) left c.self.inside.leaving.words c.without_if-self-inside.result.words place c.is_empty.result is
          (c.is_empty.ensures ∙ ap (λ (r : List Wait). length r == 0) now) c.without_if-self-inside.ensures (λ none k h. are.stay place k inside none h)),
      away_set ms rows aways apart long place inside left rest (subst (λ (r : List Wait). IsAway ms r rest) (sym is) (subst (λ (r : List Wait). IsAway ms (others_than ks (get_or rows place [])) r) (sym gone) (away_ended ms ks (get_or rows place []) (get_or aways place []) (apart.each place inside)))),
      youngest_set ms rows c.self.inside.youngest.stamp c.self.inside.youngest.asker c.self.inside.youngest.stamp c.self.inside.youngest.asker c.self.invariant.4 long
          (not_before_itself c.self.inside.youngest.stamp c.self.inside.youngest.asker) place inside left
          (ended_no_younger ks c.self.inside.youngest.stamp c.self.inside.youngest.asker (get_or ms place 0) (get_or rows place []) left is (λ k h. c.self.invariant.4.each place k inside h)),
    )
