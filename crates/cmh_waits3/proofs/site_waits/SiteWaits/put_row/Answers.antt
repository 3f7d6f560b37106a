use Rattle.std.proofs.Common.{◌≡◌, ◌∙◌, ◌&&◌, ◌||◌, ◌==◌, not, ℕ, List, length, get_or, sym, ap, subst}
use Rattle.std.proofs.lemmas.Bool.{ne_eqb}
use Rattle.std.proofs.lemmas.List.{length-set}
use Rattle.cmh_model3.specs.Lists.{is_before, set_at}
use Rattle.cmh_model3.proofs.Counts.{and_no}
use Rattle.cmh_waits3.specs.declared.wait.Wait.{Wait}
use Rattle.cmh_waits3.specs.Held.{Held, since_of, waits_of}
use Rattle.cmh_waits3.specs.Inner.Away.{IsAway}
use Rattle.cmh_waits3.specs.Inner.Steps.{has_place}
use Rattle.cmh_waits3.specs.Inner.Summaries.{IsSummary}
use Rattle.cmh_waits3.specs.Rows.{others_than, since_in, targets_of}
use Rattle.cmh_waits3.proofs.Away.{away_set}
use Rattle.cmh_waits3.proofs.Copies.{away_others, put_no_younger, put_stay}
use Rattle.cmh_waits3.proofs.Members.{since_put, waits_set}
use Rattle.cmh_waits3.proofs.NoYounger.{youngest_set}
use Rattle.cmh_waits3.proofs.Summaries.{summaries_set}
use Rattle.cmh_waits3.proofs.site_waits.SiteWaits.put_row.Goals as goal

pub invariant_of-self : goal.invariant_of-self
invariant_of-self c =
    let ms = c.self.inside.members in
    let rows = c.self.inside.rows.items in
    let aways = c.self.inside.away.items in
    let row = c.row.inside.waits in
    let away = c.remove_all.new.self in
    let summary = c.of_waits-summary.result in
    let place = c.in-Some.place in
    let inside = c.in-Some.ensures.0 in
    let long = c.self.invariant.1 in
    let leaving = c.self.inside.leaving.words in
    let after = c.with_if-self-inside.result.words in
    let youngest = c.self.inside.youngest in
    let younger = c.with-self-inside.result in
    let away_is : away ≡ others_than ms row =
    c.remove_all.ensures ∙ ap (λ (ks : List ℕ). others_than ks c.row.inside.spare) c.as_slice-members.ensures.value ∙ ap (others_than ms) c.row.invariant in
    let is = subst (λ (r : List Wait). IsAway ms row r) (sym away_is) (away_others ms row) in
    let sum = subst (λ (r : List Wait). IsSummary ms r summary) c.as_slice.ensures.value c.of_waits-summary.ensures in
    let told : not c.is_empty.result ≡ not (length away == 0) = ap not (c.is_empty.ensures ∙ ap (λ (r : List Wait). length r == 0) c.as_slice-2.ensures.value) in (
      c.self.invariant.0,
      length-set rows place row ∙ long,
      summaries_set ms rows c.self.inside.summaries.items leaving after c.self.invariant.2 long place inside row summary sum
          (λ j ne. c.with_if-self-inside.ensures j ∙ ap (λ b. (not c.is_empty.result && b) || has_place leaving j) (ne_eqb j place ne) ∙ ap (λ b. b || has_place leaving j) (and_no (not c.is_empty.result)))
          (put_stay ms row away place leaving after (not c.is_empty.result) is told c.with_if-self-inside.ensures),
      away_set ms rows aways c.self.invariant.3 long place inside row away is,
      youngest_set ms rows youngest.stamp youngest.asker younger.stamp younger.asker c.self.invariant.4 long c.with-self-inside.ensures.before place inside row
          (put_no_younger ms row summary younger.stamp younger.asker (get_or ms place 0) sum
          (ap (is_before younger.stamp younger.asker summary.latest) c.in-Some.ensures.1 ∙ c.with-self-inside.ensures.new)),
    )

pub returns-clause-waits : goal.returns-clause-waits
returns-clause-waits c =
    waits_set c.self.inside.members c.self.inside.rows.items c.self.invariant.0 c.self.invariant.1 c.in-Some.place c.args.asker c.in-Some.ensures.0 c.in-Some.ensures.1 c.row.inside.waits
    ∙ ap (λ (v : Held). set_at (waits_of v) c.args.asker (targets_of c.row.inside.waits)) c.self.view_is
    ∙ ap (λ (r : List Wait). set_at (waits_of c.args.self.now) c.args.asker (targets_of r)) c.row.view_is

pub returns-clause-since : goal.returns-clause-since
returns-clause-since c =
    since_put c.self.inside.members c.self.inside.rows.items c.self.invariant.0 c.self.invariant.1 c.in-Some.place c.args.asker c.in-Some.ensures.0 c.in-Some.ensures.1 c.row.inside.waits
    ∙ ap (λ (v : Held). set_at (since_of v) c.args.asker (since_in c.row.inside.waits)) c.self.view_is
    ∙ ap (λ (r : List Wait). set_at (since_of c.args.self.now) c.args.asker (since_in r)) c.row.view_is
