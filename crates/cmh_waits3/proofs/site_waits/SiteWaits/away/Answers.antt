use Rattle.std.proofs.Common.{◌≡◌, ◌∙◌, ◌<◌, [], List, length, get_or, refl, sym, ap, subst, arith}
use Rattle.std.proofs.lemmas.List.{get_or_default}
use Rattle.cmh_waits3.specs.declared.wait.Wait.{Wait}
use Rattle.cmh_waits3.specs.Held.{Held, row_in}
use Rattle.cmh_waits3.specs.Inner.Away.{IsAway}
use Rattle.cmh_waits3.proofs.Members.{old_is}
use Rattle.cmh_waits3.proofs.site_waits.SiteWaits.away.Goals as goal

pub returns-clause-away : goal.returns-clause-away
returns-clause-away c =
    let ms = c.self.inside.members in
    let rows = c.self.inside.rows.items in
    let aways = c.self.inside.away.items in
    let place = c.args.place in
    let same = ap (λ (v : Held). length v.members) c.self.view_is in
    let below = c.requires in
    let are = c.self.invariant.3 in
    let long : length aways ≡ length ms = are.long in
    let inside : place < length ms = omega (arith, same, below) in
    let away : c.as_slice.result.now ≡ get_or aways place [] = c.as_slice.ensures.value ∙ c.index.ensures ∙ get_or_default aways place c.index.result.now [] (omega (arith, inside, long)) in
    subst (λ (v : Held). IsAway v.members (row_in v.members v.rows (get_or v.members place 0)) c.as_slice.result.now) c.self.view_is
    (subst (λ (r : List Wait). IsAway ms r c.as_slice.result.now) (sym (old_is ms rows c.self.invariant.0 c.self.invariant.1 place (get_or ms place 0) inside refl))
    (subst (λ (r : List Wait). IsAway ms (get_or rows place []) r) (sym away) (are.each place inside)))
