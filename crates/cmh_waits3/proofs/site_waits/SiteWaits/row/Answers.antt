use Rattle.std.proofs.Common.{◌≡◌, ◌∙◌, ◌<◌, [], length, get_or, refl, sym, ap, subst, arith}
use Rattle.std.proofs.lemmas.List.{get_or_default}
use Rattle.cmh_waits3.specs.Held.{Held, row_in}
use Rattle.cmh_waits3.proofs.Members.{old_is}
use Rattle.cmh_waits3.proofs.site_waits.SiteWaits.row.Goals as goal

pub returns-clause-row : goal.returns-clause-row
returns-clause-row c =
    let ms = c.self.inside.members in
    let rows = c.self.inside.rows.items in
    let place = c.args.place in
    let same = ap (λ (v : Held). length v.members) c.self.view_is in
    let below = c.requires in
    let long = c.self.invariant.1 in
    let inside : place < length ms = omega (arith, same, below) in
    let row : c.as_slice.result.now ≡ get_or rows place [] = c.as_slice.ensures.value ∙ c.index.ensures ∙ get_or_default rows place c.index.result.now [] (omega (arith, inside, long)) in
    subst (λ (v : Held). c.as_slice.result.now ≡ row_in v.members v.rows (get_or v.members place 0)) c.self.view_is
    (row ∙ sym (old_is ms rows c.self.invariant.0 long place (get_or ms place 0) inside refl))
