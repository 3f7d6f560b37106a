use Rattle.std.proofs.Common.{◌≡◌, ◌∙◌, [], List, get_or, sym, subst, arith}
use Rattle.std.proofs.lemmas.List.{get_or_default}
use Rattle.std.proofs.lemmas.Result.{IfOk-weaker}
use Rattle.cmh_waits3.specs.declared.wait.Wait.{Wait}
use Rattle.cmh_waits3.specs.Held.{Held, row_in}
use Rattle.cmh_waits3.proofs.Members.{old_is}
use Rattle.cmh_waits3.proofs.site_waits.SiteWaits.row_copy.Goals as goal

pub returns : goal.returns
returns c =
    let rows = c.self.inside.rows.items in
    let place = c.in-Some.place in
    let at = c.in-Some.ensures in
    let inside = at.0 in
    let long = c.self.invariant.1 in
    let found : c.index.result.now ≡ get_or rows place [] = c.index.ensures ∙ get_or_default rows place c.index.result.now [] (omega (arith, inside, long)) in
    let row : c.index.result.now ≡ row_in c.args.self.now.members c.args.self.now.rows c.args.asker =
    subst (λ (v : Held). c.index.result.now ≡ row_in v.members v.rows c.args.asker) c.self.view_is
    (found ∙ sym (old_is c.self.inside.members rows c.self.invariant.0 long place c.args.asker inside at.1)) in
    IfOk-weaker c.of.result (λ (r : List Wait). r ≡ c.index.result.now) (λ (r : List Wait). r ≡ row_in c.args.self.now.members c.args.self.now.rows c.args.asker) (λ r is. is ∙ row) c.of.ensures
