use Rattle.std.proofs.Common.{◌≡◌, ◌∙◌, List, [], get_or, sym, ap, subst, arith}
use Rattle.std.proofs.lemmas.List.{get_or_default}
use Rattle.cmh_model3.specs.Lists.{IsAscending}
use Rattle.cmh_waits3.specs.declared.wait.Wait.{Wait}
use Rattle.cmh_waits3.specs.Held.{Held, row_in}
use Rattle.cmh_waits3.specs.Rows.{since_in, targets_of}
use Rattle.cmh_waits3.proofs.Members.{old_is, row_none}
use Rattle.cmh_waits3.proofs.site_waits.SiteWaits.waits_of.Goals as goal

pub returns-in-Some : goal.returns-in-Some
returns-in-Some c =
    let ms = c.self.inside.members in
    let rows = c.self.inside.rows.items in
    let place = c.in-Some.place in
    let at = c.in-Some.ensures in
    let inside = at.0 in
    let long = c.self.invariant.1 in
    let found : c.as_slice.result.now ≡ get_or rows place [] = c.as_slice.ensures.value ∙ c.index.ensures ∙ get_or_default rows place c.index.result.now [] (omega (arith, inside, long)) in
    let row : c.as_slice.result.now ≡ row_in c.args.self.now.members c.args.self.now.rows c.args.process =
    subst (λ (v : Held). c.as_slice.result.now ≡ row_in v.members v.rows c.args.process) c.self.view_is (found ∙ sym (old_is ms rows c.self.invariant.0 long place c.args.process inside at.1)) in
    record {
      row = row;
      targets = ap targets_of row;
      since = λ k. ap (λ (r : List Wait). since_in r k) row;
      ascending = subst (λ (r : List Wait). IsAscending (targets_of r)) row c.as_slice.ensures.ascending;
    }

pub returns-in-None : goal.returns-in-None
returns-in-None c =
    let row : ◌≡◌ {A = List Wait} [] (row_in c.args.self.now.members c.args.self.now.rows c.args.process) =
    subst (λ (v : Held). ◌≡◌ {A = List Wait} [] (row_in v.members v.rows c.args.process)) c.self.view_is (sym (row_none c.self.inside.members c.self.inside.rows.items c.args.process c.in-None.ensures)) in
    record {
      row = row;
      targets = ap targets_of row;
      since = λ k. ap (λ (r : List Wait). since_in r k) row;
      ascending = subst (λ (r : List Wait). IsAscending (targets_of r)) row tt;
    }
