use Rattle.std.proofs.Common.{◌≡◌, ◌∙◌, List, [], get_or, sym, ap, arith}
use Rattle.std.proofs.lemmas.List.{get_or_default}
use Rattle.cmh_model3.specs.Lists.{in_list}
use Rattle.cmh_waits3.specs.declared.wait.Wait.{Wait}
use Rattle.cmh_waits3.specs.Held.{Held, waits_of}
use Rattle.cmh_waits3.specs.Rows.{targets_of}
use Rattle.cmh_waits3.proofs.Members.{old_is, row_none}
use Rattle.cmh_waits3.proofs.site_waits.SiteWaits.waits_for.Goals as goal

pub returns-in-Some : goal.returns-in-Some
returns-in-Some c =
    let ms = c.self.inside.members in
    let rows = c.self.inside.rows.items in
    let at = c.in-Some.ensures in
    let inside = at.0 in
    let long = c.self.invariant.1 in
    let found : c.index.result.now ≡ get_or rows c.in-Some.place [] = c.index.ensures ∙ get_or_default rows c.in-Some.place c.index.result.now [] (omega (arith, inside, long)) in
    c.contains.ensures
    ∙ ap (λ (r : List Wait). in_list (targets_of r) c.args.holder) (found ∙ sym (old_is ms rows c.self.invariant.0 long c.in-Some.place c.args.asker inside at.1))
    ∙ ap (λ (v : Held). in_list (waits_of v c.args.asker) c.args.holder) c.self.view_is

pub returns-in-None : goal.returns-in-None
returns-in-None c =
    ap (λ (r : List Wait). in_list (targets_of r) c.args.holder) (sym (row_none c.self.inside.members c.self.inside.rows.items c.args.asker c.in-None.ensures))
    ∙ ap (λ (v : Held). in_list (waits_of v c.args.asker) c.args.holder) c.self.view_is
