use Rattle.std.proofs.Common.{◌≡◌, ◌∙◌, ◌<◌, ℕ, true, false, List, length, get_or, refl, sym, ap, subst}
use Rattle.cmh_model3.specs.Lists.{in_list}
use Rattle.cmh_waits3.specs.declared.wait.Wait.{Wait}
use Rattle.cmh_waits3.specs.Held.{Held, is_member, waits_of}
use Rattle.cmh_waits3.specs.Inner.Steps.{has_place}
use Rattle.cmh_waits3.specs.Rows.{targets_of}
use Rattle.cmh_waits3.proofs.Members.{old_is}
use Rattle.cmh_waits3.proofs.site_waits.SiteWaits.leaving.Goals as goal

pub returns : goal.returns
returns c =
    let ms = c.self.inside.members in
    let rows = c.self.inside.rows.items in
    let leaving = c.self.inside.leaving.words in
    subst (λ (v : Held). (place k : ℕ) → place < length v.members → has_place leaving place ≡ false → in_list (waits_of v (get_or v.members place 0)) k ≡ true → is_member v k ≡ true) c.self.view_is
    (λ place k inside none h. c.self.invariant.2.stay place k inside none
    (sym (ap (λ (r : List Wait). in_list (targets_of r) k) (old_is ms rows c.self.invariant.0 c.self.invariant.1 place (get_or ms place 0) inside refl)) ∙ h))
