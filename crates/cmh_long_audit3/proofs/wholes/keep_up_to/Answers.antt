use Rattle.std.proofs.Common.{◌≡◌, ℕ, Option, rules, subst, sym}
use Rattle.std.proofs.lemmas.Fn.{filter_same}
use Rattle.cmh_long_audit3.specs.Wholes.{up_to}
use Rattle.cmh_long_audit3.proofs.wholes.keep_up_to.Goals as goal

pub returns-in-Some : goal.returns-in-Some
returns-in-Some c =
    subst (λ (last : Option ℕ). c.retain.new.self.items ≡ up_to last c.args.segments.now.items) (sym c.in-Some.is)
    (filter_same _ _ _ (λ x b f' k. search rules) _ _ c.retain.ensures.filtered)
