use Rattle.std.proofs.Common.{◌≡◌, ◌∙◌, ◌==◌, not, ap, List, ℕ, subst, nat_cmp, Ok, Err}
use Rattle.std.specs.List.{filter}
use Rattle.std.specs.List.Sorted.{IsBinarySearchResult}
use Rattle.cmh_waits.proofs.ListLemmas.{taken_increasing, none_increasing}
use Rattle.cmh_waits.proofs.proc_list.ProcList.remove.Goals as goal

pub returns-in-Ok : goal.returns-in-Ok
returns-in-Ok c =
    c.remove.ensures.by_index.2
    ∙ taken_increasing c.self.inside.processes.items c.in-Ok.place c.args.process c.self.invariant
    (subst (λ (xs : List ℕ). IsBinarySearchResult (λ y. nat_cmp y c.args.process) xs (Ok c.in-Ok.place)) c.deref.ensures.value c.in-Ok.ensures.position)
    ∙ ap (λ (xs : List ℕ). filter (λ q. not (q == c.args.process)) xs) c.self.view_is

pub returns-in_default : goal.returns-in_default
returns-in_default c = subst (λ (xs : List ℕ). xs ≡ filter (λ q. not (q == c.args.process)) xs) c.self.view_is
    (none_increasing c.self.inside.processes.items c.in_default.field-0 c.args.process c.self.invariant
    (subst (λ (xs : List ℕ). IsBinarySearchResult (λ y. nat_cmp y c.args.process) xs (Err c.in_default.field-0)) c.deref.ensures.value c.in_default.ensures.position))
