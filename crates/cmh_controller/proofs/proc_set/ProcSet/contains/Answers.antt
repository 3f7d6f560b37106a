use Rattle.std.proofs.Common.{ℕ, List, length, not, ◌≡◌, ◌==◌, [], sym, ap, ◌∙◌}
use Rattle.std.specs.FinSet as set
use Rattle.std.specs.FinSet.{contains-from_list_nat}
use Rattle.std.specs.List.{list_any}
use Rattle.std.proofs.lemmas.Bool.{eqb-true}
use Rattle.std.proofs.lemmas.List.{nil_from_length}
use Rattle.cmh_frames.specs.Relation.{Numbers}
use Rattle.cmh_controller.proofs.proc_set.ProcSet.contains.Goals as goal

pub returns-then-not-is_empty : goal.returns-then-not-is_empty
returns-then-not-is_empty c =
    let members = contains-from_list_nat c.self.inside.processes.items c.args.process in
    cc (c.contains.ensures.value, c.as_slice-processes.ensures.value, c.self.view_is, members)

pub returns-else-not-is_empty : goal.returns-else-not-is_empty
returns-else-not-is_empty c =
    let none : c.self.inside.processes.items ≡ [] = nil_from_length c.self.inside.processes.items (eqb-true (length c.self.inside.processes.items) 0 (ap (λ (xs : List ℕ). length xs == 0) (sym c.as_slice-processes.ensures.value) ∙ sym c.is_empty.ensures ∙ c.if-not-is_empty.false)) in
    ap not c.if-not-is_empty.false
    ∙ sym (contains-from_list_nat c.self.inside.processes.items c.args.process ∙ ap (list_any (λ q. q == c.args.process)) none)
    ∙ ap (λ (s : Numbers). set.contains s c.args.process) c.self.view_is
