use Rattle.std.proofs.Common.{ap, ◌∙◌, sym, subst}
use Rattle.std.specs.List.Sorted.{IsStrictlyIncreasing}
use Rattle.std.proofs.lemmas.List.Kept.{IsStrictlyIncreasing-filter}
use Rattle.cmh_frames.specs.Relation.{has_some}
use Rattle.cmh_waits.specs.Held.{Held, IsKept, asked}
use Rattle.cmh_waits.proofs.Asks.{same_held, undone}
use Rattle.cmh_waits.proofs.Kept.{kept_as, kept_ask}
use Rattle.cmh_waits.proofs.AskLemmas.{increasing_from, owed_asked, rows_owing, rows_asked, waits_asked}
use Rattle.cmh_waits.proofs.local_waits.LocalWaits.ask.Goals as goal

pub new-list-requires : goal.new-list-requires
new-list-requires c = subst IsStrictlyIncreasing (sym c.in_ok-others.ensures) (IsStrictlyIncreasing-filter _ c.args.targets.now (increasing_from c.args.targets.now c.requires.ascending))

pub invariant_of-self-in-Some : goal.invariant_of-self-in-Some
invariant_of-self-in-Some c =
    let w = c.self.inside in
    let ms = w.members in
    let p = c.in-Some.place in
    let j = c.args.asker in
    let ts = c.args.targets.now in
    let at = c.in-Some.ensures in
    let up = c.self.invariant.2.ascending in
    let bits = c.row_of.ensures in
    let list = c.replace.ensures.after ∙ c.new-list.ensures ∙ c.in_ok-others.ensures in
    let owes = c.owe_each.ensures.bits in
    let active = ap (λ (v : Held). has_some v.waits j) c.self.view_is ∙ c.requires.active in (
      rows_asked ms w.waits.items w.remote_waits.items up c.self.invariant.0 p j at.0 at.1 ts c.row_of.result c.replace.new.dest bits list,
      rows_owing ms w.owed.items w.remote_owed.items up c.self.invariant.1 p j at.0 at.1 ts c.owe_each.new.owed.items c.owe_each.ensures.len owes,
      kept_as _ _ (same_held ms _ _ _ _ (waits_asked ms w.waits.items w.remote_waits.items up c.self.invariant.0 p j at.0 at.1 ts c.row_of.result c.replace.new.dest bits list active) (owed_asked ms w.owed.items w.remote_owed.items up c.self.invariant.1 p j at.0 at.1 ts c.owe_each.new.owed.items c.owe_each.ensures.len owes) ∙ ap (λ (v : Held). asked v j ts) c.self.view_is) (kept_ask c.args.self.now j ts (subst IsKept c.self.view_is c.self.invariant.2)),
    )

pub returns-in-Some-clause-ok : goal.returns-in-Some-clause-ok
returns-in-Some-clause-ok c =
    let w = c.self.inside in
    let ms = w.members in
    let p = c.in-Some.place in
    let j = c.args.asker in
    let ts = c.args.targets.now in
    let at = c.in-Some.ensures in
    let up = c.self.invariant.2.ascending in
    let bits = c.row_of.ensures in
    let list = c.replace.ensures.after ∙ c.new-list.ensures ∙ c.in_ok-others.ensures in
    let owes = c.owe_each.ensures.bits in
    let active = ap (λ (v : Held). has_some v.waits j) c.self.view_is ∙ c.requires.active in
    same_held ms _ _ _ _ (waits_asked ms w.waits.items w.remote_waits.items up c.self.invariant.0 p j at.0 at.1 ts c.row_of.result c.replace.new.dest bits list active) (owed_asked ms w.owed.items w.remote_owed.items up c.self.invariant.1 p j at.0 at.1 ts c.owe_each.new.owed.items c.owe_each.ensures.len owes) ∙ ap (λ (v : Held). asked v j ts) c.self.view_is

pub returns-in-Some-clause-undone : goal.returns-in-Some-clause-undone
returns-in-Some-clause-undone c =
    undone c.args.self.now _ c.args.asker c.args.targets.now (subst IsKept c.self.view_is c.self.invariant.2).waiting c.requires.member c.requires.active (returns-in-Some-clause-ok c)
