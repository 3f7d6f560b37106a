use Rattle.std.proofs.Common.{◌≡◌, ℕ, ◌+◌, ◌<◌, ◌≤◌, ◌∙◌, List, Vec, take, length, get_or, inl, inr, sym, ap, subst, subst₂, refl}
use Rattle.std.specs.Global.{Global}
use Rattle.std.specs.Prelude.{Contains}
use Rattle.cmh_cycles.specs.Graphs.{AreAskers}
use Rattle.cmh_cycles.specs.Rows.{AreTwins}
use Rattle.cmh_cycles.proofs.GraphLemmas.{AreTables, tables_start, tables_pass, tables_more, tables_end}
use Rattle.cmh_cycles.proofs.graph.Graph.new.Goals as goal
use Rattle.cmh_cycles.proofs.graph.Graph.new.Goals.{in-Some+in-Some-place_of, in-Some+in_default-place_of, in_default}

pub loop-asker-init : goal.loop-asker-init
loop-asker-init c =
    let n = c.len.ensures ∙ c.in_ok-processes.processes.ok.0 in
    let same = c.len-2.ensures ∙ sym c.len.ensures in
    tables_start c.in_ok-processes.processes.items c.args.waits.items c.in_ok-holders.holders.items c.in_ok-askers.askers.items c.len.result n c.in_ok-holders.ensures (rw same at c.in_ok-askers.ensures)

pub loop-asker-preserved : goal.loop-asker-preserved
loop-asker-preserved c =
    let ps = c.in_ok-processes.processes.items in
    let ws = c.args.waits.items in
    let i = c.loop-asker.asker-index in
    let wait : ℕ × ℕ = c.loop-asker-item.result in
    let L : List (ℕ × ℕ) → Type 0 = λ xs. i < length xs in
    let I : List (ℕ × ℕ) → Type 0 = λ xs. wait ≡ get_or xs i wait in
    let inside = subst L c.deref-asker-items.ensures.value c.loop-asker-test.true in
    let is = subst I c.deref-asker-items.ensures.value c.loop-asker-item.is in
    let items_of : Vec (List ℕ) Global → List (List ℕ) = λ v. v.items in
    let T : List (List ℕ) → List (List ℕ) → Type 0 = λ hs ts. AreTables ps (take (i + 1) ws) hs ts in
    elim c.match-place_of.branch [
      | in-Some+in-Some-place_of w ↦
          let a = subst (λ (xs : List ℕ). (w.in-Some.a < length xs) × (get_or xs w.in-Some.a 0 ≡ wait.0)) c.deref-in-loop-asker.ensures.value w.in-Some.ensures in
          let b = subst (λ (xs : List ℕ). (w.in-Some-place_of.b < length xs) × (get_or xs w.in-Some-place_of.b 0 ≡ wait.1)) w.deref-in-Some.ensures.value w.in-Some-place_of.ensures in
          let up = (subst (λ vs. AreAskers vs ps) c.deref.ensures.value c.in_ok-processes.ensures).ascending in
          subst₂ T (sym (ap items_of w.holders-is)) (sym (ap items_of w.askers-is))
          (tables_more ps ws i wait inside is c.loop-asker.holders.items c.loop-asker.askers.items c.loop-asker.invariant w.in-Some.a w.in-Some-place_of.b w.relate.new.table.items w.relate-in-Some-place_of.new.table.items up a b
          w.relate.ensures.long w.relate.ensures.wide w.relate.ensures.places w.relate-in-Some-place_of.ensures.long w.relate-in-Some-place_of.ensures.wide w.relate-in-Some-place_of.ensures.places)
      | in-Some+in_default-place_of w ↦
          let none = subst (λ (xs : List ℕ). Contains xs wait.1 → ⊥) w.deref-in-Some.ensures.value w.in_default-place_of.ensures in
          subst₂ T (sym (ap items_of w.holders-is)) (sym (ap items_of w.askers-is))
          (tables_pass ps ws i wait inside is c.loop-asker.holders.items c.loop-asker.askers.items c.loop-asker.invariant (inr none))
      | in_default w ↦
          let none = subst (λ (xs : List ℕ). Contains xs wait.0 → ⊥) c.deref-in-loop-asker.ensures.value w.in_default.ensures in
          subst₂ T (sym (ap items_of w.holders-is)) (sym (ap items_of w.askers-is))
          (tables_pass ps ws i wait inside is c.loop-asker.holders.items c.loop-asker.askers.items c.loop-asker.invariant (inl none))
    ]

pub returns : goal.returns
returns c =
    let L : List (ℕ × ℕ) → Type 0 = λ xs. length xs ≤ c.loop-asker.asker-index in
    let askers = subst (λ ws. AreAskers ws c.in_ok-processes.processes.items) c.deref.ensures.value c.in_ok-processes.ensures in
    let tables = tables_end c.in_ok-processes.processes.items c.args.waits.items c.loop-asker.asker-index c.loop-asker.holders.items c.loop-asker.askers.items (subst L c.deref-asker-items.ensures.value c.loop-asker-test.false) c.loop-asker.invariant in
    record { waits_are = refl; processes = askers; holders = tables.holders; askers = tables.askers; twins = subst (λ table. AreTwins table c.in_ok-twins.twins.items) c.deref-3.ensures.value c.in_ok-twins.ensures }
