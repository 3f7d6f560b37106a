use Rattle.std.proofs.Common.{◌≡◌, ℕ, List, Option, ap, sym, ◌∙◌, subst, Some, None}
use Rattle.cmh_carriers.specs.declared.table.LinkState.{LinkState}
use Rattle.cmh_carriers.specs.declared.table.LinkState.TheVariants.{Fresh, Running, Closed}
use Rattle.cmh_carriers.specs.Table.{state_at, IsPlace, closed_by}
use Rattle.cmh_carriers.proofs.Rows.{none_there, state_there, set_here, set_others}
use Rattle.cmh_carriers.proofs.table.close.Goals as goal

pub returns-in_default-clause-here : goal.returns-in_default-clause-here
returns-in_default-clause-here c =
    let no : state_at c.args.rows.now.items c.args.site ≡ None = none_there c.args.rows.now.items c.args.site (subst (λ (xs : List (ℕ × LinkState)). IsPlace xs c.args.site None) c.deref.ensures.value (subst (λ (o : Option ℕ). IsPlace c.deref.result.now c.args.site o) c.in_default.is c.place_of.ensures)) in
    no ∙ sym (ap (closed_by c.args.fault) no)

pub returns-in-Closed-clause-here : goal.returns-in-Closed-clause-here
returns-in-Closed-clause-here c =
    let pl : IsPlace c.args.rows.now.items c.args.site (Some c.in-Some.i) = subst (λ (xs : List (ℕ × LinkState)). IsPlace xs c.args.site (Some c.in-Some.i)) c.deref.ensures.value c.in-Some.ensures in
    let at : (x : LinkState) → c.index.result.now.1 ≡ x → state_at c.args.rows.now.items c.args.site ≡ Some x = λ x e. state_there c.args.rows.now.items c.args.site c.in-Some.i c.index.result.now pl ∙ ap (λ (r : ℕ × LinkState). Some r.1) (sym c.index.ensures) ∙ ap (λ (y : LinkState). Some y) e in
    at (Closed c.in-Closed.field-0) c.in-Closed.is ∙ sym (ap (closed_by c.args.fault) (at (Closed c.in-Closed.field-0) c.in-Closed.is))

pub returns-in-Fresh-clause-here : goal.returns-in-Fresh-clause-here
returns-in-Fresh-clause-here c =
    let pl : IsPlace c.args.rows.now.items c.args.site (Some c.in-Some.i) = subst (λ (xs : List (ℕ × LinkState)). IsPlace xs c.args.site (Some c.in-Some.i)) c.deref.ensures.value c.in-Some.ensures in
    let at : (x : LinkState) → c.index.result.now.1 ≡ x → state_at c.args.rows.now.items c.args.site ≡ Some x = λ x e. state_there c.args.rows.now.items c.args.site c.in-Some.i c.index.result.now pl ∙ ap (λ (r : ℕ × LinkState). Some r.1) (sym c.index.ensures) ∙ ap (λ (y : LinkState). Some y) e in
    set_here c.args.rows.now.items c.args.site c.in-Some.i (Closed c.args.fault) pl ∙ sym (ap (closed_by c.args.fault) (at Fresh c.in-Fresh.is))

pub returns-in-Fresh-clause-others : goal.returns-in-Fresh-clause-others
returns-in-Fresh-clause-others c =
    let pl : IsPlace c.args.rows.now.items c.args.site (Some c.in-Some.i) = subst (λ (xs : List (ℕ × LinkState)). IsPlace xs c.args.site (Some c.in-Some.i)) c.deref.ensures.value c.in-Some.ensures in
    let at : (x : LinkState) → c.index.result.now.1 ≡ x → state_at c.args.rows.now.items c.args.site ≡ Some x = λ x e. state_there c.args.rows.now.items c.args.site c.in-Some.i c.index.result.now pl ∙ ap (λ (r : ℕ × LinkState). Some r.1) (sym c.index.ensures) ∙ ap (λ (y : LinkState). Some y) e in
    set_others c.args.rows.now.items c.args.site c.in-Some.i (Closed c.args.fault) pl

pub returns-in-Running-clause-here : goal.returns-in-Running-clause-here
returns-in-Running-clause-here c =
    let pl : IsPlace c.args.rows.now.items c.args.site (Some c.in-Some.i) = subst (λ (xs : List (ℕ × LinkState)). IsPlace xs c.args.site (Some c.in-Some.i)) c.deref.ensures.value c.in-Some.ensures in
    let at : (x : LinkState) → c.index.result.now.1 ≡ x → state_at c.args.rows.now.items c.args.site ≡ Some x = λ x e. state_there c.args.rows.now.items c.args.site c.in-Some.i c.index.result.now pl ∙ ap (λ (r : ℕ × LinkState). Some r.1) (sym c.index.ensures) ∙ ap (λ (y : LinkState). Some y) e in
    set_here c.args.rows.now.items c.args.site c.in-Some.i (Closed c.args.fault) pl ∙ sym (ap (closed_by c.args.fault) (at Running c.in-Running.is))

pub returns-in-Running-clause-others : goal.returns-in-Running-clause-others
returns-in-Running-clause-others c =
    let pl : IsPlace c.args.rows.now.items c.args.site (Some c.in-Some.i) = subst (λ (xs : List (ℕ × LinkState)). IsPlace xs c.args.site (Some c.in-Some.i)) c.deref.ensures.value c.in-Some.ensures in
    let at : (x : LinkState) → c.index.result.now.1 ≡ x → state_at c.args.rows.now.items c.args.site ≡ Some x = λ x e. state_there c.args.rows.now.items c.args.site c.in-Some.i c.index.result.now pl ∙ ap (λ (r : ℕ × LinkState). Some r.1) (sym c.index.ensures) ∙ ap (λ (y : LinkState). Some y) e in
    set_others c.args.rows.now.items c.args.site c.in-Some.i (Closed c.args.fault) pl
