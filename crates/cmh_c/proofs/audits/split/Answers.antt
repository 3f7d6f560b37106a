use Rattle.std.proofs.Common.{◌≡◌, ◌+◌, ◌++◌, ◌∙◌, ℕ, List, Vec, length, drop, map, get_or, inr, refl, sym, ap, subst}
use Rattle.std.specs.Global.{Global}
use Rattle.std.proofs.lemmas.List.{take-append-drop}
use Rattle.cmh_c.proofs.Files.{SplitSoFar, files_long, files_short, some_left, split_more}
use Rattle.cmh_c.proofs.audits.split.Goals as goal

pub loop-len-preserved : goal.loop-len-preserved
loop-len-preserved c =
    let rest = c.loop-len.rest.now in
    let lens = c.args.lens.now in
    let i = c.loop-len.len-index in
    let n = get_or lens i 0 in
    let file = c.in_ok-to_vec.field-0 in
    let after = c.split_at.result.1.now in
    let same : file.items ≡ c.split_at.result.0.now = c.in_ok-to_vec.ensures.items_if_clones_equal (λ a b e. e) in
    let split : rest ≡ file.items ++ after =
    sym (take-append-drop n rest) ∙ ap (λ l. l ++ drop n rest) (sym (same ∙ c.split_at.ensures.front)) ∙ ap (λ l. file.items ++ l) (sym c.split_at.ensures.back) in
    subst (λ (parts : List (Vec ℕ Global)). SplitSoFar (map (λ (part : Vec ℕ Global). part.items) parts) after c.args.files.now lens (i + 1)) (sym c.in_ok-push.ensures.items)
    (split_more (λ (part : Vec ℕ Global). part.items) c.loop-len.split.items file rest after c.args.files.now lens i 0
    c.loop-len.invariant c.loop-len-test.true split (ap length same ∙ c.split_at.ensures.front_len))

pub returns-then-rest-len-clause-fault : goal.returns-then-rest-len-clause-fault
returns-then-rest-len-clause-fault c =
    inr (
      refl,
      files_short (map (λ (part : Vec ℕ Global). part.items) c.loop-len.split.items) c.loop-len.rest.now c.args.files.now c.args.lens.now c.loop-len.len-index 0
          c.loop-len.invariant c.loop-len-test.true c.if-rest-len.true,
    )

pub returns-else-is_empty-clause-fault : goal.returns-else-is_empty-clause-fault
returns-else-is_empty-clause-fault c =
    inr (
      refl,
      files_long (map (λ (part : Vec ℕ Global). part.items) c.loop-len.split.items) c.loop-len.rest.now c.args.files.now c.args.lens.now c.loop-len.len-index
          c.loop-len.invariant c.loop-len-test.false (some_left c.loop-len.rest.now (sym c.is_empty.ensures ∙ c.if-is_empty.false)),
    )
