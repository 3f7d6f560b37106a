use Rattle.std.proofs.Common.{◌≡◌, ℕ, ◌+◌, ◌-◌, ◌/◌, ◌<◌, ◌↔◌, ◌∙◌, ◌++◌, ◌∷◌, [], true, List, length, sym, ap, subst, arith}
use Rattle.std.proofs.lemmas.Bool.{or_left, or_right}
use Rattle.std.proofs.lemmas.List.{get_or_default}
use Rattle.cmh_cycles.specs.Graphs.{WaitsAt}
use Rattle.cmh_bits.specs.Bits.{has_number}
use Rattle.cmh_cycles.specs.Rows.{row_at}
use Rattle.cmh_cycles.proofs.LevelLemmas.{IsSearched, IsMet, search_start, search_more, search_end, no_cycle, lacking_less, met_from, met_end, unmet, next_from, only_place, words_small, last_pushed, one_last, last_read}
use Rattle.cmh_cycles.proofs.cycle.levels_to.Goals as goal

pub loop-met-init : goal.loop-met-init
loop-met-init c =
    let g = c.args.graph.now in
    let R : ℕ → ℕ → Type 0 = λ a b. WaitsAt g.processes.items g.waits.items a b in
    let n = length g.processes.items in
    let words = ap (λ m. m / 64 + 1) (c.len.ensures ∙ g.processes.ok.0) in
    let levels : c.push.new.self.items ≡ c.insert.new.self ∷ [] = c.in_ok-push.ensures.items ∙ ap (λ (ls : List (List ℕ)). ls ++ c.insert.new.self ∷ []) c.new-levels.ensures.items in
    let place = c.requires.place in
    let long = c.requires.graph.holders.long in
    let last = one_last c.push.new.self.items c.insert.new.self c.index.result.now levels ∙ sym c.index.ensures in
    let row : row_at g.holders.items c.args.to ≡ c.index-2.result.now = sym (c.index-2.ensures ∙ get_or_default g.holders.items c.args.to c.index-2.result.now [] (omega (arith, long, place))) in
    let leads : (v : ℕ) → has_number c.index-2.result.now v ≡ true ↔ R c.args.to v = subst (λ (r : List ℕ). (v : ℕ) → has_number r v ≡ true ↔ R c.args.to v) row (c.requires.graph.holders.are c.args.to) in
    record {
      searched = search_start R c.args.to n (n / 64 + 1) c.push.new.self.items c.insert.new.self c.insert-2.new.self levels (c.insert.ensures.words ∙ c.in_ok-first.ensures.words ∙ words) (c.insert-2.ensures.words ∙ c.in_ok-seen.ensures.words ∙ words) place
          (only_place c.insert.new.self c.in_ok-first.first c.args.to c.insert.ensures.numbers c.in_ok-first.ensures.none) (only_place c.insert-2.new.self c.in_ok-seen.seen c.args.to c.insert-2.ensures.numbers c.in_ok-seen.ensures.none);
      told = met_from R c.args.to c.push.new.self.items c.index.result.now c.index-2.result.now c.first_common.result c.is_some-met.result c.is_some-met.ensures last leads c.first_common.ensures.some c.first_common.ensures.none;
    }

pub next_level-requires-clause-inside : goal.next_level-requires-clause-inside
next_level-requires-clause-inside c = λ k h.
    let g = c.args.graph.now in
    let R : ℕ → ℕ → Type 0 = λ a b. WaitsAt g.processes.items g.waits.items a b in
    let n = length g.processes.items in
    let s = c.loop-met.invariant.searched in
    let levels = c.loop-met.levels.items in
    let last = last_read levels c.len-in-loop-met.result c.index-in-loop-met.result.now (c.len-in-loop-met.ensures ∙ c.loop-met.levels.ok.0) s.some c.index-in-loop-met.ensures in
    let some = s.some in
    let last_wide : length c.index-in-loop-met.result.now ≡ n / 64 + 1 = ap length (sym last) ∙ s.wide (length levels - 1) (omega (arith, some)) in
    let inside = s.inside (length levels - 1) k (ap (λ (r : List ℕ). has_number r k) last ∙ h) in
    let long = c.requires.graph.askers.long in
    subst (λ (ts : List (List ℕ)). (k < length ts) × (length (row_at ts k) ≡ length c.index-in-loop-met.result.now)) (sym c.deref.ensures.value)
    (omega (arith, inside, long), c.requires.graph.askers.wide k inside ∙ sym last_wide)

pub next_level-requires-clause-words : goal.next_level-requires-clause-words
next_level-requires-clause-words c =
    let g = c.args.graph.now in
    let R : ℕ → ℕ → Type 0 = λ a b. WaitsAt g.processes.items g.waits.items a b in
    let n = length g.processes.items in
    let s = c.loop-met.invariant.searched in
    let levels = c.loop-met.levels.items in
    let last = last_read levels c.len-in-loop-met.result c.index-in-loop-met.result.now (c.len-in-loop-met.ensures ∙ c.loop-met.levels.ok.0) s.some c.index-in-loop-met.ensures in
    let some = s.some in
    let last_wide : length c.index-in-loop-met.result.now ≡ n / 64 + 1 = ap length (sym last) ∙ s.wide (length levels - 1) (omega (arith, some)) in
    s.as_wide ∙ sym last_wide

pub next_level-requires-clause-small : goal.next_level-requires-clause-small
next_level-requires-clause-small c =
    let g = c.args.graph.now in
    let R : ℕ → ℕ → Type 0 = λ a b. WaitsAt g.processes.items g.waits.items a b in
    let n = length g.processes.items in
    let s = c.loop-met.invariant.searched in
    let levels = c.loop-met.levels.items in
    let last = last_read levels c.len-in-loop-met.result c.index-in-loop-met.result.now (c.len-in-loop-met.ensures ∙ c.loop-met.levels.ok.0) s.some c.index-in-loop-met.ensures in
    let some = s.some in
    let last_wide : length c.index-in-loop-met.result.now ≡ n / 64 + 1 = ap length (sym last) ∙ s.wide (length levels - 1) (omega (arith, some)) in
    let own = g.processes.ok.0 in
    let within = g.processes.ok.1 in
    let cap = g.processes.small in
    let few = words_small n (omega (arith, own, within, cap)) in
    omega (arith, few, last_wide)

pub is_empty-requires : goal.is_empty-requires
is_empty-requires c =
    let g = c.args.graph.now in
    let R : ℕ → ℕ → Type 0 = λ a b. WaitsAt g.processes.items g.waits.items a b in
    let n = length g.processes.items in
    let s = c.loop-met.invariant.searched in
    let levels = c.loop-met.levels.items in
    let last = last_read levels c.len-in-loop-met.result c.index-in-loop-met.result.now (c.len-in-loop-met.ensures ∙ c.loop-met.levels.ok.0) s.some c.index-in-loop-met.ensures in
    let some = s.some in
    let last_wide : length c.index-in-loop-met.result.now ≡ n / 64 + 1 = ap length (sym last) ∙ s.wide (length levels - 1) (omega (arith, some)) in
    let own = g.processes.ok.0 in
    let within = g.processes.ok.1 in
    let cap = g.processes.small in
    let few = words_small n (omega (arith, own, within, cap)) in
    let wide = c.in_ok-next.ensures.words in
    omega (arith, few, last_wide, wide)

pub returns-then-is_empty-clause-none : goal.returns-then-is_empty-clause-none
returns-then-is_empty-clause-none c =
    let g = c.args.graph.now in
    let R : ℕ → ℕ → Type 0 = λ a b. WaitsAt g.processes.items g.waits.items a b in
    let n = length g.processes.items in
    let s = c.loop-met.invariant.searched in
    let levels = c.loop-met.levels.items in
    let last = last_read levels c.len-in-loop-met.result c.index-in-loop-met.result.now (c.len-in-loop-met.ensures ∙ c.loop-met.levels.ok.0) s.some c.index-in-loop-met.ensures in
    let some = s.some in
    let last_wide : length c.index-in-loop-met.result.now ≡ n / 64 + 1 = ap length (sym last) ∙ s.wide (length levels - 1) (omega (arith, some)) in
    let askers : (v k : ℕ) → has_number (row_at c.deref.result.now k) v ≡ true ↔ R v k = λ v k. subst (λ (ts : List (List ℕ)). has_number (row_at ts k) v ≡ true ↔ R v k) (sym c.deref.ensures.value) (c.requires.graph.askers.are k v) in
    let next = c.in_ok-next.next in
    let next_has = next_from R levels c.deref.result.now c.index-in-loop-met.result.now c.loop-met.seen next last askers c.in_ok-next.ensures.places in
    no_cycle R c.args.to n (n / 64 + 1) levels c.loop-met.seen s next next_has (c.is_empty.ensures.none c.if-is_empty.true) (unmet R c.args.to levels c.loop-met.met c.loop-met-test.true c.loop-met.invariant.told)

pub add_all-requires : goal.add_all-requires
add_all-requires c =
    let g = c.args.graph.now in
    let R : ℕ → ℕ → Type 0 = λ a b. WaitsAt g.processes.items g.waits.items a b in
    let n = length g.processes.items in
    let s = c.loop-met.invariant.searched in
    let levels = c.loop-met.levels.items in
    let last = last_read levels c.len-in-loop-met.result c.index-in-loop-met.result.now (c.len-in-loop-met.ensures ∙ c.loop-met.levels.ok.0) s.some c.index-in-loop-met.ensures in
    let some = s.some in
    let last_wide : length c.index-in-loop-met.result.now ≡ n / 64 + 1 = ap length (sym last) ∙ s.wide (length levels - 1) (omega (arith, some)) in
    c.in_ok-next.ensures.words ∙ last_wide ∙ sym s.as_wide

pub first_common-requires-in-loop-met-clause-words : goal.first_common-requires-in-loop-met-clause-words
first_common-requires-in-loop-met-clause-words c =
    let g = c.args.graph.now in
    let R : ℕ → ℕ → Type 0 = λ a b. WaitsAt g.processes.items g.waits.items a b in
    let n = length g.processes.items in
    let s = c.loop-met.invariant.searched in
    let levels = c.loop-met.levels.items in
    let last = last_read levels c.len-in-loop-met.result c.index-in-loop-met.result.now (c.len-in-loop-met.ensures ∙ c.loop-met.levels.ok.0) s.some c.index-in-loop-met.ensures in
    let some = s.some in
    let last_wide : length c.index-in-loop-met.result.now ≡ n / 64 + 1 = ap length (sym last) ∙ s.wide (length levels - 1) (omega (arith, some)) in
    let place = c.requires.place in
    let long = c.requires.graph.holders.long in
    ap length (c.index-in-loop-met-2.ensures ∙ get_or_default g.holders.items c.args.to c.index-in-loop-met-2.result.now [] (omega (arith, long, place))) ∙ c.requires.graph.holders.wide c.args.to place
    ∙ sym (c.in_ok-next.ensures.words ∙ last_wide)

pub first_common-requires-in-loop-met-clause-small : goal.first_common-requires-in-loop-met-clause-small
first_common-requires-in-loop-met-clause-small c =
    let g = c.args.graph.now in
    let R : ℕ → ℕ → Type 0 = λ a b. WaitsAt g.processes.items g.waits.items a b in
    let n = length g.processes.items in
    let s = c.loop-met.invariant.searched in
    let levels = c.loop-met.levels.items in
    let last = last_read levels c.len-in-loop-met.result c.index-in-loop-met.result.now (c.len-in-loop-met.ensures ∙ c.loop-met.levels.ok.0) s.some c.index-in-loop-met.ensures in
    let some = s.some in
    let last_wide : length c.index-in-loop-met.result.now ≡ n / 64 + 1 = ap length (sym last) ∙ s.wide (length levels - 1) (omega (arith, some)) in
    let own = g.processes.ok.0 in
    let within = g.processes.ok.1 in
    let cap = g.processes.small in
    let few = words_small n (omega (arith, own, within, cap)) in
    let wide = c.in_ok-next.ensures.words in
    omega (arith, few, last_wide, wide)

pub loop-met-preserved : goal.loop-met-preserved
loop-met-preserved c =
    let g = c.args.graph.now in
    let R : ℕ → ℕ → Type 0 = λ a b. WaitsAt g.processes.items g.waits.items a b in
    let n = length g.processes.items in
    let s = c.loop-met.invariant.searched in
    let levels = c.loop-met.levels.items in
    let last = last_read levels c.len-in-loop-met.result c.index-in-loop-met.result.now (c.len-in-loop-met.ensures ∙ c.loop-met.levels.ok.0) s.some c.index-in-loop-met.ensures in
    let some = s.some in
    let last_wide : length c.index-in-loop-met.result.now ≡ n / 64 + 1 = ap length (sym last) ∙ s.wide (length levels - 1) (omega (arith, some)) in
    let askers : (v k : ℕ) → has_number (row_at c.deref.result.now k) v ≡ true ↔ R v k = λ v k. subst (λ (ts : List (List ℕ)). has_number (row_at ts k) v ≡ true ↔ R v k) (sym c.deref.ensures.value) (c.requires.graph.askers.are k v) in
    let next = c.in_ok-next.next in
    let next_has = next_from R levels c.deref.result.now c.index-in-loop-met.result.now c.loop-met.seen next last askers c.in_ok-next.ensures.places in
    let pushed = c.in_ok-push-2.ensures.items in
    let place = c.requires.place in
    let long = c.requires.graph.holders.long in
    let row : row_at g.holders.items c.args.to ≡ c.index-in-loop-met-2.result.now = sym (c.index-in-loop-met-2.ensures ∙ get_or_default g.holders.items c.args.to c.index-in-loop-met-2.result.now [] (omega (arith, long, place))) in
    let leads : (v : ℕ) → has_number c.index-in-loop-met-2.result.now v ≡ true ↔ R c.args.to v = subst (λ (r : List ℕ). (v : ℕ) → has_number r v ≡ true ↔ R c.args.to v) row (c.requires.graph.holders.are c.args.to) in
    record {
      searched = subst (λ ls. IsSearched R c.args.to n (n / 64 + 1) ls c.add_all.new.self) (sym pushed)
          (search_more R c.args.to n (n / 64 + 1) levels c.loop-met.seen s next next_has c.add_all.new.self (c.in_ok-next.ensures.words ∙ last_wide) (c.add_all.ensures.words ∙ s.as_wide) c.add_all.ensures.numbers
          (λ v h. ((next_has v).0 h).0.2.0) (unmet R c.args.to levels c.loop-met.met c.loop-met-test.true c.loop-met.invariant.told));
      told = subst (λ ls. IsMet R c.args.to ls c.is_some-met-in-loop-met.result) (sym pushed)
          (met_from R c.args.to (levels ++ next ∷ []) next c.index-in-loop-met-2.result.now c.first_common-in-loop-met.result c.is_some-met-in-loop-met.result c.is_some-met-in-loop-met.ensures (last_pushed levels next) leads
          c.first_common-in-loop-met.ensures.some c.first_common-in-loop-met.ensures.none);
    }

pub loop-met-smaller : goal.loop-met-smaller
loop-met-smaller c =
    let g = c.args.graph.now in
    let R : ℕ → ℕ → Type 0 = λ a b. WaitsAt g.processes.items g.waits.items a b in
    let n = length g.processes.items in
    let s = c.loop-met.invariant.searched in
    let levels = c.loop-met.levels.items in
    let last = last_read levels c.len-in-loop-met.result c.index-in-loop-met.result.now (c.len-in-loop-met.ensures ∙ c.loop-met.levels.ok.0) s.some c.index-in-loop-met.ensures in
    let some = s.some in
    let last_wide : length c.index-in-loop-met.result.now ≡ n / 64 + 1 = ap length (sym last) ∙ s.wide (length levels - 1) (omega (arith, some)) in
    let askers : (v k : ℕ) → has_number (row_at c.deref.result.now k) v ≡ true ↔ R v k = λ v k. subst (λ (ts : List (List ℕ)). has_number (row_at ts k) v ≡ true ↔ R v k) (sym c.deref.ensures.value) (c.requires.graph.askers.are k v) in
    let next = c.in_ok-next.next in
    let next_has = next_from R levels c.deref.result.now c.index-in-loop-met.result.now c.loop-met.seen next last askers c.in_ok-next.ensures.places in
    let k = c.is_empty.ensures.some c.if-is_empty.false in
    lacking_less n k.0 c.loop-met.seen c.add_all.new.self (λ v h. c.add_all.ensures.numbers v ∙ or_left (has_number c.loop-met.seen v) (has_number next v) h) ((next_has k.0).0 k.1).0.2.0 ((next_has k.0).0 k.1).1
    (c.add_all.ensures.numbers k.0 ∙ or_right (has_number c.loop-met.seen k.0) (has_number next k.0) k.1)

pub returns-clause-some : goal.returns-clause-some
returns-clause-some c =
    let g = c.args.graph.now in
    let R : ℕ → ℕ → Type 0 = λ a b. WaitsAt g.processes.items g.waits.items a b in
    let n = length g.processes.items in
    let levels = c.loop-met.levels.items in
    search_end R c.args.to n (n / 64 + 1) levels c.loop-met.seen c.loop-met.invariant.searched (met_end R c.args.to levels c.loop-met.met c.loop-met-test.false c.loop-met.invariant.told)

pub returns-clause-words : goal.returns-clause-words
returns-clause-words c = c.loop-met.invariant.searched.wide
