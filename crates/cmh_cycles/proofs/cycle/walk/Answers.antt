use Rattle.std.proofs.Common.{◌≡◌, ℕ, ◌+◌, ◌-◌, ◌∙◌, ◌++◌, ◌∷◌, [], List, length, map, get_or, sym, ap, subst, arith, refl}
use Rattle.std.proofs.lemmas.List.{get_or_default}
use Rattle.cmh_cycles.specs.Graphs.{WaitsAt}
use Rattle.cmh_bits.specs.Bits.{has_number}
use Rattle.cmh_cycles.specs.Rows.{row_at}
use Rattle.cmh_cycles.proofs.LevelLemmas.{words_small}
use Rattle.cmh_cycles.proofs.CycleLemmas.{IsWalking, walk_start, walk_more, walk_goes_on, walk_end, map_push}
use Rattle.cmh_cycles.proofs.cycle.walk.Goals as goal

pub loop-left-init : goal.loop-left-init
loop-left-init c =
    let g = c.args.graph.now in
    let R : ℕ → ℕ → Type 0 = λ a b. WaitsAt g.processes.items g.waits.items a b in
    record {
      places = c.args.from ∷ [];
      are = c.in_ok-push.ensures.items ∙ ap (λ (ms : List ℕ). ms ++ c.index.result.now ∷ []) c.new-members.ensures.items ∙ ap (λ m. m ∷ []) (c.index.ensures ∙ get_or_default g.processes.items c.args.from c.index.result.now 0 c.requires.place);
      inside = c.requires.place;
      few = omega arith;
      walking = walk_start R c.args.from c.args.levels.now c.requires.back (length c.args.levels.now) refl;
    }

pub index-requires-in-loop-left : goal.index-requires-in-loop-left
index-requires-in-loop-left c =
    let inside = c.loop-left.invariant.inside in
    let long = c.requires.graph.holders.long in
    let own = c.args.graph.now.holders.ok.0 in
    omega (arith, inside, long, own)

pub first_common-requires-clause-words : goal.first_common-requires-clause-words
first_common-requires-clause-words c =
    let g = c.args.graph.now in
    let few = c.loop-left.invariant.few in
    let some = c.loop-left-test.true in
    let inside = c.loop-left.invariant.inside in
    let long = c.requires.graph.holders.long in
    ap length (c.index-in-loop-left.ensures ∙ get_or_default g.holders.items c.loop-left.at c.index-in-loop-left.result.now [] (omega (arith, inside, long))) ∙ c.requires.graph.holders.wide c.loop-left.at inside
    ∙ sym (ap length (c.index-levels-left.is ∙ get_or_default c.args.levels.now (c.loop-left.left - 1) c.index-levels-left.result [] (omega (arith, few, some))) ∙ c.requires.words (c.loop-left.left - 1) (omega (arith, few, some)))

pub first_common-requires-clause-small : goal.first_common-requires-clause-small
first_common-requires-clause-small c =
    let g = c.args.graph.now in
    let R : ℕ → ℕ → Type 0 = λ a b. WaitsAt g.processes.items g.waits.items a b in
    let inside = c.loop-left.invariant.inside in
    let long = c.requires.graph.holders.long in
    let few = c.loop-left.invariant.few in
    let some = c.loop-left-test.true in
    let level : row_at c.args.levels.now (c.loop-left.left - 1) ≡ c.index-levels-left.result = sym (c.index-levels-left.is ∙ get_or_default c.args.levels.now (c.loop-left.left - 1) c.index-levels-left.result [] (omega (arith, few, some))) in
    let row : row_at g.holders.items c.loop-left.at ≡ c.index-in-loop-left.result.now = sym (c.index-in-loop-left.ensures ∙ get_or_default g.holders.items c.loop-left.at c.index-in-loop-left.result.now [] (omega (arith, inside, long))) in
    let at_left : c.loop-left.left ≡ (c.loop-left.left - 1) + 1 = omega (arith, some) in
    let walking = subst (IsWalking R c.args.from c.args.levels.now c.loop-left.invariant.places c.loop-left.at) at_left c.loop-left.invariant.walking in
    let own = g.processes.ok.0 in
    let within = g.processes.ok.1 in
    let cap = g.processes.small in
    let limit = words_small (length g.processes.items) (omega (arith, own, within, cap)) in
    let wide = ap length (sym level) ∙ c.requires.words (c.loop-left.left - 1) (omega (arith, few, some)) in
    omega (arith, limit, wide)

pub unreachable-requires : goal.unreachable-requires
unreachable-requires c =
    let g = c.args.graph.now in
    let R : ℕ → ℕ → Type 0 = λ a b. WaitsAt g.processes.items g.waits.items a b in
    let inside = c.loop-left.invariant.inside in
    let long = c.requires.graph.holders.long in
    let few = c.loop-left.invariant.few in
    let some = c.loop-left-test.true in
    let level : row_at c.args.levels.now (c.loop-left.left - 1) ≡ c.index-levels-left.result = sym (c.index-levels-left.is ∙ get_or_default c.args.levels.now (c.loop-left.left - 1) c.index-levels-left.result [] (omega (arith, few, some))) in
    let row : row_at g.holders.items c.loop-left.at ≡ c.index-in-loop-left.result.now = sym (c.index-in-loop-left.ensures ∙ get_or_default g.holders.items c.loop-left.at c.index-in-loop-left.result.now [] (omega (arith, inside, long))) in
    let at_left : c.loop-left.left ≡ (c.loop-left.left - 1) + 1 = omega (arith, some) in
    let walking = subst (IsWalking R c.args.from c.args.levels.now c.loop-left.invariant.places c.loop-left.at) at_left c.loop-left.invariant.walking in
    walk_goes_on R c.args.from c.args.levels.now c.requires.back c.loop-left.invariant.places c.loop-left.at (c.loop-left.left - 1) walking
    (λ k h r. c.in-None.ensures.none k (ap (λ (l : List ℕ). has_number l k) (sym level) ∙ h) (ap (λ (l : List ℕ). has_number l k) (sym row) ∙ (c.requires.graph.holders.are c.loop-left.at k).1 r))

pub index-requires-in-Some : goal.index-requires-in-Some
index-requires-in-Some c =
    let g = c.args.graph.now in
    let R : ℕ → ℕ → Type 0 = λ a b. WaitsAt g.processes.items g.waits.items a b in
    let inside = c.loop-left.invariant.inside in
    let long = c.requires.graph.holders.long in
    let few = c.loop-left.invariant.few in
    let some = c.loop-left-test.true in
    let level : row_at c.args.levels.now (c.loop-left.left - 1) ≡ c.index-levels-left.result = sym (c.index-levels-left.is ∙ get_or_default c.args.levels.now (c.loop-left.left - 1) c.index-levels-left.result [] (omega (arith, few, some))) in
    let row : row_at g.holders.items c.loop-left.at ≡ c.index-in-loop-left.result.now = sym (c.index-in-loop-left.ensures ∙ get_or_default g.holders.items c.loop-left.at c.index-in-loop-left.result.now [] (omega (arith, inside, long))) in
    let at_left : c.loop-left.left ≡ (c.loop-left.left - 1) + 1 = omega (arith, some) in
    let walking = subst (IsWalking R c.args.from c.args.levels.now c.loop-left.invariant.places c.loop-left.at) at_left c.loop-left.invariant.walking in
    let step = (c.requires.graph.holders.are c.loop-left.at c.in-Some.next).0 (ap (λ (l : List ℕ). has_number l c.in-Some.next) row ∙ c.in-Some.ensures.some.1) in
    let below = step.1 in
    let own = g.processes.ok.0 in
    omega (arith, below, own)

pub loop-left-preserved : goal.loop-left-preserved
loop-left-preserved c =
    let g = c.args.graph.now in
    let R : ℕ → ℕ → Type 0 = λ a b. WaitsAt g.processes.items g.waits.items a b in
    let inside = c.loop-left.invariant.inside in
    let long = c.requires.graph.holders.long in
    let few = c.loop-left.invariant.few in
    let some = c.loop-left-test.true in
    let level : row_at c.args.levels.now (c.loop-left.left - 1) ≡ c.index-levels-left.result = sym (c.index-levels-left.is ∙ get_or_default c.args.levels.now (c.loop-left.left - 1) c.index-levels-left.result [] (omega (arith, few, some))) in
    let row : row_at g.holders.items c.loop-left.at ≡ c.index-in-loop-left.result.now = sym (c.index-in-loop-left.ensures ∙ get_or_default g.holders.items c.loop-left.at c.index-in-loop-left.result.now [] (omega (arith, inside, long))) in
    let at_left : c.loop-left.left ≡ (c.loop-left.left - 1) + 1 = omega (arith, some) in
    let walking = subst (IsWalking R c.args.from c.args.levels.now c.loop-left.invariant.places c.loop-left.at) at_left c.loop-left.invariant.walking in
    let next = c.in-Some.next in
    let step = (c.requires.graph.holders.are c.loop-left.at next).0 (ap (λ (l : List ℕ). has_number l next) row ∙ c.in-Some.ensures.some.1) in
    let name : ℕ → ℕ = λ a. get_or g.processes.items a 0 in
    record {
      places = c.loop-left.invariant.places ++ next ∷ [];
      are = c.in_ok-push-in-Some.ensures.items ∙ ap (λ (ms : List ℕ). ms ++ c.index-in-Some.result.now ∷ []) c.loop-left.invariant.are
          ∙ ap (λ x. map name c.loop-left.invariant.places ++ x ∷ []) (c.index-in-Some.ensures ∙ get_or_default g.processes.items next c.index-in-Some.result.now 0 step.1) ∙ map_push name c.loop-left.invariant.places next;
      inside = step.1;
      few = omega (arith, few, some);
      walking = walk_more R c.args.from c.args.levels.now c.requires.back c.loop-left.invariant.places c.loop-left.at (c.loop-left.left - 1) next walking step (ap (λ (l : List ℕ). has_number l next) level ∙ c.in-Some.ensures.some.0)
          (λ k h r. c.in-Some.ensures.least k (ap (λ (l : List ℕ). has_number l k) (sym level) ∙ h) (ap (λ (l : List ℕ). has_number l k) (sym row) ∙ (c.requires.graph.holders.are c.loop-left.at k).1 r));
    }

pub returns : goal.returns
returns c =
    let g = c.args.graph.now in
    let R : ℕ → ℕ → Type 0 = λ a b. WaitsAt g.processes.items g.waits.items a b in
    let none = c.loop-left-test.false in
    (c.loop-left.invariant.places, c.loop-left.invariant.are, walk_end R c.args.from c.args.levels.now c.requires.back c.loop-left.invariant.places c.loop-left.at c.loop-left.left (omega (arith, none)) c.loop-left.invariant.walking)
