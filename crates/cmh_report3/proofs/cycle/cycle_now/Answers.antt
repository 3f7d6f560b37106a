use Rattle.std.proofs.Common.{◌≡◌, ◌↔◌, ℕ, true, not, ◌&&◌, List, Vec, Option, filter, sym, subst, ◌∙◌, Contains}
use Rattle.std.specs.Global.{Global}
use Rattle.std.specs.Prelude.{IfNone, IfSome}
use Rattle.std.specs.List.Sorted.{IsStrictlySortedBy}
use Rattle.std.proofs.lemmas.List.Kept.{IsStrictlySortedBy-filter}
use Rattle.cmh_cycles.specs.Cycles.{ComesFirst}
use Rattle.cmh_cycles.specs.FoundCycles.{IsCycleIn, WaitsIn}
use Rattle.cmh_frames.specs.Relation.{pair_cmp}
use Rattle.cmh_report3.specs.Inner.Pairs.{has_pair}
use Rattle.cmh_report3.specs.Reports.{IsLeastLeaver}
use Rattle.cmh_report3.proofs.Cycles.{Same, beyond_same, found_first, found_none, no_cycle}
use Rattle.cmh_report3.proofs.cycle.cycle_now.Goals as goal

pub new-requires : goal.new-requires
new-requires c =
    let left = λ (pair : ℕ × ℕ). not (has_pair c.args.stop.now.ended pair.0 pair.1) in
    let S : List (ℕ × ℕ) → Type 0 = λ ws. IsStrictlySortedBy pair_cmp ws in
    let waits : S c.deref.result.now = subst S (sym c.deref.ensures.value) c.in_ok-waits.ensures.ascending in
    subst S (sym c.in_ok-pairs_beyond.ensures) (IsStrictlySortedBy-filter pair_cmp left c.deref.result.now waits)

pub returns-in-Some : goal.returns-in-Some
returns-in-Some c =
    let waits = has_pair c.args.stop.now.waits in
    let ended = has_pair c.args.stop.now.ended in
    let are = subst (λ (ws : List (ℕ × ℕ)). (j k : ℕ) → Contains ws (j, k) ↔ (waits j k ≡ true)) (sym c.deref.ensures.value) c.in_ok-waits.ensures.pairs in
    let graph = c.in_ok-standing.standing.waits.items in
    let is : graph ≡ filter (λ (pair : ℕ × ℕ). not (ended pair.0 pair.1)) c.deref.result.now = c.in_ok-standing.ensures.waits_are ∙ c.in_ok-pairs_beyond.ensures in
    let same = subst (λ (ws : List (ℕ × ℕ)). Same (λ j k. WaitsIn ws j k) (λ j k. (waits j k && not (ended j k)) ≡ true)) (sym is) (beyond_same waits ended c.deref.result.now are) in
    let found = subst (λ (o : Option (Vec ℕ Global)). IfSome o (λ ms. IsCycleIn graph c.args.process ms.items)) c.in-Some.is c.in_ok-members.ensures.cycle in
    let first = subst (λ (o : Option (Vec ℕ Global)). IfSome o (λ ms. (other : List ℕ) → IsCycleIn graph c.args.process other → ComesFirst ms.items other)) c.in-Some.is c.in_ok-members.ensures.first in
    found_first graph (λ j k. (waits j k && not (ended j k)) ≡ true) same c.args.process c.in-Some.members.items found first

pub returns-in-Some-2 : goal.returns-in-Some-2
returns-in-Some-2 c =
    let waits = has_pair c.args.stop.now.waits in
    let ended = has_pair c.args.stop.now.ended in
    let W : List (ℕ × ℕ) → Type 0 = λ ws. (j k : ℕ) → Contains ws (j, k) ↔ (waits j k ≡ true) in
    let are = subst W (sym c.deref.ensures.value) c.in_ok-waits.ensures.pairs in
    let graph = c.in_ok-standing.standing.waits.items in
    let is : graph ≡ filter (λ (pair : ℕ × ℕ). not (ended pair.0 pair.1)) c.deref.result.now = c.in_ok-standing.ensures.waits_are ∙ c.in_ok-pairs_beyond.ensures in
    let same = subst (λ (ws : List (ℕ × ℕ)). Same (λ j k. WaitsIn ws j k) (λ j k. (waits j k && not (ended j k)) ≡ true)) (sym is) (beyond_same waits ended c.deref.result.now are) in
    let none = no_cycle graph c.args.process c.in_ok-members.field-0 c.in_default.not-Some c.in_ok-members.ensures.none in
    let all = c.in_ok-graph.graph.waits.items in
    let all_same = subst W (sym c.in_ok-graph.ensures.waits_are) c.in_ok-waits.ensures.pairs in
    let found = subst (λ (o : Option (Vec ℕ Global)). IfSome o (λ ms. IsCycleIn all c.args.process ms.items)) c.in-Some-2.is c.in_ok-members-2.ensures.cycle in
    let first = subst (λ (o : Option (Vec ℕ Global)). IfSome o (λ ms. (other : List ℕ) → IsCycleIn all c.args.process other → ComesFirst ms.items other)) c.in-Some-2.is c.in_ok-members-2.ensures.first in (
      found_none graph (λ j k. (waits j k && not (ended j k)) ≡ true) same c.args.process none,
      found_first all (λ j k. waits j k ≡ true) all_same c.args.process c.in-Some-2.members.items found first,
      subst (λ (ms : List ℕ). IsLeastLeaver (λ j k. has_pair c.args.stop.now.left j k ≡ true) ms c.least_leaver-by.result) c.deref-in-Some-2.ensures.value c.least_leaver-by.ensures,
    )

pub returns : goal.returns
returns c =
    let waits = has_pair c.args.stop.now.waits in
    let W : List (ℕ × ℕ) → Type 0 = λ ws. (j k : ℕ) → Contains ws (j, k) ↔ (waits j k ≡ true) in
    let all = c.in_ok-graph.graph.waits.items in
    let all_same = subst W (sym c.in_ok-graph.ensures.waits_are) c.in_ok-waits.ensures.pairs in
    found_none all (λ j k. waits j k ≡ true) all_same c.args.process
    (subst (λ (o : Option (Vec ℕ Global)). IfNone o ((other : List ℕ) → IsCycleIn all c.args.process other → ⊥)) c.in-None.is c.in_ok-members-2.ensures.none)
