-- What the auditor's parts ask of one another.
use Rattle.std.proofs.Common.{◌≡◌, ℕ, ◌+◌, ◌*◌, ◌<◌, ◌≤◌, ◌^◌, List, [], length, sym, ap, ◌∙◌, arith, mul-le-mul_left}
use Rattle.std.specs.Prelude.{Contains}
use Rattle.std.proofs.lemmas.List.Elements.{recursion_from_All}
use Rattle.cmh_frames.specs.Topology.{Topology, sites_of}
use Rattle.cmh_journal.specs.Journal.{Journal}
use Rattle.cmh_audit.specs.Journals.{journal_of}
use Rattle.cmh_audit.specs.Inner.Merging.{taken_of, IsStuck}
use Rattle.cmh_audit.specs.Set.{IsSet}
use Rattle.cmh_audit.proofs.SetLemmas.{set_parts}
use Rattle.cmh_audit.specs.Stops.{before_stop}
use Rattle.cmh_audit.specs.Inner.FoundStops.{stops_at}
use Rattle.cmh_audit.proofs.CountingLemmas.{few_journals}
use Rattle.cmh_audit.proofs.StopLemmas.{before_is}

-- there are no more journals than sites
pub set_few : (t : Topology) (js : List Journal) (sites : List ℕ) → sites ≡ sites_of t → length sites ≤ 64 → IsSet t js → length js ≤ 64
set_few t js sites is few set =
    let l = few_journals js (sites_of t) (set_parts t js set).once (recursion_from_All (λ (j : Journal). Contains (sites_of t) j.site) js (set_parts t js set).known) in
    let e = ap length is in
    omega (arith, l, e, few)

-- so the tries can be counted
pub tries_fit : (entries n : ℕ) → entries ≤ n * 1000000 → n ≤ 64 → (entries + 1) * n < 2 ^ 64
tries_fit entries n limited few = let m = mul-le-mul_left (entries + 1) few in omega (arith, m, limited, few)

-- without a stop all entries were taken
pub all_taken : (t : Topology) (js : List Journal) (counts : List ℕ) → IsSet t js → IsStuck t js counts → stops_at (sites_of t) js counts ≡ [] → (s : ℕ) → journal_of js s ≡ taken_of js counts s
all_taken t js counts set stuck none s = ap (λ rows. before_stop rows s (journal_of js s)) (sym none) ∙ before_is t js counts set stuck s
