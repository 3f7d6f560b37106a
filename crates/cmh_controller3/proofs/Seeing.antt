-- What a site sees by what it finds along its waits.
use Rattle.std.proofs.Common.{◌≡◌, ◌≢◌, ℕ, false, not, List, ◌++◌, map, Contains, refl}
use Rattle.std.proofs.lemmas.Bool.{and_parts}
use Rattle.cmh_model3.specs.declared.frame.Message.{Message}
use Rattle.cmh_model3.specs.Lists.{in_list, is_before}
use Rattle.cmh_model3.specs.State.{State}
use Rattle.cmh_model3.specs.Rules.{probe_along}
use Rattle.cmh_topology3.specs.Topology.{Topology, site_of}
use Rattle.cmh_waits3.specs.Findings.{AreEdges}
use Rattle.cmh_waits3.specs.Held.{AreWaitsOf, Held, state_of, waits_of}
use Rattle.cmh_controller3.specs.Inner.Looks.{AreOfSite, Sees}

-- the waits of a site are those of a state with nothing else
pub waits_alone : (t : Topology) (s : ℕ) (held : Held) → AreOfSite t s held → AreWaitsOf (site_of t) s (state_of held) held
waits_alone t s held of_site = record { members = of_site.members; waits = refl; since = refl }

-- along them probes go to known processes
pub edge_known : (t : Topology) (s : ℕ) (held : Held) (n i p : ℕ) (edges : List (ℕ × ℕ)) → AreOfSite t s held → AreEdges (site_of t) s (state_of held) n i p edges
    → (edge : ℕ × ℕ) → Contains edges edge → site_of t edge.1 ≢ 0
edge_known t s held n i p edges of_site are edge in_them =
    let counted = ((are.all edge).0 in_them).1 in
    of_site.known edge.0 edge.1 (and_parts (in_list (waits_of held edge.0) edge.1) (not (is_before n i ((state_of held).since edge.0 edge.1) edge.0)) counted).0

-- no deadlock, and probes along these waits
pub sees_none : (home : ℕ → ℕ) (s : ℕ) (v : State) (D : Type 0) (c i n p : ℕ) (before sent : List (ℕ × Message)) (edges : List (ℕ × ℕ)) → (D → ⊥) → AreEdges home s v n i p edges
    → sent ≡ before ++ map (probe_along home c i n) edges → Sees home s v D c i n p before false sent
sees_none home s v D c i n p before sent edges none are is =
    (none, map (probe_along home c i n) edges, is, record { edges = edges; ascending = are.ascending; all = are.all; are = refl })
