-- A site outside the topology does nothing.
use Rattle.std.proofs.Common.{◌≡◌, ℕ, suc, Bool, true, false, true≢false, if◌then◌else◌, List, [], ◌∷◌, map, Some, ◌==◌, refl, sym, ◌∙◌, arith}
use Rattle.std.specs.Prelude.{Contains}
use Rattle.std.specs.List.{list_any}
use Rattle.cmh_frames.specs.declared.frame.Frame.TheVariants.{Request, Reply as Reply_frame, Probe}
use Rattle.cmh_frames.specs.Topology.{Topology, home_in, At, sites_of, is_site}
use Rattle.cmh_frames.specs.declared.event.Event.{Event}
use Rattle.cmh_frames.specs.declared.event.Event.TheVariants.{Ask, Reply, Start, Got}
use Rattle.cmh_frames.specs.Entries.{Entry}
use Rattle.cmh_frames.specs.State.{State, empty_state}
use Rattle.cmh_frames.specs.Rules.{Accepts}
use Rattle.cmh_frames.specs.Journals.{LawfulFrom, IsLawful}
use Rattle.cmh_frames.proofs.Apart.{some_same}
use Rattle.cmh_frames.proofs.Members.{found_from}

is_home : (rows : List (ℕ × List ℕ)) (p s : ℕ) → home_in rows p ≡ Some s → Contains (map (λ (row : ℕ × List ℕ). row.0) rows) s
is_home [] p s h = absurd (cc)
is_home (row ∷ rows) p s h = go (list_any (λ q. q == p) row.1) h (λ g. is_home rows p s g)
  where
    go : (t : Bool) → (if t then Some row.0 else home_in rows p) ≡ Some s → (home_in rows p ≡ Some s → Contains (map (λ (row : ℕ × List ℕ). row.0) rows) s) → Contains (row.0 ∷ map (λ (row : ℕ × List ℕ). row.0) rows) s
    go true g more = (0, omega arith, some_same g)
    go false g more = let c = more g in (suc c.0, let l = c.1 in omega (arith, l), c.2)

-- the home of a process is a site of the topology
pub at_site : (t : Topology) (p s : ℕ) → At t p s → Contains (sites_of t) s
at_site t p s h = is_home t.rows p s h

-- and so is whoever accepts
pub accepting : (t : Topology) (s : ℕ) (v : State) (ev : Event) → Accepts t s v ev → Contains (sites_of t) s
accepting t s v (Ask asker targets) h = at_site t asker s h.0
accepting t s v (Reply holder asker) h = at_site t holder s h.0
accepting t s v (Start i) h = at_site t i s h.0
accepting t s v (Got a (Request (asker, holder))) h = at_site t holder s h.2
accepting t s v (Got a (Reply_frame (holder, asker))) h = at_site t asker s h.2
accepting t s v (Got a (Probe (origin, from, to))) h = at_site t to s h.2

pub stranger_silent : (t : Topology) (s : ℕ) (es : List Entry) → (Contains (sites_of t) s → ⊥) → LawfulFrom t s empty_state es → es ≡ []
stranger_silent t s [] no_site lawful = refl
stranger_silent t s (e ∷ es) no_site lawful = absurd (no_site (accepting t s empty_state e.event lawful.0))

pub strangers_silent : (t : Topology) (s : ℕ) (journal : List Entry) → is_site t s ≡ false → IsLawful t s journal → journal ≡ []
strangers_silent t s journal stranger lawful = stranger_silent t s journal (λ c. true≢false (sym (found_from (sites_of t) s c) ∙ stranger)) lawful
