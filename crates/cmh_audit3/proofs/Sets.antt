-- What it means that segments are those of one world.
use Rattle.std.proofs.Common.{◌≡◌, ℕ, ◌==◌, not, Bool, true, false, true≢false, if◌then◌else◌, List, [], ◌∷◌, Option, None, Some, inl, inr, refl, sym, subst}
use Rattle.std.specs.List.{list_any}
use Rattle.std.proofs.lemmas.Bool.{eqb-true, or_cases, or_parts}
use Rattle.cmh_frames.specs.Rows.{repeats}
use Rattle.cmh_topology3.specs.Topology.{Topology, is_site, sites_of}
use Rattle.cmh_segment3.specs.declared.segment.Segment.{Segment}
use Rattle.cmh_audit3.specs.declared.set.SetFault.{SetFault}
use Rattle.cmh_audit3.specs.Set.{AreOfWorld, IsSet, fault_or, has_site, is_known, is_of_world, lacks_site, sites_in}

none_if : {X : Type 0} (b : Bool) (x : X) (o : Option X) → (if b then Some x else o) ≡ None → (b ≡ false) × (o ≡ None)
none_if true x o e = absurd (cc e)
none_if false x o e = (refl, e)

not_false : (b : Bool) → not b ≡ false → b ≡ true
not_false true h = refl
not_false false h = absurd (true≢false h)

pub known_in : (t : Topology) (gs : List Segment) → list_any (λ (g : Segment). not (is_known t g)) gs ≡ false → (s : ℕ) → has_site (sites_in gs) s ≡ true → is_site t s ≡ true
known_in t [] h s there = absurd (true≢false (sym there))
known_in t (g ∷ gs) h s there =
    let parts = or_parts (not (is_known t g)) (list_any (λ (g : Segment). not (is_known t g)) gs) h in
    elim (or_cases (g.header.site == s) (has_site (sites_in gs) s) there) [
      | inl e ↦ subst (λ x. is_site t x ≡ true) (eqb-true g.header.site s e) (not_false (is_known t g) parts.0)
      | inr later ↦ known_in t gs parts.1 s later
    ]

covered_in : (sites there : List ℕ) → lacks_site sites there ≡ false → (s : ℕ) → has_site sites s ≡ true → has_site there s ≡ true
covered_in [] there h s known = absurd (true≢false (sym known))
covered_in (x ∷ sites) there h s known =
    let parts = or_parts (not (has_site there x)) (lacks_site sites there) h in
    elim (or_cases (x == s) (has_site sites s) known) [
      | inl e ↦ subst (λ q. has_site there q ≡ true) (eqb-true x s e) (not_false (has_site there x) parts.0)
      | inr later ↦ covered_in sites there parts.1 s later
    ]

-- of segments that are a set, no site is repeated, each is known, and none is missing
pub record SetParts (t : Topology) (gs : List Segment) : Type 0 where
  pub no_stranger : list_any (λ (g : Segment). not (is_known t g)) gs ≡ false
  pub once : repeats (sites_in gs) ≡ false
  pub known : (s : ℕ) → has_site (sites_in gs) s ≡ true → is_site t s ≡ true
  pub covered : (s : ℕ) → is_site t s ≡ true → has_site (sites_in gs) s ≡ true

none_parts : (t : Topology) (gs : List Segment) (other : Option SetFault) → fault_or t gs other ≡ None → SetParts t gs
none_parts t gs other none =
    let a = none_if (list_any (λ (g : Segment). not (is_of_world t.world g)) gs) _ _ none in
    let b = none_if (list_any (λ (g : Segment). not (is_known t g)) gs) _ _ a.1 in
    let c = none_if (repeats (sites_in gs)) _ _ b.1 in
    let d = none_if (lacks_site (sites_of t) (sites_in gs)) _ _ c.1 in
    record { no_stranger = b.0; once = c.0; known = known_in t gs b.0; covered = covered_in (sites_of t) (sites_in gs) d.0 }

pub set_parts : (t : Topology) (gs : List Segment) → IsSet t gs → SetParts t gs
set_parts t gs set = none_parts t gs _ set

pub world_parts : (t : Topology) (gs : List Segment) → AreOfWorld t gs → SetParts t gs
world_parts t gs of_world = none_parts t gs None of_world

same_if_both : (a b : Bool) → (a ≡ true → b ≡ true) → (b ≡ true → a ≡ true) → a ≡ b
same_if_both true b to from = sym (to refl)
same_if_both false true to from = from refl
same_if_both false false to from = refl

-- so their sites are those of the topology
pub same_sites : (t : Topology) (gs : List Segment) → IsSet t gs → (s : ℕ) → has_site (sites_in gs) s ≡ is_site t s
same_sites t gs set s = let parts = set_parts t gs set in same_if_both (has_site (sites_in gs) s) (is_site t s) (parts.known s) (parts.covered s)
