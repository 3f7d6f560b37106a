-- Segments that begin a world say together that nothing has happened.
use Rattle.std.proofs.Common.{◌≡◌, ℕ, ◌==◌, ◌&&◌, ◌-◌, not, Bool, true, false, true≢false, List, [], ◌∷◌, length, drop, if◌then◌else◌, Option, None, Some, inl, inr, refl, ap, ◌∙◌, arith}
use Rattle.std.specs.List.{list_any}
use Rattle.std.proofs.lemmas.Bool.{and_parts, cases_eq, eq-eqb, eqb-true, ne_eqb, or_parts}
use Rattle.std.proofs.lemmas.List.{drop_all}
use Rattle.cmh_epochs3.specs.Laws.{first_world}
use Rattle.cmh_frames.specs.Rows.{repeats}
use Rattle.cmh_model3.specs.State.{empty_state}
use Rattle.cmh_topology3.specs.Topology.{Topology, site_of, sites_of}
use Rattle.cmh_segment3.specs.Base.{empty_base}
use Rattle.cmh_segment3.specs.States.{state_in}
use Rattle.cmh_segment3.specs.declared.base.Base.{Base}
use Rattle.cmh_segment3.specs.declared.links.LinkState.{LinkState}
use Rattle.cmh_segment3.specs.declared.segment.Segment.{Segment}
use Rattle.cmh_audit3.specs.Set.{IsSet, begins_world, has_site, is_empty_base, is_known, is_of_world, lacks_site, sites_in}
use Rattle.cmh_history3.specs.Between.{between, got_from, acked_to, kept_for, links_of, under_way}
use Rattle.cmh_history3.specs.Worlds.{state_at, world_of}

-- ---- each segment begins the world

none_if : {X : Type 0} (b : Bool) (x : X) (o : Option X) → (if b then Some x else o) ≡ None → (b ≡ false) × (o ≡ None)
none_if true x o e = absurd (cc e)
none_if false x o e = (refl, e)

abbrev later : List Segment → Bool
later gs = list_any (λ (g : Segment). not (begins_world g)) gs

none_later : (t : Topology) (gs : List Segment) → IsSet t gs → later gs ≡ false
none_later t gs set =
    let a = none_if (list_any (λ (g : Segment). not (is_of_world t.world g)) gs) _ _ set in
    let b = none_if (list_any (λ (g : Segment). not (is_known t g)) gs) _ _ a.1 in
    let c = none_if (repeats (sites_in gs)) _ _ b.1 in
    let d = none_if (lacks_site (sites_of t) (sites_in gs)) _ _ c.1 in
    (none_if (later gs) _ None d.1).0

not_false : (b : Bool) → not b ≡ false → b ≡ true
not_false true h = refl
not_false false h = absurd (true≢false h)

is_nil : {X : Type 0} (xs : List X) → (length xs == 0) ≡ true → xs ≡ []
is_nil [] h = refl
is_nil (x ∷ xs) h = let none = eqb-true (length (x ∷ xs)) 0 h in absurd (omega (arith, none))

nothing_in : (b : Base) → is_empty_base b ≡ true → b ≡ empty_base
nothing_in b h =
    let p = and_parts (length b.waits == 0) _ h in
    let q = and_parts (length b.leaving == 0) _ p.1 in
    let r = and_parts (length b.owed == 0) _ q.1 in
    let s = and_parts (length b.dependents == 0) _ r.1 in
    let u = and_parts (length b.declared == 0) _ s.1 in
    let v = and_parts (length b.stamps == 0) (length b.links == 0) u.1 in
    let waits = is_nil b.waits p.0 in
    let leaving = is_nil b.leaving q.0 in
    let owed = is_nil b.owed r.0 in
    let dependents = is_nil b.dependents s.0 in
    let declared = is_nil b.declared u.0 in
    let stamps = is_nil b.stamps v.0 in
    let links = is_nil b.links v.1 in
    λ i. record { waits = waits i; leaving = leaving i; owed = owed i; dependents = dependents i; declared = declared i; stamps = stamps i; links = links i }

begins : (g : Segment) → not (begins_world g) ≡ false → (g.header.epoch ≡ 0) × (g.base ≡ empty_base)
begins g h =
    let both = and_parts (g.header.epoch == 0) (is_empty_base g.base) (not_false (begins_world g) h) in
    (eqb-true g.header.epoch 0 both.0, nothing_in g.base both.1)

-- ---- so nothing has happened at any site, and nothing is under way

first_state : (gs : List Segment) → later gs ≡ false → (s : ℕ) → state_at gs s ≡ empty_state
first_state [] none s = refl
first_state (g ∷ gs) none s =
    let parts = or_parts (not (begins_world g)) (later gs) none in
    let one = begins g parts.0 in
    let here : state_in g.header.epoch g.base ≡ empty_state = ap (λ e. state_in e g.base) one.0 ∙ ap (state_in 0) one.1 in
    elim (cases_eq g.header.site s) [
      | inl e ↦ ap (λ z. if z then state_in g.header.epoch g.base else state_at gs s) (eq-eqb g.header.site s e) ∙ here
      | inr n ↦ ap (λ z. if z then state_in g.header.epoch g.base else state_at gs s) (ne_eqb g.header.site s n) ∙ first_state gs parts.1 s
    ]

no_links : (gs : List Segment) → later gs ≡ false → (s : ℕ) → links_of gs s ≡ []
no_links [] none s = refl
no_links (g ∷ gs) none s =
    let parts = or_parts (not (begins_world g)) (later gs) none in
    let here : g.base.links ≡ [] = ap (λ (b : Base). b.links) (begins g parts.0).1 in
    elim (cases_eq g.header.site s) [
      | inl e ↦ ap (λ z. if z then g.base.links else links_of gs s) (eq-eqb g.header.site s e) ∙ here
      | inr n ↦ ap (λ z. if z then g.base.links else links_of gs s) (ne_eqb g.header.site s n) ∙ no_links gs parts.1 s
    ]

none_under_way : (gs : List Segment) → later gs ≡ false → (a b : ℕ) → under_way gs a b ≡ []
none_under_way gs none a b =
    let n = got_from (links_of gs b) a - acked_to (links_of gs a) b in
    ap (λ (links : List LinkState). drop n (kept_for links b)) (no_links gs none a) ∙ drop_all n [] (omega arith)

none_between : (sites : List ℕ) (gs : List Segment) → later gs ≡ false → (a b : ℕ) → between sites gs a b ≡ []
none_between sites gs none a b = by_case (has_site sites a && has_site sites b)
  where
    by_case : (c : Bool) → (if c then under_way gs a b else []) ≡ []
    by_case true = none_under_way gs none a b
    by_case false = refl

pub begins_first : (t : Topology) (gs : List Segment) → IsSet t gs → world_of t gs ≡ first_world (site_of t)
begins_first t gs set =
    let none = none_later t gs set in
    λ i. record { state = λ s. first_state gs none s i; under_way = λ a b. none_between (sites_of t) gs none a b i }
