-- Segments beside the limits of what is lawful of them, and read by site.
use Rattle.std.proofs.Common.{◌≡◌, ℕ, zero, suc, ◌+◌, ◌<◌, ◌==◌, Bool, true, false, List, [], ◌∷◌, ◌++◌, length, take, drop, set, map, get_or, if◌then◌else◌, inl, inr, refl, sym, ap, ◌∙◌, subst, arith, length-append, length-set}
use Rattle.std.specs.Prelude.{slice_index_or}
use Rattle.std.proofs.lemmas.Bool.{cases_eq, eq-eqb, ne_eqb, or_left, or_parts, or_right, true≢false}
use Rattle.std.proofs.lemmas.List.{drop-set-lt, drop_more, map-append, take_more, take_more_set}
use Rattle.std.proofs.lemmas.Slice.Zip.{all_zipped_more}
use Rattle.cmh_frames.specs.Rows.{repeats}
use Rattle.cmh_merge.specs.Merges.{AreDistinct}
use Rattle.cmh_merge.specs.Merges as merge
use Rattle.cmh_merge.specs.Walks.{lefts_of, sites_of}
use Rattle.cmh_merge.specs.declared.walk.SiteWalk.{SiteWalk}
use Rattle.cmh_controller3.specs.Controller.{Controller, state_of}
use Rattle.cmh_model3.specs.State.{State}
use Rattle.cmh_topology3.specs.Topology.{Topology}
use Rattle.cmh_segment3.specs.declared.entry.Entry.{Entry}
use Rattle.cmh_segment3.specs.declared.segment.Segment.{Segment}
use Rattle.cmh_segment3.specs.Entries.{step_of}
use Rattle.cmh_audit3.specs.Journals.{journal_of}
use Rattle.cmh_audit3.specs.Set.{has_site, sites_in}
use Rattle.cmh_audit3.specs.Standing.{StandIn}
use Rattle.cmh_audit3.specs.Inner.Lawful.{AreLawfulLengths, IsLawfulLength, StandIfLawful, StandsIfLawful}
use Rattle.cmh_audit3.specs.Inner.Survey.{limit_at, steps_within}

-- ---- one more

pub lengths_more : (t : Topology) (states : ℕ → State) (gs : List Segment) (ns : List ℕ) (g : Segment) (n : ℕ) → AreLawfulLengths t states gs ns → IsLawfulLength t g.header.site (states g.header.site) g.entries n
    → AreLawfulLengths t states (gs ++ g ∷ []) (ns ++ n ∷ [])
lengths_more t states [] [] g n all last = (last, tt)
lengths_more t states [] (m ∷ ns) g n all last = absurd all
lengths_more t states (x ∷ gs) [] g n all last = absurd all
lengths_more t states (x ∷ gs) (m ∷ ns) g n all last = (all.0, lengths_more t states gs ns g n all.1 last)

pub as_many : (t : Topology) (states : ℕ → State) (gs : List Segment) (ns : List ℕ) → AreLawfulLengths t states gs ns → length ns ≡ length gs
as_many t states [] [] all = refl
as_many t states [] (m ∷ ns) all = absurd all
as_many t states (x ∷ gs) [] all = absurd all
as_many t states (x ∷ gs) (m ∷ ns) all = ap suc (as_many t states gs ns all.1)

within_more : (gs : List Segment) (ns : List ℕ) (g : Segment) (n : ℕ) → length ns ≡ length gs → steps_within (gs ++ g ∷ []) (ns ++ n ∷ []) ≡ steps_within gs ns ++ map step_of (take n g.entries) ∷ []
within_more [] [] g n same = refl
within_more [] (m ∷ ns) g n same = absurd (omega (arith, same))
within_more (x ∷ gs) [] g n same = absurd (omega (arith, same))
within_more (x ∷ gs) (m ∷ ns) g n same = ap (λ l. map step_of (take m x.entries) ∷ l) (within_more gs ns g n (let e : suc (length ns) ≡ suc (length gs) = same in omega (arith, e)))

-- Of the first segments the limits are known, and their controllers stand behind the entries; the others stand as they began.
pub record Half (t : Topology) (states : ℕ → State) (segments : List Segment) (i : ℕ) (limits : List ℕ) (controllers : List Controller) : Type 0 where
  pub lengths : AreLawfulLengths t states (take i segments) limits
  pub stand : StandIfLawful t states (take i segments) (take i controllers)
  pub rest : StandIn t states (drop i segments) (drop i controllers)

-- the walks of the first segments, and all controllers
pub record Surveying (segments : List Segment) (begun : List Controller) (i : ℕ) (limits : List ℕ) (walks : List (SiteWalk (List Entry))) (controllers : List Controller) : Type 0 where
  pub many : length limits ≡ length (take i segments)
  pub long : length controllers ≡ length segments
  pub sites : sites_of walks ≡ sites_in (take i segments)
  pub lefts : lefts_of (λ (w : List Entry). map step_of w) walks ≡ steps_within (take i segments) limits
  pub lawful : (t : Topology) (states : ℕ → State) → StandIn t states segments begun → Half t states segments i limits controllers

pub survey_first : (segments : List Segment) (begun : List Controller) (limits : List ℕ) (walks : List (SiteWalk (List Entry))) → length begun ≡ length segments → limits ≡ [] → walks ≡ [] → Surveying segments begun 0 limits walks begun
survey_first segments begun limits walks long no_limits no_walks =
    subst (λ ns. Surveying segments begun 0 ns walks begun) (sym no_limits)
    (subst (λ ws. Surveying segments begun 0 [] ws begun) (sym no_walks)
    (record { many = refl; long = long; sites = refl; lefts = refl; lawful = λ t states stand. record { lengths = tt; stand = tt; rest = stand } }))

module _ (segments : List Segment) (begun : List Controller) (i : ℕ) (limits : List ℕ) (walks : List (SiteWalk (List Entry))) (controllers : List Controller) (g : Segment) (n : ℕ) (entries : List Entry) (old new : Controller)
    (so_far : Surveying segments begun i limits walks controllers) (l : i < length segments) (is : g ≡ get_or segments i g) (old_is : old ≡ get_or controllers i old)
    (lawful : IsLawfulLength old.topology old.site (state_of old) g.entries n) (front : entries ≡ take n g.entries) (stands : StandsIfLawful old.topology old.site (state_of old) g.entries new) where
  within : i < length controllers
  within = let same = so_far.long in omega (arith, l, same)

  next : take (i + 1) segments ≡ take i segments ++ g ∷ []
  next = take_more segments i g l ∙ ap (λ y. take i segments ++ y ∷ []) (sym is)

  next_controllers : take (i + 1) (set controllers i new) ≡ take i controllers ++ new ∷ []
  next_controllers = take_more_set controllers i new within

  pub more_many : length (limits ++ n ∷ []) ≡ length (take (i + 1) segments)
  more_many =
      let sum = length-append limits (n ∷ []) in
      let same = so_far.many in
      let all = ap length next in
      let parts = length-append (take i segments) (g ∷ []) in
      omega (arith, sum, same, all, parts)

  half_more : (t : Topology) (states : ℕ → State) → Half t states segments i limits controllers → Half t states segments (i + 1) (limits ++ n ∷ []) (set controllers i new)
  half_more t states half =
      let s = g.header.site in
      let rest : StandIn t states (g ∷ drop (i + 1) segments) (old ∷ drop (i + 1) controllers) =
      subst (λ gs. StandIn t states gs (old ∷ drop (i + 1) controllers)) (drop_more segments i g l ∙ ap (λ x. x ∷ drop (i + 1) segments) (sym is))
      (subst (λ cs. StandIn t states (drop i segments) cs) (drop_more controllers i old within ∙ ap (λ x. x ∷ drop (i + 1) controllers) (sym old_is)) half.rest) in
      let at = rest.0 in
      let here : (P : Topology → ℕ → State → Type 0) → P old.topology old.site (state_of old) → P t s (states s) =
      λ P p. subst (λ w. P t s w) at.state (subst (λ x. P t x (state_of old)) at.site (subst (λ u. P u old.site (state_of old)) at.topology p)) in
      record {
        lengths = subst (λ gs. AreLawfulLengths t states gs (limits ++ n ∷ [])) (sym next) (lengths_more t states (take i segments) limits g n half.lengths (here (λ u x w. IsLawfulLength u x w g.entries n) lawful));
        stand = subst (λ gs. StandIfLawful t states gs (take (i + 1) (set controllers i new))) (sym next)
            (subst (λ cs. StandIfLawful t states (take i segments ++ g ∷ []) cs) (sym next_controllers)
            (all_zipped_more (λ (x : Segment) (k : Controller). StandsIfLawful t x.header.site (states x.header.site) x.entries k) (take i segments) (take i controllers) g new half.stand
            (here (λ u x w. StandsIfLawful u x w g.entries new) stands)));
        rest = subst (λ cs. StandIn t states (drop (i + 1) segments) cs) (sym (drop-set-lt (i + 1) controllers i new (omega arith))) rest.1;
      }

  pub survey_more : Surveying segments begun (i + 1) (limits ++ n ∷ []) (walks ++ record { site = g.header.site; walk = entries } ∷ []) (set controllers i new)
  survey_more =
      let w : SiteWalk (List Entry) = record { site = g.header.site; walk = entries } in
      record {
        many = more_many;
        long = length-set controllers i new ∙ so_far.long;
        sites =
            map-append (λ (x : SiteWalk (List Entry)). x.site) walks (w ∷ []) ∙ ap (λ l. l ++ g.header.site ∷ []) so_far.sites
            ∙ sym (map-append (λ (x : Segment). x.header.site) (take i segments) (g ∷ [])) ∙ ap sites_in (sym next);
        lefts =
            map-append (λ (x : SiteWalk (List Entry)). map step_of x.walk) walks (w ∷ []) ∙ ap (λ l. l ++ map step_of entries ∷ []) so_far.lefts
            ∙ ap (λ es. steps_within (take i segments) limits ++ map step_of es ∷ []) front
            ∙ sym (within_more (take i segments) limits g n so_far.many) ∙ ap (λ gs. steps_within gs (limits ++ n ∷ [])) (sym next);
        lawful = λ t states stand. half_more t states (so_far.lawful t states stand);
      }

-- ---- by site

-- of a site there are the steps of its first entries
pub journal_at : (gs : List Segment) (ns : List ℕ) (s : ℕ) → length ns ≡ length gs → merge.journal_of (sites_in gs) (steps_within gs ns) s ≡ map step_of (take (limit_at gs ns s) (journal_of gs s))
journal_at [] [] s same = refl
journal_at [] (n ∷ ns) s same = absurd (omega (arith, same))
journal_at (g ∷ gs) [] s same = absurd (omega (arith, same))
journal_at (g ∷ gs) (n ∷ ns) s same = go (g.header.site == s) (journal_at gs ns s (let e : suc (length ns) ≡ suc (length gs) = same in omega (arith, e)))
  where
    go : (z : Bool) → merge.journal_of (sites_in gs) (steps_within gs ns) s ≡ map step_of (take (limit_at gs ns s) (journal_of gs s))
        → (if z then map step_of (take n g.entries) else merge.journal_of (sites_in gs) (steps_within gs ns) s) ≡ map step_of (take (if z then n else limit_at gs ns s) (if z then g.entries else journal_of gs s))
    go true later = refl
    go false later = later

pub limits_at : (t : Topology) (states : ℕ → State) (gs : List Segment) (ns : List ℕ) → AreLawfulLengths t states gs ns → (s : ℕ) → IsLawfulLength t s (states s) (journal_of gs s) (limit_at gs ns s)
limits_at t states [] [] all s = record { within = omega arith; lawful = record { steps = tt; stamps = refl }; stops = λ more lawful. absurd (omega (arith, more)) }
limits_at t states [] (n ∷ ns) all s = absurd all
limits_at t states (g ∷ gs) [] all s = absurd all
limits_at t states (g ∷ gs) (n ∷ ns) all s = elim (cases_eq g.header.site s) [
  | inl e ↦ subst (λ z. IsLawfulLength t s (states s) (if z then g.entries else journal_of gs s) (if z then n else limit_at gs ns s)) (sym (eq-eqb g.header.site s e)) (subst (λ x. IsLawfulLength t x (states x) g.entries n) e all.0)
  | inr e ↦ subst (λ z. IsLawfulLength t s (states s) (if z then g.entries else journal_of gs s) (if z then n else limit_at gs ns s)) (sym (ne_eqb g.header.site s e)) (limits_at t states gs ns all.1 s)
]

-- what is no site of a segment has no entries
pub none_there : (gs : List Segment) (s : ℕ) → has_site (sites_in gs) s ≡ false → journal_of gs s ≡ []
none_there [] s h = refl
none_there (g ∷ gs) s h =
    let parts = or_parts (g.header.site == s) (has_site (sites_in gs) s) h in
    ap (λ z. if z then g.entries else journal_of gs s) parts.0 ∙ none_there gs s parts.1

-- ---- sites that are not repeated are distinct

in_at : (xs : List ℕ) (k : ℕ) → k < length xs → has_site xs (slice_index_or xs k 0) ≡ true
in_at [] k l = absurd (omega (arith, l))
in_at (x ∷ xs) zero l = or_left (x == x) (has_site xs x) (eq-eqb x x refl)
in_at (x ∷ xs) (suc k) l = or_right (x == slice_index_or xs k 0) (has_site xs (slice_index_or xs k 0)) (in_at xs k (omega (arith, l)))

pub not_repeated : (xs : List ℕ) → repeats xs ≡ false → AreDistinct xs
not_repeated [] h j k l m e = absurd (omega (arith, l))
not_repeated (x ∷ xs) h zero zero l m e = refl
not_repeated (x ∷ xs) h zero (suc k) l m e =
    let parts = or_parts (has_site xs x) (repeats xs) h in
    absurd (true≢false (sym (in_at xs k (omega (arith, m))) ∙ ap (has_site xs) (sym e) ∙ parts.0))
not_repeated (x ∷ xs) h (suc j) zero l m e =
    let parts = or_parts (has_site xs x) (repeats xs) h in
    absurd (true≢false (sym (in_at xs j (omega (arith, l))) ∙ ap (has_site xs) e ∙ parts.0))
not_repeated (x ∷ xs) h (suc j) (suc k) l m e =
    ap suc (not_repeated xs (or_parts (has_site xs x) (repeats xs) h).1 j k (omega (arith, l)) (omega (arith, m)) e)
