-- The world of restored segments is that of the bases that they have.
use Rattle.std.proofs.Common.{◌≡◌, ℕ, ◌==◌, List, [], ◌∷◌, if◌then◌else◌, refl, sym, ap, subst, ◌∙◌}
use Rattle.std.proofs.Math.Path.{fun_ext}
use Rattle.std.proofs.lemmas.List.Elements.{All-head, All-tail}
use Rattle.cmh_epochs3.specs.Laws.{World}
use Rattle.cmh_topology3.specs.Topology.{Topology, sites_of}
use Rattle.cmh_segment3.specs.declared.segment.Segment.{Segment}
use Rattle.cmh_segment3.specs.States.{state_in}
use Rattle.cmh_history3.specs.Between.{between, links_of}
use Rattle.cmh_history3.specs.EpochSet.{AreOfEpoch}
use Rattle.cmh_history3.specs.Turns.{Follow}
use Rattle.cmh_history3.specs.Worlds.{state_at, world_of}
use Rattle.cmh_restore3.specs.Laws.{IsOlder, IsSameWorld, restored_of}

module _ (t : Topology) (epoch : ℕ) where
  states_same : (next : List Segment) → AreOfEpoch epoch next → (s : ℕ) → state_at (restored_of t epoch next) s ≡ state_at next s
  states_same [] of_epoch s = refl
  states_same (g ∷ gs) of_epoch s =
      ap (λ e. if g.header.site == s then state_in e g.base else state_at (restored_of t epoch gs) s) (sym (All-head (λ (x : Segment). x.header.epoch ≡ epoch) g gs of_epoch))
      ∙ ap (λ v. if g.header.site == s then state_in g.header.epoch g.base else v) (states_same gs (All-tail (λ (x : Segment). x.header.epoch ≡ epoch) g gs of_epoch) s)

  links_same : (next : List Segment) (s : ℕ) → links_of (restored_of t epoch next) s ≡ links_of next s
  links_same [] s = refl
  links_same (g ∷ gs) s = ap (λ l. if g.header.site == s then g.base.links else l) (links_same gs s)

  pub between_same : (sites : List ℕ) (next : List Segment) (a b : ℕ) → between sites (restored_of t epoch next) a b ≡ between sites next a b
  between_same sites next a b = simp (links_same next a, links_same next b)

  pub state_same : (next : List Segment) → AreOfEpoch epoch next → (s : ℕ) → state_at (restored_of t epoch next) s ≡ state_at next s
  state_same = states_same

-- with the rows of the older world, and its number, all is as in the new one
module _ (t : Topology) where
  abbrev pub numbered : List ℕ → Topology
  numbered world = record { world = world; rows = t.rows }

  pub same_world : IsSameWorld t
  same_world old epoch next older of_epoch =
      let rows : t.rows ≡ old.rows = sym older.rows in
      (λ i. record {
        state = fun_ext {f = state_at (restored_of t epoch next)} {g = state_at next} (states_same t epoch next of_epoch) i;
        under_way = fun_ext {f = between (sites_of t) (restored_of t epoch next)} {g = between (sites_of t) next} (λ a. fun_ext (between_same t epoch (sites_of t) next a)) i;
      }) ∙ ap (λ r. world_of (record { world = old.world; rows = r }) next) rows

  pub follow_same : (old : Topology) (end : World) (epoch : ℕ) (next : List Segment) → IsOlder t old → AreOfEpoch epoch next → Follow old end epoch next → Follow t end epoch (restored_of t epoch next)
  follow_same old end epoch next older of_epoch f =
      let g : Follow (numbered old.world) end epoch next = subst (λ r. Follow (record { world = old.world; rows = r }) end epoch next) older.rows f in
      record {
        states = λ s known. states_same t epoch next of_epoch s ∙ g.states s known;
        others = λ s unknown. states_same t epoch next of_epoch s ∙ g.others s unknown;
        under_way = λ a b. between_same t epoch (sites_of t) next a b ∙ g.under_way a b;
        later = λ s known. g.later s known;
        fits = g.fits;
      }
