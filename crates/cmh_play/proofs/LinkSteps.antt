-- What becomes of the links where one is cut.
use Rattle.std.proofs.Common.{◌≡◌, ℕ, Bool, cond, ◌&&◌, ◌==◌, true, false, List, [], Option, None, Some, refl, sym, ap, ◌∙◌, nat_cmp, Ordering}
use Rattle.std.proofs.lemmas.Bool.{eqb-true, eq-eqb}
use Rattle.std.specs.Prelude.{if◌then◌else◌}
use Rattle.std.specs.List.{list_any}
use Rattle.std.specs.Ordering.{ordering_then, is_eq}
use Rattle.std.specs.Cmp.{both_tied, unsigned_tied}
use Rattle.cmh_frames.specs.declared.frame.Frame.{Frame}
use Rattle.cmh_world.specs.Links as world
use Rattle.cmh_play.specs.declared.links.Ends.{Ends}
use Rattle.cmh_play.specs.Links.{Links, goes, link_of, ChangesLink}

abbrev pub ends_cmp : Ends → Ends → Ordering
ends_cmp x y = ordering_then (nat_cmp x.from y.from) (nat_cmp x.to y.to)

pub is_eq-ends_cmp : (x y : Ends) → is_eq (ends_cmp x y) ≡ goes x.from x.to y
is_eq-ends_cmp x y =
    sym (both_tied (x.from == y.from) (x.to == y.to) (nat_cmp x.from y.from) (nat_cmp x.to y.to) (sym (unsigned_tied x.from y.from)) (sym (unsigned_tied x.to y.to)))

abbrev pub ends_of : ℕ → ℕ → Ends
ends_of a b = record { from = a; to = b }

-- whether the link is among those that are cut
pub among : (cut : List Ends) (a b : ℕ) → list_any (λ y. is_eq (ends_cmp (ends_of a b) y)) cut ≡ list_any (goes a b) cut
among cut a b = ap (λ (test : Ends → Bool). list_any test cut) (λ i y. is_eq-ends_cmp (ends_of a b) y i)

-- ---- one link changes

-- one is as said, and the others as they were
pub change : (old new : Links) (a b : ℕ) (link : Option (List Frame)) → link_of new a b ≡ link
    → ((c d : ℕ) → ((a == c) && (b == d)) ≡ false → link_of new c d ≡ link_of old c d) → ChangesLink old new a b link
change old new a b link here others c d = go (a == c) (b == d) (λ e. eqb-true a c e) (λ e. eqb-true b d e) (others c d)
  where
    go : (s t : Bool) → (s ≡ true → a ≡ c) → (t ≡ true → b ≡ d) → ((s && t) ≡ false → link_of new c d ≡ link_of old c d) → link_of new c d ≡ (if s && t then link else link_of old c d)
    go true true f g other = sym (λ i. link_of new (f refl i) (g refl i)) ∙ here
    go true false f g other = other refl
    go false t f g other = other refl

module _ (cut : List Ends) (old : world.Links) (a b : ℕ) where
  itself : ((a == a) && (b == b)) ≡ true
  itself = λ i. eq-eqb a a refl i && eq-eqb b b refl i

  -- the link was cut
  pub cut_off : (later : List Ends) (new : world.Links) → ((q : Ends) → list_any (goes q.from q.to) later ≡ cond (goes a b q) true (list_any (goes q.from q.to) cut))
      → ((c d : ℕ) → world.waiting new c d ≡ world.without_at a b (world.waiting old c d) c d)
      → ChangesLink (old, cut) (new, later) a b None
  cut_off later new cuts cleared = change (old, cut) (new, later) a b None
      (ap (λ t. if t then None else Some (world.waiting new a b)) (cuts (ends_of a b) ∙ ap (λ t. cond t true (list_any (goes a b) cut)) itself))
      (λ c d other.
      ap (λ t. if t then None else Some (world.waiting new c d)) (cuts (ends_of c d) ∙ ap (λ t. cond t true (list_any (goes c d) cut)) other)
      ∙ ap (λ fs. if list_any (goes c d) cut then None else Some fs) (cleared c d ∙ ap (λ t. if t then [] else world.waiting old c d) other))
