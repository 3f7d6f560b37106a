-- Where processes are, and which frames go where.
use Rattle.std.proofs.Common.{◌≡◌, ◌≢◌, ℕ, ◌+◌, Bool, true, false, List, [], ◌∷◌, ◌++◌, if◌then◌else◌, refl, sym, ap, ◌∙◌, inl, inr, true≢false, Option, None, Some, unwrap_or, arith}
use Rattle.std.proofs.lemmas.Bool.{eqb-true, eq-eqb, ne_eqb, cases_eq}
use Rattle.cmh_frames.specs.declared.frame.Frame.{Frame}
use Rattle.cmh_frames.specs.declared.event.Event.TheVariants.{Got}
use Rattle.cmh_frames.specs.Topology.{Topology, home, At, is_at, is_some_of, site_of}
use Rattle.cmh_frames.specs.State.{State}
use Rattle.cmh_frames.specs.Journals.{frame_from}
use Rattle.cmh_frames.specs.Laws.{bit, count_of}

-- a process is at its home
pub is_at-yes : (t : Topology) (p s : ℕ) → At t p s → is_at t p s ≡ true
is_at-yes t p s h = ap (λ o. is_some_of o s) h ∙ eq-eqb s s refl

-- and at no other site
pub is_at-no : (t : Topology) (p b s : ℕ) → At t p b → b ≢ s → is_at t p s ≡ false
is_at-no t p b s h n = ap (λ o. is_some_of o s) h ∙ ne_eqb b s n

-- it has one home
pub one_place : (t : Topology) (p a b : ℕ) → At t p a → At t p b → a ≡ b
one_place t p a b h g = ap (λ o. unwrap_or o 0) (sym h ∙ g)

-- which is its site
pub site_of-at : (t : Topology) (p s : ℕ) → At t p s → site_of t p ≡ s
site_of-at t p s h = ap (λ o. unwrap_or o 0) h

-- an option that passes the test
some_of_is : (o : Option ℕ) (s : ℕ) → is_some_of o s ≡ true → o ≡ Some s
some_of_is None s h = absurd (true≢false (sym h))
some_of_is (Some q) s h = ap Some (eqb-true q s h)

-- where the test says so a process is
pub at_from-is_at : (t : Topology) (p s : ℕ) → is_at t p s ≡ true → At t p s
at_from-is_at t p s h = some_of_is (home t p) s h

-- ---- the frame of an event

-- the frame that came from this site
pub frame_from-yes : (a b : ℕ) (f : Frame) → a ≡ b → frame_from b (Got a f) ≡ f ∷ []
frame_from-yes a b f e = ap (λ z. if z then f ∷ [] else []) (eq-eqb a b e)

-- none came from another
pub frame_from-no : (a b : ℕ) (f : Frame) → a ≢ b → frame_from b (Got a f) ≡ []
frame_from-no a b f n = ap (λ z. if z then f ∷ [] else []) (ne_eqb a b n)

-- ---- counts

-- the count of two lists, one after the other
pub count-append : {X : Type 0} (p : X → Bool) (xs ys : List X) → count_of p (xs ++ ys) ≡ count_of p xs + count_of p ys
count-append p [] ys = omega arith
count-append p (x ∷ xs) ys = omega (arith, count-append p xs ys)

-- a frame that does not count
pub count_one_no : (p : Frame → Bool) (a b : ℕ) (f : Frame) → p f ≡ false → count_of p (frame_from b (Got a f)) ≡ 0
count_one_no p a b f h = elim (cases_eq a b) [
  | inl e ↦ let at = ap (count_of p) (frame_from-yes a b f e) in let none = ap bit h in omega arith
  | inr n ↦ ap (count_of p) (frame_from-no a b f n)
]

-- a frame that counts
pub count_one_yes : (p : Frame → Bool) (a b : ℕ) (f : Frame) → p f ≡ true → a ≡ b → count_of p (frame_from b (Got a f)) ≡ 1
count_one_yes p a b f h e = let at = ap (count_of p) (frame_from-yes a b f e) in let one = ap bit h in omega arith

-- ---- a field of either of two states

-- the waits
pub if-waits : (c : Bool) (x y : State) → (if c then x else y).waits ≡ (if c then x.waits else y.waits)
if-waits true x y = refl
if-waits false x y = refl

-- what is owed
pub if-owed : (c : Bool) (x y : State) → (if c then x else y).owed ≡ (if c then x.owed else y.owed)
if-owed true x y = refl
if-owed false x y = refl

-- the dependents
pub if-dependents : (c : Bool) (x y : State) → (if c then x else y).dependents ≡ (if c then x.dependents else y.dependents)
if-dependents true x y = refl
if-dependents false x y = refl
