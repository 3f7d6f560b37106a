-- Which segment of a journal stands for an epoch.
use Rattle.std.proofs.Common.{◌≡◌, ℕ, zero, suc, ◌<◌, ◌≤◌, ◌==◌, Bool, true, false, not, List, [], ◌∷◌, Option, None, Some, if◌then◌else◌, refl, sym, ap, subst, ◌∙◌, arith}
use Rattle.std.specs.Prelude.{Contains}
use Rattle.std.specs.Bool.{nat_eq, nat_lt}
use Rattle.std.specs.Cmp.Lexicographic.{pointwise}
use Rattle.std.proofs.lemmas.Bool.{eqb-true}
use Rattle.cmh_topology3.specs.Topology.{Topology}
use Rattle.cmh_segment3.specs.declared.segment.Segment.{Segment}
use Rattle.cmh_history3.specs.Epochs.{standing, without_entries}
use Rattle.cmh_history3.specs.Journals.{IsJournal, fault_behind, fault_between, or_else}
use Rattle.cmh_history3.specs.declared.check.JournalFault.{JournalFault}
use Rattle.cmh_history3.specs.declared.check.JournalFault.TheVariants.{OtherSite, OtherWorld, NotLater, Gap}
use Rattle.cmh_restore3.specs.Restored.{StandsFor, restored}
use Rattle.cmh_restore3.specs.Laws.{OneStands, from_epoch, head_of, restored_of}

-- ---- what follows one another

lt_true : (a b : ℕ) → nat_lt a b ≡ true → a < b
lt_true a b e = grind (arith, e)

lt_holds : (a b : ℕ) → a < b → nat_lt a b ≡ true
lt_holds a b h = grind (arith, h)

lt_fails : (a b : ℕ) → b ≤ a → nat_lt a b ≡ false
lt_fails a b h = grind (arith, h)

-- neither of two has a fault
no_fault : (one other : Option JournalFault) → or_else one other ≡ None → (one ≡ None) × (other ≡ None)
no_fault None other e = (refl, e)
no_fault (Some fault) other e = absurd (cc e)

-- the tests of a pair of segments
passed : (same_site same_world later : Bool) (gap : Bool) (e : ℕ)
    → (if not same_site then Some (OtherSite e) else (if not same_world then Some (OtherWorld e) else (if not later then Some (NotLater e) else (if not gap then Some (Gap e) else None)))) ≡ None
    → (later ≡ true) × (gap ≡ true)
passed true true true true e none = (refl, refl)
passed true true true false e none = absurd (cc none)
passed true true false gap e none = absurd (cc none)
passed true false later gap e none = absurd (cc none)
passed false same_world later gap e none = absurd (cc none)

follows : (x y : Segment) → fault_between x y ≡ None → (x.header.epoch < y.header.epoch) × (y.header.before ≡ x.header.epoch)
follows x y none =
    let both = passed (y.header.site == x.header.site) (pointwise nat_eq y.header.world x.header.world) (nat_lt x.header.epoch y.header.epoch) (y.header.before == x.header.epoch) y.header.epoch none in
    (lt_true x.header.epoch y.header.epoch both.0, eqb-true y.header.before x.header.epoch both.1)

-- ---- the one that stands for an epoch

module _ (t : Topology) (epoch : ℕ) (g : Segment) (stands : StandsFor epoch (head_of g)) where
  -- what is made where it stands is what is made of the segment
  abbrev made : List Segment → Type 0
  made journal = restored_of t epoch (standing epoch (from_epoch epoch journal)) ≡ restored t epoch (head_of g) ∷ []

  as_it_is : (b : Bool) (x : Segment) → restored t epoch (head_of (if b then x else without_entries epoch x)) ≡ restored t epoch (head_of x)
  as_it_is true x = refl
  as_it_is false x = refl

  here : (x : Segment) (xs : List Segment) → x ≡ g → made (x ∷ xs)
  here x xs is =
      let reached : epoch ≤ x.header.epoch = subst (λ (z : Segment). epoch ≤ z.header.epoch) (sym is) stands.reached in
      ap (λ b. restored_of t epoch (standing epoch (if b then from_epoch epoch xs else x ∷ xs))) (lt_fails x.header.epoch epoch reached)
      ∙ ap (λ z. z ∷ []) (as_it_is (x.header.epoch == epoch) x)
      ∙ ap (λ (z : Segment). restored t epoch (head_of z) ∷ []) is

  past : (x : Segment) (xs : List Segment) → x.header.epoch < epoch → made xs → made (x ∷ xs)
  past x xs below later =
      ap (λ b. restored_of t epoch (standing epoch (if b then from_epoch epoch xs else x ∷ xs))) (lt_holds x.header.epoch epoch below) ∙ later

  -- where it stands behind a segment, that one is of an earlier epoch
  behind : (x : Segment) (xs : List Segment) → fault_behind x xs ≡ None → Contains xs g → (x.header.epoch < epoch) × made xs
  behind x [] none (k, inside, is) = absurd (omega (arith, inside))
  behind x (y ∷ ys) none (zero, inside, is) =
      let parts = no_fault (fault_between x y) (fault_behind y ys) none in
      let next = follows x y parts.0 in
      let before : y.header.before < epoch = subst (λ (z : Segment). z.header.before < epoch) (sym is) stands.before in
      (subst (λ n. n < epoch) next.1 before, here y ys is)
  behind x (y ∷ ys) none (suc k, inside, is) =
      let parts = no_fault (fault_between x y) (fault_behind y ys) none in
      let next = follows x y parts.0 in
      let later = behind y ys parts.1 (k, omega (arith, inside), is) in
      let one : y.header.epoch < epoch = later.0 in
      let two : x.header.epoch < y.header.epoch = next.0 in
      (omega arith, past y ys one later.1)

  begun : (b : Bool) (x : Segment) (xs : List Segment) (other : Option JournalFault) → (if b then fault_behind x xs else other) ≡ None → b ≡ true → fault_behind x xs ≡ None
  begun true x xs other none is = none
  begun false x xs other none is = absurd (cc is)

  in_journal : (journal : List Segment) → IsJournal journal → Contains journal g → made journal
  in_journal [] none there = absurd (cc none)
  in_journal (x ∷ xs) none (zero, inside, is) = here x xs is
  in_journal (x ∷ xs) none (suc k, inside, is) =
      let both = behind x xs (first_ok (x.header.epoch == 0) none) (k, omega (arith, inside), is) in
      past x xs both.0 both.1
    where
      first_ok : (b : Bool) → (if b then fault_behind x xs else Some Rattle.cmh_history3.specs.declared.check.JournalFault.TheVariants.NoFirst) ≡ None → fault_behind x xs ≡ None
      first_ok true e = e
      first_ok false e = absurd (cc e)

pub one_stands : (t : Topology) → OneStands t
one_stands t epoch journal g is there stands = in_journal t epoch g stands journal is there
