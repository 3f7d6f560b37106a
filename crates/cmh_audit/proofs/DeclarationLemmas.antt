-- What the journals declare is what a run from which they come declares.
use Rattle.std.proofs.Common.{◌≡◌, ℕ, zero, suc, ◌+◌, ◌<◌, ◌==◌, ◌||◌, ◌↔◌, ◌⊎◌, inl, inr, ⊎_elim, Bool, true, false, true≢false, cond, List, [], ◌∷◌, Option, Some, None, sym, ap, refl, ◌∙◌, arith, lt_irrefl}
use Rattle.std.specs.Prelude.{Contains}
use Rattle.std.specs.List.{list_any}
use Rattle.std.specs.Ordering.{nat_cmp}
use Rattle.std.specs.BTreeSet.{BTreeSet, contains}
use Rattle.std.specs.BTreeMap.{is_at}
use Rattle.std.proofs.lemmas.Bool.{eq-eqb, eqb-true}
use Rattle.std.proofs.lemmas.Cmp.{nat_cmp_total}
use Rattle.std.proofs.lemmas.Map.Lookups.{exact_unsigned}
use Rattle.std.proofs.lemmas.Map.Views.{btree_set_contains_iff}
use Rattle.cmh_frames.specs.Topology.{is_some_of}
use Rattle.cmh_frames.specs.declared.event.Event.TheVariants.{Start}
use Rattle.cmh_frames.specs.Entries.{Entry, WorldEvent}
use Rattle.cmh_frames.specs.Laws.{bit}
use Rattle.cmh_frames.specs.Runs.{ComesFrom}
use Rattle.cmh_frames.specs.Waits.{IsDeclared}
use Rattle.cmh_journal.specs.Journal.{Journal}
use Rattle.cmh_audit.specs.Journals.{journal_of}
use Rattle.cmh_audit.specs.Inner.Places.{OneEach}
use Rattle.cmh_audit.specs.Sums.{in_journals}
use Rattle.cmh_audit.specs.Inner.AllSums.{in_run}
use Rattle.cmh_audit.specs.Declarations.{declares, HasMore}
use Rattle.cmh_audit.specs.Inner.Declarations.{is_positive, Adds}
use Rattle.cmh_audit.proofs.PairLemmas.{is_eq-nat_cmp}
use Rattle.cmh_audit.proofs.Sums.{in_run-in_journals}

positive-plus : (m n : ℕ) → is_positive (m + n) ≡ (is_positive m || is_positive n)
positive-plus zero n = ap (is_positive) (zero_left n)
  where
    zero_left : (n : ℕ) → zero + n ≡ n
    zero_left n = omega arith
positive-plus (suc m) n = ap (is_positive) (suc_left m n)
  where
    suc_left : (m n : ℕ) → suc m + n ≡ suc (m + n)
    suc_left m n = omega arith

or_assoc : (a b c : Bool) → ((a || b) || c) ≡ (a || (b || c))
or_assoc true b c = refl
or_assoc false b c = refl

-- two steps
pub adds_more : (a b c : BTreeSet ℕ) (f g h : ℕ → ℕ) → Adds a b f → Adds b c g → ((i : ℕ) → h i ≡ f i + g i) → Adds a c h
adds_more a b c f g h p q e i =
    q i ∙ ap (λ x. x || is_positive (g i)) (p i) ∙ or_assoc (contains nat_cmp a i) (is_positive (f i)) (is_positive (g i))
    ∙ ap (λ x. contains nat_cmp a i || x) (sym (positive-plus (f i) (g i)) ∙ ap (is_positive) (sym (e i)))

pub adds_one : (old new : BTreeSet ℕ) (e : Entry) (p : ℕ) → e.declared ≡ Some p → ((q : ℕ) → contains nat_cmp new q ≡ cond (is_at (nat_cmp p) q) true (contains nat_cmp old q)) → Adds old new (λ i. declares i e)
adds_one old new e p is sets i =
    sets i ∙ ap (λ t. cond t true (contains nat_cmp old i)) (is_eq-nat_cmp p i) ∙ go (p == i) (contains nat_cmp old i)
    ∙ sym (ap (λ o. contains nat_cmp old i || is_positive (bit (is_some_of o i))) is)
  where
    go : (t b : Bool) → cond t true b ≡ (b || is_positive (bit t))
    go true true = refl
    go true false = refl
    go false true = refl
    go false false = refl

-- a run declares i where some entry of it does
declared_counted : (i : ℕ) (run : List WorldEvent) → IsDeclared run i → 0 < in_run (declares i) run
declared_counted i (e ∷ run) h = ⊎_elim
    (λ d. let one = ap (λ o. bit (is_some_of o i)) d ∙ ap bit (eq-eqb i i refl) in omega (arith, one))
    (λ more. let l = declared_counted i run more in omega (arith, l))
    h
declared_counted i [] h = absurd h

some_is : (o : Option ℕ) (i : ℕ) → 0 < bit (is_some_of o i) → o ≡ Some i
some_is None i h = absurd (lt_irrefl 0 h)
some_is (Some q) i h = go (q == i) refl h
  where
    go : (t : Bool) → (q == i) ≡ t → 0 < bit t → Some q ≡ Some i
    go true e l = ap (λ n. Some n) (eqb-true q i e)
    go false e l = absurd (lt_irrefl 0 l)

counted_declared : (i : ℕ) (run : List WorldEvent) → 0 < in_run (declares i) run → IsDeclared run i
counted_declared i [] h = absurd (lt_irrefl 0 h)
counted_declared i (e ∷ run) h = go (is_some_of e.entry.declared i) refl (counted_declared i run)
  where
    go : (t : Bool) → is_some_of e.entry.declared i ≡ t → (0 < in_run (declares i) run → IsDeclared run i) → IsDeclared (e ∷ run) i
    go true d more = inl (some_is e.entry.declared i (let b = ap bit d in omega (arith, b)))
    go false d more = inr (more (let b = ap bit d in omega (arith, b, h)))

pub declared_at_end : (js : List Journal) (run : List WorldEvent) → OneEach js → ComesFrom (journal_of js) run → (i : ℕ) → (0 < in_journals (declares i) js) ↔ IsDeclared run i
declared_at_end js run one come i =
    let same = in_run-in_journals (declares i) (declares i) js run one come (λ site. refl) in
    (λ h. counted_declared i run (omega (arith, h, same)), λ d. let h = declared_counted i run d in omega (arith, h, same))

-- ---- the members of the set

pub member_iff : (set : BTreeSet ℕ) (i : ℕ) → Contains set.keys i ↔ (contains nat_cmp set i ≡ true)
member_iff set i = let both = btree_set_contains_iff nat_cmp_total exact_unsigned set i in (λ c. both.1 c, λ h. both.0 h)

pub no_members : (set : BTreeSet ℕ) → set.keys ≡ [] → (i : ℕ) → contains nat_cmp set i ≡ false
no_members set h i = ap (λ ks. list_any (is_at (nat_cmp i)) ks) h

pub positive_iff : (n : ℕ) → (is_positive n ≡ true) ↔ (0 < n)
positive_iff zero = (λ h. absurd (true≢false (sym h)), λ l. absurd (lt_irrefl 0 l))
positive_iff (suc n) = (λ h. omega arith, λ l. refl)

-- what was added to the empty set
pub added_iff : (first last : BTreeSet ℕ) (f : ℕ → ℕ) → first.keys ≡ [] → Adds first last f → (i : ℕ) → Contains last.keys i ↔ (0 < f i)
added_iff first last f empty adds i =
    let is : contains nat_cmp last i ≡ is_positive (f i) = adds i ∙ ap (λ b. b || is_positive (f i)) (no_members first empty i) in
    (λ c. (positive_iff (f i)).0 (sym is ∙ (member_iff last i).0 c), λ h. (member_iff last i).1 (is ∙ (positive_iff (f i)).1 h))

-- the list of the members has what was added
pub members_more : (old new : BTreeSet ℕ) (f : ℕ → ℕ) → Adds old new f → HasMore old.keys new.keys f
members_more old new f adds i = (
  λ c. ⊎_elim (λ h. inl ((member_iff old i).1 h)) (λ h. inr ((positive_iff (f i)).0 h)) (or_cases (contains nat_cmp old i) (is_positive (f i)) (sym (adds i) ∙ (member_iff new i).0 c)),
  λ h. (member_iff new i).1 (adds i ∙ ⊎_elim
      (λ c. ap (λ b. b || is_positive (f i)) ((member_iff old i).0 c))
      (λ l. ap (λ b. contains nat_cmp old i || b) ((positive_iff (f i)).1 l) ∙ or_true (contains nat_cmp old i))
      h),
)
  where
    or_cases : (a b : Bool) → (a || b) ≡ true → (a ≡ true) ⊎ (b ≡ true)
    or_cases true b h = inl refl
    or_cases false b h = inr h

    or_true : (a : Bool) → (a || true) ≡ true
    or_true true = refl
    or_true false = refl

pub more_one : (old new : BTreeSet ℕ) (o : Option ℕ) (p : ℕ) → o ≡ Some p → ((q : ℕ) → contains nat_cmp new q ≡ cond (is_at (nat_cmp p) q) true (contains nat_cmp old q)) → HasMore old.keys new.keys (λ i. bit (is_some_of o i))
more_one old new o p is sets = members_more old new (λ i. bit (is_some_of o i)) (adds_one old new (record { event = Start 0; sent = []; declared = o }) p is sets)

pub more_none : (keys : List ℕ) (o : Option ℕ) → o ≡ None → HasMore keys keys (λ i. bit (is_some_of o i))
more_none keys o is i = (
  λ c. inl c,
  λ h. ⊎_elim (λ c. c) (λ l. absurd (let z = ap (λ o. bit (is_some_of o i)) is in omega (arith, l, z))) h,
)
