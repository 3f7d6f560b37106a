-- What an ask adds, and what takes it back.
use Rattle.std.proofs.Common.{◌≡◌, ℕ, Bool, true, false, not, ◌&&◌, ◌||◌, List, [], ◌∷◌, ◌==◌, cond, refl, sym, ap, ◌∙◌, subst, inl, inr, true≢false}
use Rattle.std.specs.List.{list_any}
use Rattle.std.proofs.Math.Bool.{and-false, and-true, or_assoc}
use Rattle.std.proofs.lemmas.Bool.{eqb-true, eq-eqb, ne_eqb, and_parts, cases_Bool, cases_eq}
use Rattle.cmh_frames.specs.Relation.{Relation, has, has_some, only_firsts, with_pair, with_each, without_pair}
use Rattle.cmh_frames.specs.Rules.{owed_after_ask}
use Rattle.cmh_frames.proofs.Pairs.{has-none, has-only, has-with, has-with_each_other, has-without, same_relation}
use Rattle.cmh_waits.specs.Held.{Held, IsMember, OwesOnlyWhoWait, asked, before_ask, is_member, owed_before_ask}

-- ---- the parts of what is held

pub same_held : (members : List ℕ) (w w' o o' : Relation) → w ≡ w' → o ≡ o' → ◌≡◌ {A = Held} (record { members = members; waits = w; owed = o }) (record { members = members; waits = w'; owed = o' })
same_held members w w' o o' e f = λ i. record { members = members; waits = e i; owed = f i }

-- ---- what an ask adds and takes back, pair by pair

-- y asked, and x is one of the targets that are at the site
abbrev pub owes_since : (ℕ → Bool) → ℕ → List ℕ → ℕ → ℕ → Bool
owes_since is_here asker ks x y = (y == asker) && (is_here x && list_any (λ q. q == x) ks)

-- without a target
no_target : (a h : Bool) → (a && (h && false)) ≡ false
no_target true true = refl
no_target true false = refl
no_target false h = refl

-- with one more target, which is x or isn't
that_target : (a h t more : Bool) → t ≡ true → (a && (h && (t || more))) ≡ ((h && (t && a)) || (a && (h && more)))
that_target true true true more e = refl
that_target true false true more e = refl
that_target false true true more e = refl
that_target false false true more e = refl
that_target a h false more e = absurd (true≢false (sym e))

other_target : (a h k s t more : Bool) → s ≡ false → t ≡ false → (a && (h && (s || more))) ≡ ((k && (t && a)) || (a && (h && more)))
other_target a h k true t more e f = absurd (true≢false e)
other_target a h k false true more e f = absurd (true≢false f)
other_target a h true false false more e f = refl
other_target a h false false false more e f = refl

one_target : (is_here : ℕ → Bool) (asker k x y : ℕ) (more : Bool) → ((y == asker) && (is_here x && ((k == x) || more))) ≡ ((is_here k && ((x == k) && (y == asker))) || ((y == asker) && (is_here x && more)))
one_target is_here asker k x y more = elim (cases_eq k x) [
  | inl e ↦ subst (λ z. ((y == asker) && (is_here z && ((k == z) || more))) ≡ ((is_here k && ((z == k) && (y == asker))) || ((y == asker) && (is_here z && more)))) e (that_target (y == asker) (is_here k) (k == k) more (eq-eqb k k refl))
  | inr n ↦ other_target (y == asker) (is_here x) (is_here k) (k == x) (x == k) more (ne_eqb k x n) (ne_eqb x k (λ e. n (sym e)))
]

-- with a pair, or as it is
has-if_with : (b : Bool) (r : Relation) (k asker x y : ℕ) → has (cond b (with_pair r k asker) r) x y ≡ ((b && ((x == k) && (y == asker))) || has r x y)
has-if_with true r k asker x y = has-with r k asker x y
has-if_with false r k asker x y = refl

has-if_without : (b : Bool) (r : Relation) (k asker x y : ℕ) → has (cond b (without_pair r k asker) r) x y ≡ (not (b && ((x == k) && (y == asker))) && has r x y)
has-if_without true r k asker x y = has-without r k asker x y
has-if_without false r k asker x y = refl

-- what is owed after an ask
pub has-after_ask : (is_here : ℕ → Bool) (r : Relation) (asker : ℕ) (ks : List ℕ) (x y : ℕ) → has (owed_after_ask is_here r asker ks) x y ≡ (owes_since is_here asker ks x y || has r x y)
has-after_ask is_here r asker [] x y = sym (ap (λ b. b || has r x y) (no_target (y == asker) (is_here x)))
has-after_ask is_here r asker (k ∷ ks) x y =
    let added = is_here k && ((x == k) && (y == asker)) in
    has-if_with (is_here k) (owed_after_ask is_here r asker ks) k asker x y
    ∙ ap (λ b. added || b) (has-after_ask is_here r asker ks x y)
    ∙ sym (or_assoc added (owes_since is_here asker ks x y) (has r x y))
    ∙ ap (λ b. b || has r x y) (sym (one_target is_here asker k x y (list_any (λ q. q == x) ks)))

neither : (a b h : Bool) → (not a && (not b && h)) ≡ (not (a || b) && h)
neither true b h = refl
neither false b h = refl

-- what was owed before it
pub has-before_ask : (is_here : ℕ → Bool) (r : Relation) (asker : ℕ) (ks : List ℕ) (x y : ℕ) → has (owed_before_ask is_here r asker ks) x y ≡ (not (owes_since is_here asker ks x y) && has r x y)
has-before_ask is_here r asker [] x y = sym (ap (λ b. not b && has r x y) (no_target (y == asker) (is_here x)))
has-before_ask is_here r asker (k ∷ ks) x y =
    let added = is_here k && ((x == k) && (y == asker)) in
    has-if_without (is_here k) (owed_before_ask is_here r asker ks) k asker x y
    ∙ ap (λ b. not added && b) (has-before_ask is_here r asker ks x y)
    ∙ neither added (owes_since is_here asker ks x y) (has r x y)
    ∙ ap (λ b. not b && has r x y) (sym (one_target is_here asker k x y (list_any (λ q. q == x) ks)))

-- ---- an ask that is taken back

-- an active process has no waits but those of its ask
pub waits_undone : (w : Relation) (j : ℕ) (ks : List ℕ) → has_some w j ≡ false → only_firsts (with_each w j ks) (λ p. not (p == j)) ≡ w
waits_undone w j ks active = same_relation _ _ (λ x y. has-only (with_each w j ks) (λ p. not (p == j)) x y ∙ elim (cases_eq x j) [
  | inl e ↦ ap (λ b. has (with_each w j ks) x y && not b) (eq-eqb x j e) ∙ and-false (has (with_each w j ks) x y) ∙ sym (ap (λ z. has w z y) e ∙ has-none w j y active)
  | inr n ↦ ap (λ b. has (with_each w j ks) x y && not b) (ne_eqb x j n) ∙ and-true (has (with_each w j ks) x y) ∙ has-with_each_other w j ks x y n
])

undo : (c h : Bool) → (c ≡ true → h ≡ false) → (not c && (c || h)) ≡ h
undo true h none = sym (none refl)
undo false h none = refl

-- no member owes an active member a reply
owes_no_active : (v : Held) (j x y : ℕ) (ks : List ℕ) → OwesOnlyWhoWait v → IsMember v j → has_some v.waits j ≡ false → owes_since (is_member v) j ks x y ≡ true → has v.owed x y ≡ false
owes_no_active v j x y ks waiting member active since =
    let parts = and_parts (y == j) (is_member v x && list_any (λ q. q == x) ks) since in
    let here = and_parts (is_member v x) (list_any (λ q. q == x) ks) parts.1 in
    let asks : y ≡ j = eqb-true y j parts.0 in
    elim (cases_Bool (has v.owed x j)) [
      | inl e ↦ absurd (true≢false (sym (waiting j x member here.0 e) ∙ has-none v.waits j x active))
      | inr e ↦ ap (has v.owed x) asks ∙ e
    ]

owed_undone : (v : Held) (j : ℕ) (ks : List ℕ) → OwesOnlyWhoWait v → IsMember v j → has_some v.waits j ≡ false → owed_before_ask (is_member v) (owed_after_ask (is_member v) v.owed j ks) j ks ≡ v.owed
owed_undone v j ks waiting member active = same_relation _ _ (λ x y.
    has-before_ask (is_member v) (owed_after_ask (is_member v) v.owed j ks) j ks x y
    ∙ ap (λ b. not (owes_since (is_member v) j ks x y) && b) (has-after_ask (is_member v) v.owed j ks x y)
    ∙ undo (owes_since (is_member v) j ks x y) (has v.owed x y) (owes_no_active v j x y ks waiting member active))

pub undone : (v new : Held) (j : ℕ) (ks : List ℕ) → OwesOnlyWhoWait v → IsMember v j → has_some v.waits j ≡ false → new ≡ asked v j ks → before_ask new j ks ≡ v
undone v new j ks waiting member active is = ap (λ h. before_ask h j ks) is ∙ same_held v.members _ _ _ _ (waits_undone v.waits j ks active) (owed_undone v j ks waiting member active)
