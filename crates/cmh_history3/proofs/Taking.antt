-- Epochs that are taken out of journals, one after the other.
use Rattle.std.proofs.Common.{◌≡◌, ℕ, ◌+◌, ◌<◌, ◌≤◌, ◌==◌, Bool, true, false, true≢false, List, [], ◌∷◌, ◌++◌, length, map, take, drop, get_or, min, if◌then◌else◌, None, Some, inl, inr, refl, sym, ap, ◌∙◌, subst, append-nil, arith}
use Rattle.std.specs.Prelude.{flat_map, slice_set}
use Rattle.std.proofs.Math.Nat.{min-le_right}
use Rattle.std.specs.List.{All, list_any}
use Rattle.std.proofs.lemmas.Bool.{eqb-true, or_cases}
use Rattle.std.proofs.lemmas.Grind.{flat_map-append}
use Rattle.std.proofs.lemmas.List.{drop-set-lt, drop_more, length-set, map-append, take_more, take_more_set}
use Rattle.cmh_segment3.specs.declared.segment.Segment.{Segment}
use Rattle.cmh_history3.specs.Epochs.{AreClosed, AreEpochs, IsClosed, IsNotBefore, begins, behind, left_behind, next_epoch, open_in, standing, standing_in}
use Rattle.cmh_history3.specs.Inner.Taking.{NoneClosed}

-- ---- lists

-- one more of a list
pub map_more : {X Y : Type 0} (f : X → Y) (xs : List X) (i : ℕ) (d : X) → i < length xs → map f (take (i + 1) xs) ≡ map f (take i xs) ++ f (get_or xs i d) ∷ []
map_more f xs i d l = ap (map f) (take_more xs i d l) ∙ map-append f (take i xs) (get_or xs i d ∷ [])

pub flat_more : {X Y : Type 0} (f : X → List Y) (xs : List X) (i : ℕ) (d : X) → i < length xs → flat_map f (take (i + 1) xs) ≡ flat_map f (take i xs) ++ f (get_or xs i d)
flat_more f xs i d l =
    ap (flat_map f) (take_more xs i d l) ∙ flat_map-append f (take i xs) (get_or xs i d ∷ [])
    ∙ ap (λ ys. flat_map f (take i xs) ++ ys) (append-nil (f (get_or xs i d)))

pub all_lower : {X : Type 0} (P Q : X → Type 0) (xs : List X) → ((x : X) → P x → Q x) → All P xs → All Q xs
all_lower P Q xs f all k d l = f (get_or xs k d) (all k d l)

pub same_at : {X : Type 0} (xs ys : List X) (i : ℕ) (d : X) → i < length xs → i < length ys → drop i xs ≡ drop i ys → (get_or xs i d ≡ get_or ys i d) × (drop (i + 1) xs ≡ drop (i + 1) ys)
same_at xs ys i d lx ly e =
    let both : get_or xs i d ∷ drop (i + 1) xs ≡ get_or ys i d ∷ drop (i + 1) ys = sym (drop_more xs i d lx) ∙ e ∙ drop_more ys i d ly in
    (cc both, cc both)

-- ---- journals, one by one

-- what is taken out of one more
module _ (taken : List Segment → List Segment) (old js : List (List Segment)) (i : ℕ) (item new : List Segment) (inside : i < length old) (count : length js ≡ length old) (item_is : item ≡ get_or js i item)
    (left : drop i js ≡ drop i old) where
  inside_js : i < length js
  inside_js = omega (arith, inside, count)

  pub item_of : item ≡ get_or old i item
  item_of = item_is ∙ (same_at js old i item inside_js inside left).0

  pub left_more : drop (i + 1) (slice_set js i new) ≡ drop (i + 1) old
  left_more = drop-set-lt (i + 1) js i new (omega arith) ∙ (same_at js old i item inside_js inside left).1

  pub count_more : length (slice_set js i new) ≡ length old
  count_more = length-set js i new ∙ count

  pub done_more : (f : List Segment → List Segment) → take i js ≡ map f (take i old) → new ≡ f item → take (i + 1) (slice_set js i new) ≡ map f (take (i + 1) old)
  done_more f done new_is =
      take_more_set js i new inside_js ∙ ap (λ l. l ++ new ∷ []) done ∙ ap (λ x. map f (take i old) ++ x ∷ []) (new_is ∙ ap f item_of)
      ∙ sym (map_more f old i item inside)

  pub taken_more : (segments more : List Segment) → segments ≡ flat_map taken (take i old) → more ≡ segments ++ taken item → more ≡ flat_map taken (take (i + 1) old)
  taken_more segments more so_far more_is =
      more_is ∙ ap (λ l. l ++ taken item) so_far ∙ ap (λ x. flat_map taken (take i old) ++ taken x) item_of
      ∙ sym (flat_more taken old i item inside)

-- ---- one journal

pub lower : (a b : ℕ) → a ≤ b → (journal : List Segment) → IsNotBefore b journal → IsNotBefore a journal
lower a b h [] before = tt
lower a b h (g ∷ gs) before = omega (arith, h, before)

pub begins_first : (journal : List Segment) (epoch n : ℕ) → next_epoch journal ≡ Some n → begins epoch journal ≡ true → n ≡ epoch
begins_first [] epoch n e h = absurd (cc e)
begins_first (g ∷ gs) epoch n e h = let same : g.header.epoch ≡ n = cc e in sym same ∙ eqb-true g.header.epoch epoch h

pub begins_none : (journal : List Segment) (epoch : ℕ) → next_epoch journal ≡ None → begins epoch journal ≡ true → ⊥
begins_none [] epoch e h = true≢false (sym h)
begins_none (g ∷ gs) epoch e h = absurd (cc e)

pub lowered : (a b : ℕ) (journal : List Segment) → next_epoch journal ≡ Some b → IsNotBefore (min a b) journal
lowered a b [] e = tt
lowered a b (g ∷ gs) e = let same : g.header.epoch ≡ b = cc e in let less = min-le_right a b in omega (arith, same, less)

pub none_before : (a : ℕ) (journal : List Segment) → next_epoch journal ≡ None → IsNotBefore a journal
none_before a [] e = tt
none_before a (g ∷ gs) e = absurd (cc e)

-- ---- how many segments are left

abbrev pub total : List (List Segment) → ℕ
total [] = 0
total (journal ∷ journals) = length journal + total journals

no_longer : (epoch : ℕ) (journal : List Segment) → length (behind epoch journal) ≤ length journal
no_longer epoch [] = omega arith
no_longer epoch (g ∷ gs) = by_case (g.header.epoch == epoch)
  where
    by_case : (b : Bool) → length (if b then gs else g ∷ gs) ≤ length (g ∷ gs)
    by_case true = omega arith
    by_case false = omega arith

shorter : (epoch : ℕ) (journal : List Segment) → begins epoch journal ≡ true → length (behind epoch journal) < length journal
shorter epoch [] h = absurd (true≢false (sym h))
shorter epoch (g ∷ gs) h = let same = ap (λ b. length (if b then gs else g ∷ gs)) h in omega (arith, same)

no_more : (epoch : ℕ) (journals : List (List Segment)) → total (map (behind epoch) journals) ≤ total journals
no_more epoch [] = omega arith
no_more epoch (journal ∷ journals) = let one = no_longer epoch journal in let others = no_more epoch journals in omega (arith, one, others)

pub fewer : (epoch : ℕ) (journals : List (List Segment)) → list_any (begins epoch) journals ≡ true → total (map (behind epoch) journals) < total journals
fewer epoch [] h = absurd (true≢false (sym h))
fewer epoch (journal ∷ journals) h = elim (or_cases (begins epoch journal) (list_any (begins epoch) journals) h) [
  | inl here ↦ let one = shorter epoch journal here in let others = no_more epoch journals in omega (arith, one, others)
  | inr later ↦ let one = no_longer epoch journal in let others = fewer epoch journals later in omega (arith, one, others)
]

-- ---- epochs

-- the epochs that were taken so far
pub record SoFar (journals epochs left : List (List Segment)) : Type 0 where
  pub closed : List ℕ
  pub are_closed : AreClosed closed journals
  pub left_is : left ≡ left_behind closed journals
  pub epochs_are : epochs ≡ standing_in closed journals

pub none_so_far : (journals : List (List Segment)) → SoFar journals [] journals
none_so_far journals = record { closed = []; are_closed = tt; left_is = refl; epochs_are = refl }

closed_snoc : (es : List ℕ) (e : ℕ) (js : List (List Segment)) → AreClosed es js → All (IsClosed e) (left_behind es js) → AreClosed (es ++ e ∷ []) js
closed_snoc [] e js closed all = (all, tt)
closed_snoc (x ∷ es) e js closed all = (closed.0, closed_snoc es e (map (behind x) js) closed.1 all)

left_snoc : (es : List ℕ) (e : ℕ) (js : List (List Segment)) → left_behind (es ++ e ∷ []) js ≡ map (behind e) (left_behind es js)
left_snoc [] e js = refl
left_snoc (x ∷ es) e js = left_snoc es e (map (behind x) js)

standing_snoc : (es : List ℕ) (e : ℕ) (js : List (List Segment)) → standing_in (es ++ e ∷ []) js ≡ standing_in es js ++ flat_map (standing e) (left_behind es js) ∷ []
standing_snoc [] e js = refl
standing_snoc (x ∷ es) e js = ap (λ l. flat_map (standing x) js ∷ l) (standing_snoc es e (map (behind x) js))

-- one more is taken
pub one_more : (journals epochs left new : List (List Segment)) (epoch : ℕ) (row : List Segment) → SoFar journals epochs left → All (IsClosed epoch) left
    → row ≡ flat_map (standing epoch) left → new ≡ map (behind epoch) left → SoFar journals (epochs ++ row ∷ []) new
one_more journals epochs left new epoch row so_far all row_is new_is = record {
  closed = so_far.closed ++ epoch ∷ [];
  are_closed = closed_snoc so_far.closed epoch journals so_far.are_closed (subst (All (IsClosed epoch)) so_far.left_is all);
  left_is = new_is ∙ ap (map (behind epoch)) so_far.left_is ∙ sym (left_snoc so_far.closed epoch journals);
  epochs_are =
      ap (λ l. l ++ row ∷ []) so_far.epochs_are
      ∙ ap (λ r. standing_in so_far.closed journals ++ r ∷ []) (row_is ∙ ap (flat_map (standing epoch)) so_far.left_is)
      ∙ sym (standing_snoc so_far.closed epoch journals);
}

-- and the open one
pub are_epochs : (journals epochs left : List (List Segment)) (last : ℕ) (row : List Segment) → SoFar journals epochs left → NoneClosed left → All (IsNotBefore last) left
    → row ≡ flat_map (open_in last) left → AreEpochs journals (epochs ++ row ∷ [])
are_epochs journals epochs left last row so_far none next row_is = record {
  closed = so_far.closed;
  last = last;
  are_closed = so_far.are_closed;
  is_open = subst NoneClosed so_far.left_is none;
  is_next = subst (All (IsNotBefore last)) so_far.left_is next;
  epochs_are =
      ap (λ l. l ++ row ∷ []) so_far.epochs_are
      ∙ ap (λ r. standing_in so_far.closed journals ++ r ∷ []) (row_is ∙ ap (flat_map (open_in last)) so_far.left_is);
}
