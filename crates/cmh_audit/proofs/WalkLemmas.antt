-- What is left of each journal after the entries that were taken.
use Rattle.std.proofs.Common.{◌≡◌, ◌≢◌, ℕ, zero, suc, ◌+◌, ◌<◌, ◌≤◌, List, [], ◌∷◌, length, drop, set, replicate, get_or, ⊎_elim, sym, ap, subst, refl, ◌∙◌, arith, length-set}
use Rattle.std.proofs.lemmas.Bool.{cases_eq}
use Rattle.std.proofs.lemmas.List.{get_or_read, get_or_default, get_or-set_same, get_or-set_other, get_or-replicate}
use Rattle.cmh_frames.specs.Entries.{Entry}
use Rattle.cmh_journal.specs.Journal.{Journal}
use Rattle.cmh_audit.specs.Inner.Merging.{AreLeftAt, entries_each}

-- the entry stands after the first n of the journal, and these after it
pub record IsFirst (j : Journal) (n : ℕ) (e : Entry) (rest : List Entry) : Type 0 where
  pub room : n < length j.entries
  pub is : e ≡ get_or j.entries n e
  pub behind : rest ≡ drop (n + 1) j.entries

-- ---- what is left of one list

none_behind : (es : List Entry) (n : ℕ) → drop n es ≡ [] → length es ≤ n
none_behind [] n none = omega arith
none_behind (x ∷ es) zero none = let h : x ∷ es ≡ [] = none in absurd (cc)
none_behind (x ∷ es) (suc n) none = let h = none_behind es n none in omega (arith, h)

some_behind : (es : List Entry) (n : ℕ) (e : Entry) (rest : List Entry) → drop n es ≡ e ∷ rest → (n < length es) × (e ≡ get_or es n e) × (rest ≡ drop (suc n) es)
some_behind [] zero e rest is = let h : [] ≡ e ∷ rest = is in absurd (cc)
some_behind [] (suc n) e rest is = let h : [] ≡ e ∷ rest = is in absurd (cc)
some_behind (x ∷ es) zero e rest is = let h : x ∷ es ≡ e ∷ rest = is in (omega arith, cc, cc)
some_behind (x ∷ es) (suc n) e rest is = let h = some_behind es n e rest is in let l = h.0 in (omega (arith, l), h.1, h.2)

-- ---- of each journal

each_length : (js : List Journal) → length (entries_each js) ≡ length js
each_length [] = refl
each_length (x ∷ js) = ap suc (each_length js)

each_at : (js : List Journal) (k : ℕ) (j : Journal) → k < length js → j ≡ get_or js k j → get_or (entries_each js) k [] ≡ j.entries
each_at [] k j l here = absurd (omega arith)
each_at (x ∷ js) zero j l here = ap (λ (y : Journal). y.entries) (sym here)
each_at (x ∷ js) (suc k) j l here = each_at js k j (omega arith) here

-- nothing was taken
pub left_start : (js : List Journal) (walks : List (List Entry)) → walks ≡ entries_each js → AreLeftAt js (replicate (length js) 0) walks
left_start js walks is = record {
  one_each = ap length is ∙ each_length js;
  left = λ k j l here. ap (λ ws. get_or ws k []) is ∙ each_at js k j l here ∙ ap (λ n. drop n j.entries) (sym (get_or-replicate (length js) k 0 0 l));
}

-- what is left of the journal at a place
module _ (js : List Journal) (counts : List ℕ) (walks : List (List Entry)) (i at : ℕ) (j : Journal) (w : List Entry) (a : AreLeftAt js counts walks) (l : i < length js) (here : j ≡ get_or js i j) (same : at ≡ get_or counts i 0) (walk : w ≡ get_or walks i w) where
  left_here : w ≡ drop at j.entries
  left_here =
      get_or_read walks i w (subst (λ n. i < n) (sym a.one_each) l) walk []
      ∙ a.left i j l here ∙ ap (λ n. drop n j.entries) (sym same)

  pub none_left : w ≡ [] → length j.entries ≤ at
  none_left none = none_behind j.entries at (sym left_here ∙ none)

  pub first_left : (e : Entry) (rest : List Entry) → w ≡ e ∷ rest → IsFirst j at e rest
  first_left e rest is =
      let h = some_behind j.entries at e rest (sym left_here ∙ is) in
      let more : suc at ≡ at + 1 = omega arith in
      record { room = h.0; is = h.1; behind = h.2 ∙ ap (λ n. drop n j.entries) more }

  -- its first was taken
  pub left_took : (e : Entry) (rest : List Entry) → length counts ≡ length js → IsFirst j at e rest → AreLeftAt js (set counts i (at + 1)) (set walks i rest)
  left_took e rest each is = record {
    one_each = length-set walks i rest ∙ a.one_each;
    left = λ k x lk there. ⊎_elim
        (λ (q : k ≡ i).
        let P : ℕ → Type 0 = λ n. get_or (set walks i rest) n [] ≡ drop (get_or (set counts i (at + 1)) n 0) x.entries in
        let journal : j ≡ x = here ∙ ap (λ n. get_or js n j) (sym q) ∙ get_or_default js k j x lk ∙ sym there in
        subst P (sym q)
        (get_or-set_same walks i rest [] (subst (λ n. i < n) (sym a.one_each) l) ∙ is.behind
        ∙ ap (λ (y : Journal). drop (at + 1) y.entries) journal
        ∙ ap (λ n. drop n x.entries) (sym (get_or-set_same counts i (at + 1) 0 (subst (λ n. i < n) (sym each) l)))))
        (λ (ne : k ≢ i). get_or-set_other walks i k rest [] ne ∙ a.left k x lk there ∙ ap (λ n. drop n x.entries) (sym (get_or-set_other counts i k (at + 1) 0 ne)))
        (cases_eq k i);
  }

-- ---- an entry is read at a place, and then taken there

module _ (walks : List (List Entry)) (i : ℕ) (v w : List Entry) (l : i < length walks) (now : v ≡ get_or walks i v) (read : w ≡ get_or walks i w) (e : Entry) (is : w ≡ e ∷ drop 1 w) where
  same_left : v ≡ w
  same_left = get_or_read walks i v l now [] ∙ sym (get_or_read walks i w l read [])

  pub some_left : v ≡ [] → ⊥
  some_left none = let h : [] ≡ e ∷ drop 1 w = sym none ∙ same_left ∙ is in absurd (cc)

  pub behind_it : (rest : List Entry) → rest ≡ drop 1 v → drop 1 w ≡ rest
  behind_it rest drops = ap (λ (es : List Entry). drop 1 es) (sym same_left) ∙ sym drops
