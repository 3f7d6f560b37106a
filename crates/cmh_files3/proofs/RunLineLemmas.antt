-- The lines of entries that the sites take in an order, one after the other.
use Rattle.std.proofs.Common.{◌≡◌, ℕ, ◌+◌, ◌-◌, ◌<◌, ◌==◌, Bool, List, [], ◌∷◌, ◌++◌, length, take, get_or, Option, None, Some, sym, ap, ◌∙◌, arith, append_assoc, append-nil}
use Rattle.std.specs.Prelude.{slice_get}
use Rattle.std.proofs.lemmas.List.{take_more}
use Rattle.cmh_frames.specs.Laws.{bit, count_of}
use Rattle.cmh_segment3.specs.declared.entry.Entry.{Entry}
use Rattle.cmh_files3.specs.RunLines.{entry_line, lines_after, next_line, order_text, taken_by}
use Rattle.cmh_files3.specs.Inner.Taken.{one_at, taken_at}

count_more : (p : ℕ → Bool) (xs : List ℕ) (x : ℕ) → count_of p (xs ++ x ∷ []) ≡ count_of p xs + bit (p x)
count_more p [] x = let b = bit (p x) in let same : b + 0 ≡ 0 + b = omega arith in same
count_more p (y ∷ xs) x =
    let more = count_more p xs x in
    let a = bit (p y) in
    let b = count_of p xs in
    let c = bit (p x) in
    let moved : a + (b + c) ≡ a + b + c = omega arith in
    ap (λ n. a + n) more ∙ moved

lines_more : (journals : ℕ → List Entry) (so_far order : List ℕ) (site : ℕ)
    → lines_after journals so_far (order ++ site ∷ []) ≡ lines_after journals so_far order ++ next_line journals (so_far ++ order) site
lines_more journals so_far [] site =
    append-nil (next_line journals so_far site) ∙ ap (λ l. next_line journals l site) (sym (append-nil so_far))
lines_more journals so_far (x ∷ order) site =
    ap (λ l. next_line journals so_far x ++ l)
    (lines_more journals (so_far ++ x ∷ []) order site ∙ ap (λ l. lines_after journals (so_far ++ x ∷ []) order ++ next_line journals l site) (append_assoc so_far (x ∷ []) order))
    ∙ sym (append_assoc (next_line journals so_far x) (lines_after journals (so_far ++ x ∷ []) order) (next_line journals (so_far ++ x ∷ order) site))

module _ (order : List ℕ) (i site : ℕ) (within : i < length order) (is : site ≡ get_or order i site) where
  longer : take (i + 1) order ≡ take i order ++ site ∷ []
  longer = take_more order i site within ∙ ap (λ x. take i order ++ x ∷ []) (sym is)

  -- one more entry was taken
  pub taken_more : (old new : List ℕ) → ((s : ℕ) → taken_at old s ≡ taken_by (take i order) s) → ((s : ℕ) → taken_at new s ≡ taken_at old s + one_at site s)
      → (s : ℕ) → taken_at new s ≡ taken_by (take (i + 1) order) s
  taken_more old new so_far more s =
      more s ∙ ap (λ n. n + one_at site s) (so_far s) ∙ sym (count_more (λ q. q == s) (take i order) site)
      ∙ ap (λ l. taken_by l s) (sym longer)

  -- and what the lines are with its own
  pub text_more : (journals : ℕ → List Entry) (n : ℕ) (o : Option Entry) → n ≡ taken_by (take i order) site → o ≡ slice_get (journals site) n
      → order_text journals (take i order) ++ entry_line site (n + 1) o ≡ order_text journals (take (i + 1) order)
  text_more journals n o number read =
      ap (λ p. order_text journals (take i order) ++ entry_line site (n + 1) p) read
      ∙ ap (λ m. order_text journals (take i order) ++ entry_line site (m + 1) (slice_get (journals site) m)) number
      ∙ sym (lines_more journals [] (take i order) site)
      ∙ ap (order_text journals) (sym longer)

  -- where there is such an entry
  pub line_more : (journals : ℕ → List Entry) (n number : ℕ) (e : Entry) → n ≡ taken_by (take i order) site → number ≡ n + 1 → slice_get (journals site) (number - 1) ≡ Some e
      → (old new : List ℕ) → old ≡ order_text journals (take i order) → new ≡ old ++ entry_line site number (Some e) → new ≡ order_text journals (take (i + 1) order)
  line_more journals n number e counted numbered read old new so_far written =
      let back : number - 1 ≡ n = omega (arith, numbered) in
      written ∙ ap (λ l. l ++ entry_line site number (Some e)) so_far ∙ ap (λ m. order_text journals (take i order) ++ entry_line site m (Some e)) numbered
      ∙ text_more journals n (Some e) counted (sym read ∙ ap (slice_get (journals site)) back)

  -- and where there is none
  pub line_none : (journals : ℕ → List Entry) (n number : ℕ) → n ≡ taken_by (take i order) site → number ≡ n + 1 → slice_get (journals site) (number - 1) ≡ None
      → (old : List ℕ) → old ≡ order_text journals (take i order) → old ≡ order_text journals (take (i + 1) order)
  line_none journals n number counted numbered read old so_far =
      let back : number - 1 ≡ n = omega (arith, numbered) in
      so_far ∙ sym (append-nil (order_text journals (take i order))) ∙ text_more journals n None counted (sym read ∙ ap (slice_get (journals site)) back)
