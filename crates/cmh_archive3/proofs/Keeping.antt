-- How records are kept, segment by segment and journal by journal.
use Rattle.std.proofs.Common.{◌≡◌, ℕ, suc, ◌+◌, ◌-◌, ◌<◌, ◌≤◌, arith, List, [], ◌∷◌, ◌++◌, length, take, map, get_or, refl, sym, ap, subst, ◌∙◌}
use Rattle.std.proofs.lemmas.List.{get_or_default, length-map, map-append, take_more}
use Rattle.std.specs.List.{take-map}
use Rattle.cmh_archive3.specs.Recording.{KeepsEach, KeepsJournal, KeepsOne, last_epoch}
use Rattle.cmh_archive3.specs.declared.summary.Summary.{Summary}

pub last_is : (segments : List Summary) (x : Summary) → 1 ≤ length segments → x ≡ get_or segments (length segments - 1) x → x.header.epoch ≡ last_epoch segments
last_is [] x some is = absurd (omega (arith, some))
last_is (s ∷ []) x some is = ap (λ (y : Summary). y.header.epoch) is
last_is (s ∷ t ∷ later) x some is =
    let step : length (s ∷ t ∷ later) - 1 ≡ suc (length (t ∷ later) - 1) = omega arith in
    last_is (t ∷ later) x (omega arith) (is ∙ ap (λ (n : ℕ). get_or (s ∷ t ∷ later) n x) step)

module _ {K : Type 0} (Keeps : K → List ℕ → ℕ → List ℕ → K → Type 0) (newest folder : List ℕ) where
  more : (segments : List Summary) (s : Summary) (old mid new : K) → KeepsJournal Keeps newest folder segments old mid
      → KeepsOne Keeps newest folder s mid new → KeepsJournal Keeps newest folder (segments ++ s ∷ []) old new
  more [] s old mid new same kept = (new, subst (λ (k : K). KeepsOne Keeps newest folder s k new) same kept, refl)
  more (x ∷ segments) s old mid new so_far kept = (so_far.0, so_far.1, more segments s so_far.0 mid new so_far.2 kept)

  pub keeps_more : (segments : List Summary) (i : ℕ) (s : Summary) (old mid new : K) → i < length segments → s ≡ get_or segments i s
      → KeepsJournal Keeps newest folder (take i segments) old mid → KeepsOne Keeps newest folder s mid new
      → KeepsJournal Keeps newest folder (take (i + 1) segments) old new
  keeps_more segments i s old mid new inside is so_far kept =
      subst (λ (ss : List Summary). KeepsJournal Keeps newest folder ss old new) (sym (take_more segments i s inside ∙ ap (λ y. take i segments ++ y ∷ []) (sym is)))
      (more (take i segments) s old mid new so_far kept)

module _ {K : Type 0} (Keeps : K → List ℕ → ℕ → List ℕ → K → Type 0) (newest : List ℕ) where
  each : (paths : List (List ℕ)) (journals : List (List Summary)) (path : List ℕ) (journal : List Summary) (old mid new : K)
      → KeepsEach Keeps newest paths journals old mid → KeepsJournal Keeps newest path journal mid new
      → KeepsEach Keeps newest (paths ++ path ∷ []) (journals ++ journal ∷ []) old new
  each [] [] path journal old mid new same kept = (new, subst (λ (k : K). KeepsJournal Keeps newest path journal k new) same kept, refl)
  each [] (j ∷ js) path journal old mid new none kept = absurd none
  each (p ∷ ps) [] path journal old mid new none kept = absurd none
  each (p ∷ ps) (j ∷ js) path journal old mid new so_far kept =
      (so_far.0, so_far.1, each ps js path journal so_far.0 mid new so_far.2 kept)

  pub each_more : {P J : Type 0} (text : P → List ℕ) (items : J → List Summary) (paths : List P) (journals : List J) (i : ℕ) (folder : List ℕ) (journal : J)
      (opened : List Summary) (old mid new : K)
      → i < length paths → i < length journals → get_or (map text paths) i [] ≡ folder → journal ≡ get_or journals i journal → opened ≡ items journal
      → KeepsEach Keeps newest (map text (take i paths)) (map items (take i journals)) old mid
      → KeepsJournal Keeps newest folder opened mid new
      → KeepsEach Keeps newest (map text (take (i + 1) paths)) (map items (take (i + 1) journals)) old new
  each_more text items paths journals i folder journal opened old mid new in_paths in_journals folder_is journal_is opened_is so_far kept =
      let count = length-map paths text in
      let inside : i < length (map text paths) = omega (arith, count, in_paths) in
      let last : get_or (map text paths) i folder ≡ folder = get_or_default (map text paths) i folder [] inside ∙ folder_is in
      let longer_paths : map text (take i paths) ++ folder ∷ [] ≡ map text (take (i + 1) paths) =
      ap (λ (xs : List (List ℕ)). xs ++ folder ∷ []) (sym (take-map text i paths))
      ∙ ap (λ (x : List ℕ). take i (map text paths) ++ x ∷ []) (sym last)
      ∙ sym (take_more (map text paths) i folder inside) ∙ take-map text (i + 1) paths in
      let longer : map items (take i journals) ++ items journal ∷ [] ≡ map items (take (i + 1) journals) =
      sym (map-append items (take i journals) (journal ∷ [])) ∙ ap (map items) (ap (λ y. take i journals ++ y ∷ []) journal_is ∙ sym (take_more journals i journal in_journals)) in
      subst (λ (ps : List (List ℕ)). KeepsEach Keeps newest ps (map items (take (i + 1) journals)) old new) longer_paths
      (subst (λ (js : List (List Summary)). KeepsEach Keeps newest (map text (take i paths) ++ folder ∷ []) js old new) longer
      (each (map text (take i paths)) (map items (take i journals)) folder (items journal) old mid new so_far
      (subst (λ (ss : List Summary). KeepsJournal Keeps newest folder ss mid new) opened_is kept)))
