-- Lists that are gone through, and files that are read a byte further than they should be long.
use Rattle.std.proofs.Common.{◌≡◌, ◌≢◌, ℕ, ◌+◌, ◌-◌, ◌<◌, List, [], ◌∷◌, ◌++◌, length, take, drop, get_or, min, map, Bool, true, false, MatchBool, Option, Some, sym, ap, subst, ◌∙◌, arith, append_assoc}
use Rattle.std.specs.List.{AllZip, flat_map, take-map}
use Rattle.std.proofs.lemmas.List.{drop_more, flat_map_more, get_or_default, length-map, length-take, map-append, take_all, take_more}
use Rattle.std.proofs.lemmas.Slice.Zip.{all_zipped_more}
use Rattle.cmh_archive3.specs.Lines.{earlier_lines, line_of}
use Rattle.cmh_archive3.specs.declared.lines.SegmentLine.{SegmentLine}
use Rattle.cmh_archive3.specs.declared.summary.Listed.{Listed}

pub flat_more : {X A : Type 0} (f : X → List A) (before : List A) (xs : List X) (i : ℕ) (x : X) → i < length xs → x ≡ get_or xs i x
    → (before ++ flat_map f (take i xs)) ++ f x ≡ before ++ flat_map f (take (i + 1) xs)
flat_more f before xs i x within is =
    flat_map_more f before (take i xs) x
    ∙ ap (λ ys. before ++ flat_map f ys) (ap (λ y. take i xs ++ y ∷ []) is ∙ sym (take_more xs i x within))

-- a file of which so many bytes and one more are these
pub is_all : (file bytes read : List ℕ) → read ≡ take (length bytes + 1) file → read ≡ bytes → file ≡ bytes
is_all file bytes read taken same =
    let cut : take (length bytes + 1) file ≡ bytes = sym taken ∙ same in
    let lengths : min (length bytes + 1) (length file) ≡ length bytes = sym (length-take (length bytes + 1) file) ∙ ap length cut in
    sym (take_all (length bytes + 1) file (omega (arith, lengths))) ∙ cut

pub is_not_all : (file bytes read : List ℕ) → read ≡ take (length bytes + 1) file → read ≢ bytes → file ≢ bytes
is_not_all file bytes read taken other same =
    other (taken ∙ take_all (length bytes + 1) file (let long = ap length same in omega (arith, long)) ∙ same)

-- one more of two lists that fit
pub zip_more : {F Y X : Type 0} (R : Y → X → Type 0) (h : F → Y) (fs : List F) (i : ℕ) (f : F) (xs : List X) (x : X) → i < length fs → f ≡ get_or fs i f
    → AllZip R (map h (take i fs)) xs → R (h f) x → AllZip R (map h (take (i + 1) fs)) (xs ++ x ∷ [])
zip_more R h fs i f xs x within is so_far one =
    let longer : map h (take i fs) ++ h f ∷ [] ≡ map h (take (i + 1) fs) =
    sym (map-append h (take i fs) (f ∷ [])) ∙ ap (map h) (ap (λ y. take i fs ++ y ∷ []) is ∙ sym (take_more fs i f within)) in
    subst (λ ys. AllZip R ys (xs ++ x ∷ [])) longer (all_zipped_more R (map h (take i fs)) xs (h f) x so_far one)

-- the file at a path, of which so much was read, is these bytes or is not
pub file_is : (held : Option (List ℕ)) (file bytes read before : List ℕ) (same : Bool) → held ≡ Some file → before ≡ []
    → read ≡ before ++ take (length bytes + 1) file → MatchBool same (read ≡ bytes) (read ≢ bytes)
    → MatchBool same (held ≡ Some bytes) (held ≢ Some bytes)
file_is held file bytes read before true is empty taken all =
    is ∙ ap Some (is_all file bytes read (taken ∙ ap (λ (b : List ℕ). b ++ take (length bytes + 1) file) empty) all)
file_is held file bytes read before false is empty taken other = λ there.
    let same : file ≡ bytes = cc (is, there) in
    is_not_all file bytes read (taken ∙ ap (λ (b : List ℕ). b ++ take (length bytes + 1) file) empty) other same

-- ---- the lines of segments that are given last first

earlier_at : (newest : List ℕ) (earlier before : List Listed) (segment : Listed) (k : ℕ) → k < length earlier → drop k earlier ≡ segment ∷ before
    → earlier_lines newest (drop k earlier) ≡ earlier_lines newest (drop (k + 1) earlier) ++ line_of newest segment before ∷ []
earlier_at newest earlier before segment k inside here =
    let more = drop_more earlier k segment inside in
    let rest : before ≡ drop (k + 1) earlier = cc (here, more) in
    ap (earlier_lines newest) here ∙ ap (λ (xs : List Listed). earlier_lines newest xs ++ line_of newest segment before ∷ []) rest

pub lines_more : (start so_far after : List SegmentLine) (newest : List ℕ) (earlier back before : List Listed) (segment : Listed) (at : ℕ) (line : SegmentLine)
    → so_far ≡ start ++ earlier_lines newest (drop (length earlier - at) earlier) → after ≡ so_far ++ line ∷ [] → line ≡ line_of newest segment before
    → at < length earlier → back ≡ drop (length earlier - 1 - at) earlier → back ≡ segment ∷ before
    → after ≡ start ++ earlier_lines newest (drop (length earlier - (at + 1)) earlier)
lines_more start so_far after newest earlier back before segment at line done pushed is inside cut first =
    let lower : length earlier - 1 - at ≡ length earlier - (at + 1) = omega (arith, inside) in
    let upper : length earlier - (at + 1) + 1 ≡ length earlier - at = omega (arith, inside) in
    let here : drop (length earlier - (at + 1)) earlier ≡ segment ∷ before = ap (λ (n : ℕ). drop n earlier) (sym lower) ∙ sym cut ∙ first in
    let step = earlier_at newest earlier before segment (length earlier - (at + 1)) (omega (arith, inside)) here in
    let step_to = step ∙ ap (λ (n : ℕ). earlier_lines newest (drop n earlier) ++ line_of newest segment before ∷ []) upper in
    pushed
    ∙ ap (λ (ls : List SegmentLine). ls ++ line ∷ []) done
    ∙ append_assoc start (earlier_lines newest (drop (length earlier - at) earlier)) (line ∷ [])
    ∙ ap (λ (l : SegmentLine). start ++ (earlier_lines newest (drop (length earlier - at) earlier) ++ l ∷ [])) is
    ∙ ap (λ (ls : List SegmentLine). start ++ ls) (sym step_to)

-- six parts of a text
pub joined_six : (a b c d e f : List ℕ) → a ++ (b ++ (c ++ (d ++ (e ++ f)))) ≡ a ++ b ++ c ++ d ++ e ++ f
joined_six a b c d e f = simp append_assoc

-- and ten
pub joined_ten : (a b c d e f g h i j : List ℕ)
    → a ++ (b ++ (c ++ (d ++ (e ++ (f ++ (g ++ (h ++ (i ++ j)))))))) ≡ a ++ b ++ c ++ d ++ e ++ f ++ g ++ h ++ i ++ j
joined_ten a b c d e f g h i j = simp append_assoc

-- the same, of the text of an item
pub zip_at : {F X : Type 0} (R : List ℕ → X → Type 0) (text : F → List ℕ) (fs : List F) (i : ℕ) (f : List ℕ) (xs longer : List X) (x : X) → i < length fs
    → get_or (map text fs) i [] ≡ f → longer ≡ xs ++ x ∷ [] → AllZip R (map text (take i fs)) xs → R f x → AllZip R (map text (take (i + 1) fs)) longer
zip_at {F} {X} R text fs i f xs longer x within is longer_is so_far one =
    let count = length-map fs text in
    let inside : i < length (map text fs) = omega (arith, count, within) in
    let last : get_or (map text fs) i f ≡ f = get_or_default (map text fs) i f [] inside ∙ is in
    let texts : map text (take i fs) ++ f ∷ [] ≡ map text (take (i + 1) fs) =
    ap (λ (ys : List (List ℕ)). ys ++ f ∷ []) (sym (take-map text i fs))
    ∙ ap (λ (y : List ℕ). take i (map text fs) ++ y ∷ []) (sym last)
    ∙ sym (take_more (map text fs) i f inside) ∙ take-map text (i + 1) fs in
    subst (λ (zs : List X). AllZip R (map text (take (i + 1) fs)) zs) (sym longer_is)
    (subst (λ (ys : List (List ℕ)). AllZip R ys (xs ++ x ∷ [])) texts (all_zipped_more R (map text (take i fs)) xs f x so_far one))
