-- What the front of a file says of the file, and what is at a path.
use Rattle.std.proofs.Common.{◌≡◌, ℕ, ◌+◌, ◌<◌, List, [], ◌∷◌, ◌++◌, Bor, Option, Some, length, map, take, drop, get_or, sym, ap, subst, ◌∙◌, append_assoc}
use Rattle.std.specs.List.{AllZip}
use Rattle.std.proofs.lemmas.List.{append-nil, map-append, take-append-drop, take_more}
use Rattle.cmh_inputs.specs.Stored.{Stored, TakesUpTo}
use Rattle.std.specs.Int.{bytes_high_first}
use Rattle.cmh_segment3.specs.Head.{head_mark, head_spelling}
use Rattle.cmh_segment3.specs.declared.head.Head.{Head}
use Rattle.cmh_restore3.specs.Reading.{AreNamedHeads, BeginsWith, IsHeadAt, IsNamedHead}

-- a head that begins the front of a file begins the file
pub begins_file : (file front more : List ℕ) (head : Head) → file ≡ front ++ more → BeginsWith front head → BeginsWith file head
begins_file file front more head is begins =
    let b = begins.begins in
    record {
      behind = begins.behind ++ more;
      begins = record {
        header_is = b.header_is;
        base_is = b.base_is;
        rest = b.rest ++ more;
        bytes_are = is ∙ ap (λ (bytes : List ℕ). bytes ++ more) b.bytes_are ∙ append_assoc (head_spelling head.header head.base) begins.behind more;
        behind_are = ap (λ (bytes : List ℕ). bytes ++ more) b.behind_are ∙ append_assoc (bytes_high_first 8 (head_mark head.header head.base)) b.rest more;
      };
    }

-- what was read of a file at two times is its front
pub read_twice : (file b₀ b₁ b₂ : List ℕ) (n m : ℕ) (l₀ l₁ l₂ : Option (List ℕ)) → b₀ ≡ [] → l₀ ≡ Some file
    → ((rest : List ℕ) → l₀ ≡ Some rest → TakesUpTo n rest l₁ b₀ b₁) → ((rest : List ℕ) → l₁ ≡ Some rest → TakesUpTo m rest l₂ b₁ b₂)
    → file ≡ b₂ ++ drop m (drop n file)
read_twice file b₀ b₁ b₂ n m l₀ l₁ l₂ none left first second =
    let one = first file left in
    let two = second (drop n file) one.left_is in
    let front : b₁ ≡ take n file = one.read ∙ ap (λ (bytes : List ℕ). bytes ++ take n file) none in
    let both : b₂ ≡ take n file ++ take m (drop n file) = two.read ∙ ap (λ (bytes : List ℕ). bytes ++ take m (drop n file)) front in
    sym (ap (λ (bytes : List ℕ). bytes ++ drop m (drop n file)) both ∙ append_assoc (take n file) (take m (drop n file)) (drop m (drop n file))
    ∙ ap (λ (bytes : List ℕ). take n file ++ bytes) (take-append-drop m (drop n file)) ∙ take-append-drop n file)

-- ---- what is at a path

abbrev pub IsHeadOf : Stored → List ℕ → Head → Type 0
IsHeadOf stored path head = (file : List ℕ) × (stored.journals path ≡ Some file) × BeginsWith file head

-- what is at the path of a file in a folder is in the folder
pub in_folder : (stored : Stored) (path name whole : List ℕ) (head : Head) → whole ≡ path ++ name → IsHeadOf stored whole head → IsHeadAt stored path head
in_folder stored path name whole head is (file, held, begins) =
    record { name = name; file = file; held = subst (λ (p : List ℕ). stored.journals p ≡ Some file) is held; begins = begins }

pub at_path : (stored : Stored) (path : List ℕ) (head : Head) → IsHeadOf stored path head → IsHeadAt stored path head
at_path stored path head found = in_folder stored path [] path head (sym (append-nil path)) found

-- ---- one after the other

push_pair : {A B : Type 0} (R : A → B → Type 0) (xs : List A) (ys : List B) (x : A) (y : B) → AllZip R xs ys → R x y → AllZip R (xs ++ x ∷ []) (ys ++ y ∷ [])
push_pair R [] [] x y all one = (one, tt)
push_pair R (a ∷ xs) (b ∷ ys) x y all one = (all.0, push_pair R xs ys x y all.1 one)
push_pair R [] (b ∷ ys) x y all one = absurd all
push_pair R (a ∷ xs) [] x y all one = absurd all

-- the head of one more journal
pub named_more : (told : Option Stored) (paths : List (Bor (List ℕ))) (i : ℕ) (d : Bor (List ℕ)) (heads : List Head) (head : Head) → i < length paths
    → AreNamedHeads told (map (λ (path : Bor (List ℕ)). path.now) (take i paths)) heads → IsNamedHead told (get_or paths i d).now head
    → AreNamedHeads told (map (λ (path : Bor (List ℕ)). path.now) (take (i + 1) paths)) (heads ++ head ∷ [])
named_more told paths i d heads head inside all one =
    let text : Bor (List ℕ) → List ℕ = λ (path : Bor (List ℕ)). path.now in
    let more : map text (take (i + 1) paths) ≡ map text (take i paths) ++ (get_or paths i d).now ∷ [] =
    ap (map text) (take_more paths i d inside) ∙ map-append text (take i paths) (get_or paths i d ∷ []) in
    subst (λ (texts : List (List ℕ)). AreNamedHeads told texts (heads ++ head ∷ [])) (sym more)
    (push_pair (IsNamedHead told) (map text (take i paths)) heads (get_or paths i d).now head all one)
