-- How all sites start.
use Rattle.std.proofs.Common.{◌≡◌, ◌<◌, ◌≤◌, ◌∙◌, ◌+◌, ℕ, Bool, List, [], ◌∷◌, ◌++◌, Option, Some, refl, sym, ap, subst, length, take, get_or}
use Rattle.std.specs.List.{AllZip}
use Rattle.std.proofs.lemmas.List.{take_all, take_more}
use Rattle.cmh_station3.specs.Files.{Held}
use Rattle.cmh_node3.specs.Nodes.{Node}
use Rattle.cmh_topology3.specs.Topology.{Topology}
use Rattle.cmh_cluster3.specs.Sites.{Starts}

each_push : {A B : Type 0} (R : A → B → Type 0) (xs : List A) (ys : List B) (x : A) (y : B) → AllZip R xs ys → R x y
    → AllZip R (xs ++ x ∷ []) (ys ++ y ∷ [])
each_push R [] [] x y all one = (one, tt)
each_push R [] (b ∷ ys) x y all one = absurd all
each_push R (a ∷ xs) [] x y all one = absurd all
each_push R (a ∷ xs) (b ∷ ys) x y all one = (all.0, each_push R xs ys x y all.1 one)

module _ {File : Type 0} (told : File → Option Held) (has_failed : File → Bool) (t : Topology) where
  -- these sites run, each as it was opened
  abbrev pub AllRun : List ℕ → List (Option (Node File)) → Type 0
  AllRun sites nodes = AllZip (λ site node. (new : Node File) × (node ≡ Some new) × Starts told has_failed t site new) sites nodes

  pub one_more : (sites : List ℕ) (k : ℕ) (nodes pushed : List (Option (Node File))) (site : ℕ) (new : Node File) → k < length sites
      → site ≡ get_or sites k site → AllRun (take k sites) nodes → Starts told has_failed t site new → pushed ≡ nodes ++ Some new ∷ []
      → AllRun (take (k + 1) sites) pushed
  one_more sites k nodes pushed site new below at all starts is =
      subst (λ (l : List ℕ). AllRun l pushed) (sym (take_more sites k site below ∙ ap (λ (s : ℕ). take k sites ++ s ∷ []) (sym at)))
      (subst (λ (ns : List (Option (Node File))). AllRun (take k sites ++ site ∷ []) ns) (sym is)
      (each_push (λ (site : ℕ) (node : Option (Node File)). (n : Node File) × (node ≡ Some n) × Starts told has_failed t site n) (take k sites) nodes site (Some new) all (new, refl, starts)))

  -- all of them do
  pub all_run : (sites all : List ℕ) (k : ℕ) (nodes : List (Option (Node File))) → AllRun (take k sites) nodes → length sites ≤ k → sites ≡ all
      → AllRun all nodes
  all_run sites all k nodes run past same =
      subst (λ (l : List ℕ). AllRun l nodes) (take_all k sites past ∙ same) run
