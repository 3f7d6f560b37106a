-- The requests of an ask, target by target.
use Rattle.std.proofs.Common.{zero, suc, ◌≡◌, ℕ, ◌+◌, ◌<◌, true, false, cond, List, [], ◌∷◌, ◌++◌, length, get_or, drop, refl, sym, ap, ◌∙◌, subst, arith, add-one, append_assoc}
use Rattle.std.specs.List.{AllByRecursion}
use Rattle.std.proofs.Math.Seq.{drop-cons}
use Rattle.cmh_frames.specs.Topology.{Topology, is_at, site_of}
use Rattle.cmh_frames.specs.declared.frame.Frame.{Frame}
use Rattle.cmh_frames.specs.declared.frame.Frame.TheVariants.{Request}
use Rattle.cmh_frames.specs.Rules.{requests}

at_place : (xs : List ℕ) (i k : ℕ) → i < length xs → k ≡ get_or xs i k → drop i xs ≡ k ∷ drop (i + 1) xs
at_place xs i k h is = drop-cons xs i k h ∙ rw (← is, add-one) refl

pub sent_here : (t : Topology) (s asker : ℕ) (xs : List ℕ) (i k : ℕ) (sent all : List (ℕ × Frame)) → i < length xs → k ≡ get_or xs i k → is_at t k s ≡ true → sent ++ requests t s asker (drop i xs) ≡ all → sent ++ requests t s asker (drop (i + 1) xs) ≡ all
sent_here t s asker xs i k sent all h is here so_far =
    sym (ap (λ ys. sent ++ requests t s asker ys) (at_place xs i k h is) ∙ ap (λ b. sent ++ cond b (requests t s asker (drop (i + 1) xs)) ((site_of t k, Request (asker, k)) ∷ requests t s asker (drop (i + 1) xs))) here)
    ∙ so_far

pub sent_there : (t : Topology) (s asker : ℕ) (xs : List ℕ) (i k b : ℕ) (sent all : List (ℕ × Frame)) → i < length xs → k ≡ get_or xs i k → is_at t k s ≡ false → site_of t k ≡ b → sent ++ requests t s asker (drop i xs) ≡ all → (sent ++ (b, Request (asker, k)) ∷ []) ++ requests t s asker (drop (i + 1) xs) ≡ all
sent_there t s asker xs i k b sent all h is here site so_far =
    append_assoc sent ((b, Request (asker, k)) ∷ []) (requests t s asker (drop (i + 1) xs))
    ∙ ap (λ v. sent ++ ((v, Request (asker, k)) ∷ requests t s asker (drop (i + 1) xs))) (sym site)
    ∙ sym (ap (λ ys. sent ++ requests t s asker ys) (at_place xs i k h is) ∙ ap (λ b. sent ++ cond b (requests t s asker (drop (i + 1) xs)) ((site_of t k, Request (asker, k)) ∷ requests t s asker (drop (i + 1) xs))) here)
    ∙ so_far

pub all_at : (P : ℕ → Type 0) (xs : List ℕ) (i k : ℕ) → AllByRecursion P xs → i < length xs → k ≡ get_or xs i k → P k
all_at P [] i k all h is = absurd (omega arith)
all_at P (x ∷ xs) zero k all h is = subst P (sym is) all.0
all_at P (x ∷ xs) (suc i) k all h is = all_at P xs i k all.1 (omega arith) is
