-- What is done at a place.
use Rattle.std.proofs.Common.{◌≡◌, ◌<◌, ◌≤◌, ◌∙◌, ap, ℕ, zero, suc, Bool, true, false, List, [], ◌∷◌, Option, None, Some, refl, sym, subst, inl, inr, true≢false}
use Rattle.std.specs.Prelude.{slice_get, slice_set}
use Rattle.std.proofs.lemmas.Bool.{cases_lt}
use Rattle.cmh_station3.specs.Files.{Held}
use Rattle.cmh_node3.specs.Nodes.{Node}
use Rattle.cmh_talk3.specs.declared.deed.Deed.{Deed}
use Rattle.cmh_talk3.specs.declared.reply.EventReply.{EventReply}
use Rattle.cmh_cluster3.specs.Sites.{Acts}
use Rattle.cmh_cluster3.specs.Turns.{DoesAt, DoesIn}
use Rattle.cmh_cluster3.specs.declared.reply.ClusterReply.{ClusterReply}
use Rattle.cmh_cluster3.specs.declared.reply.ClusterReply.TheVariants.{Event}
use Rattle.cmh_cluster3.proofs.Going.{down_none, none_some, some_same}

pub not_below : (k n : ℕ) → (k < n → false ≡ true) → n ≤ k
not_below k n none = elim (cases_lt k n) [ inl below ↦ absurd (true≢false (sym (none below))) | inr past ↦ past ]

-- what stands at a place is put there
put_same : {X : Type 0} (xs : List X) (k : ℕ) (x : X) → slice_get xs k ≡ Some x → slice_set xs k x ≡ xs
put_same [] k x there = absurd (none_some there)
put_same (y ∷ xs) zero x there = ap (λ z. z ∷ xs) (sym (some_same y x there))
put_same (y ∷ xs) (suc k) x there = ap (λ zs. y ∷ zs) (put_same xs k x there)

module _ {File : Type 0} (told : File → Option Held) (has_failed : File → Bool) where
  -- a site that runs took an event
  pub does_in : (site : Option (Node File)) (a b : Node File) (deed : Deed) (told_back : EventReply) → site ≡ Some a
      → Acts told has_failed a deed told_back b → DoesIn told has_failed site deed (Event told_back) (Some b)
  does_in site a b deed told_back is acts =
      subst (λ (s : Option (Node File)). DoesIn told has_failed s deed (Event told_back) (Some b)) (sym is) (told_back, b, acts, refl, refl)

  -- the site at a place took it, or is down
  pub does_at : (xs : List (Option (Node File))) (k : ℕ) (a b : Option (Node File)) (deed : Deed) (reply : ClusterReply) → slice_get xs k ≡ Some a
      → DoesIn told has_failed a deed reply b → DoesAt told has_failed k deed reply xs (slice_set xs k b)
  does_at xs k None b deed reply there does =
      inr (down_none xs k there, does.0, ap (λ (s : Option (Node File)). slice_set xs k s) does.1 ∙ put_same xs k None there)
  does_at xs k (Some a) b deed reply there does = inl (
    does.0,
    record { before = a; after = does.1; there = there; acts = does.2; leaves = ap (λ (s : Option (Node File)). slice_set xs k s) does.4 },
    does.3,
  )
