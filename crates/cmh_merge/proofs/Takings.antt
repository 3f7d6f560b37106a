-- What is next on a link, and what the taking of an entry does to the links.
use Rattle.std.proofs.Common.{◌≡◌, ℕ, Bool, true, false, ◌&&◌, ◌==◌, List, [], ◌∷◌, ◌++◌, if◌then◌else◌, Some, sym, ap, subst, refl, ◌∙◌, append_assoc, append-nil, slice_get}
use Rattle.std.proofs.lemmas.Bool.{eq-eqb}
use Rattle.cmh_runs.specs.declared.entry.Entry.{Entry}
use Rattle.cmh_runs.specs.Journals.{frames_to}
use Rattle.cmh_runs.specs.Runs.{IsBeginningOf}
use Rattle.cmh_runs.proofs.Sent.{to-append}
use Rattle.cmh_merge.specs.Queues.{Queues, waiting, only_at}
use Rattle.cmh_merge.specs.Walks.{GotFrom, GotNothing}
use Rattle.cmh_merge.specs.Inner.Takings.{CanTake, IsStuck, MovesFrames, ReceivesFrame, SendsFrames}

if_none : {X : Type 0} (c : Bool) (xs : List X) → xs ≡ [] → (if c then xs else []) ≡ []
if_none true xs h = h
if_none false xs h = refl

first_of : {F : Type 0} (frame : F) (frames : List F) → IsBeginningOf (frame ∷ []) frames → slice_get frames 0 ≡ Some frame
first_of frame frames p = subst (λ l. slice_get l 0 ≡ Some frame) p.1 refl

same_entry : {X : Type 0} (xs : List X) (x y : X) (ys zs : List X) → xs ≡ x ∷ ys → xs ≡ y ∷ zs → x ≡ y
same_entry xs x y ys zs p q = let h : x ∷ ys ≡ y ∷ zs = sym p ∙ q in cc

no_entry : {X : Type 0} (xs : List X) (x : X) (ys : List X) → xs ≡ [] → xs ≡ x ∷ ys → ⊥
no_entry xs x ys p q = let h : [] ≡ x ∷ ys = sym p ∙ q in cc

module _ {E F : Type 0} (got : ℕ → E → List F) (site : ℕ) (left : List (Entry E F)) (old : Queues F) where
  pub stuck_at_end : left ≡ [] → IsStuck got site left old
  stuck_at_end none e es is begins = no_entry left e es none is

  -- the next entry got a frame that is not the first of its link
  pub stuck_at : (x : Entry E F) (xs : List (Entry E F)) (from : ℕ) (frame : F) → left ≡ x ∷ xs → GotFrom got x.event from frame
      → (slice_get (waiting old from site) 0 ≡ Some frame → ⊥) → IsStuck got site left old
  stuck_at x xs from frame is from_it other e es also begins =
      let same : x ≡ e = same_entry left x e xs es is also in
      let one : got from x.event ≡ frame ∷ [] = from_it from ∙ ap (λ z. if z then frame ∷ [] else []) (eq-eqb from from refl) in
      other (first_of frame (waiting old from site) (subst (λ z. IsBeginningOf z (waiting old from site)) (ap (λ (z : Entry E F). got from z.event) (sym same) ∙ one) (begins from)))

  pub takes_own : (x : Entry E F) (xs : List (Entry E F)) → left ≡ x ∷ xs → GotNothing got x.event → CanTake got site left old old
  takes_own x xs is nothing = (x, xs, is, λ a b. ap (λ z. z ++ waiting old a b) (if_none (site == b) (got a x.event) (nothing a)))

  pub takes_got : (x : Entry E F) (xs : List (Entry E F)) (from : ℕ) (frame : F) (new : Queues F) → left ≡ x ∷ xs → GotFrom got x.event from frame
      → ((a b : ℕ) → waiting old a b ≡ only_at from site frame a b ++ waiting new a b) → CanTake got site left old new
  takes_got x xs from frame new is from_it moved = (x, xs, is, λ a b. ap (λ z. z ++ waiting new a b) (here a b) ∙ sym (moved a b))
    where
      both : (c d : Bool) → (if c then (if d then frame ∷ [] else []) else []) ≡ (if d && c then frame ∷ [] else [])
      both true true = refl
      both true false = refl
      both false true = refl
      both false false = refl

      here : (a b : ℕ) → (if site == b then got a x.event else []) ≡ only_at from site frame a b
      here a b = ap (λ z. if site == b then z else []) (from_it a) ∙ both (site == b) (from == a)

-- what was got is gone, and what was sent came in
pub moves_both : {E F : Type 0} (got : ℕ → E → List F) (site : ℕ) (entry : Entry E F) (old mid new : Queues F) → ReceivesFrame got site entry.event old mid → SendsFrames site entry.sent mid new → MovesFrames got site entry old new
moves_both got site entry old mid new gets sends a b =
    ap (λ l. (if site == b then got a entry.event else []) ++ l) (sends a b)
    ∙ sym (append_assoc (if site == b then got a entry.event else []) (waiting mid a b) _)
    ∙ ap (λ l. l ++ (if site == a then frames_to b entry.sent else [])) (gets a b)

-- ---- frames are sent, one after the other

pub sends_none : {F : Type 0} (site : ℕ) (old : Queues F) → SendsFrames site [] old old
sends_none {F} site old a b = sym (append-nil (waiting old a b)) ∙ ap (λ z. waiting old a b ++ z) (sym (if_none (site == a) (frames_to b []) refl))

pub sends_more : {F : Type 0} (site to : ℕ) (frame : F) (sent : List (ℕ × F)) (old mid new : Queues F) → SendsFrames site sent old mid
    → ((a b : ℕ) → waiting new a b ≡ waiting mid a b ++ only_at site to frame a b) → SendsFrames site (sent ++ (to, frame) ∷ []) old new
sends_more {F} site to frame sent old mid new sends more a b =
    more a b ∙ ap (λ z. z ++ only_at site to frame a b) (sends a b) ∙ append_assoc (waiting old a b) _ _
    ∙ ap (λ z. waiting old a b ++ z) (joined (site == a))
  where
    one : frames_to b (sent ++ (to, frame) ∷ []) ≡ frames_to b sent ++ (if to == b then frame ∷ [] else [])
    one = to-append b sent ((to, frame) ∷ [])

    joined : (c : Bool) → (if c then frames_to b sent else []) ++ (if c && (to == b) then frame ∷ [] else []) ≡ (if c then frames_to b (sent ++ (to, frame) ∷ []) else [])
    joined true = sym one
    joined false = refl
