-- Frames that a site sends, one after the other.
use Rattle.std.proofs.Common.{◌≡◌, ℕ, Bool, true, false, ◌&&◌, List, [], ◌∷◌, ◌++◌, Option, None, Some, ◌==◌, refl, sym, ap, ◌∙◌, append_assoc}
use Rattle.std.proofs.lemmas.List.{append-nil}
use Rattle.std.specs.Prelude.{if◌then◌else◌}
use Rattle.std.proofs.lemmas.Bool.{eqb-true}
use Rattle.cmh_frames.specs.declared.frame.Frame.{Frame}
use Rattle.cmh_frames.specs.Journals.{frames_to}
use Rattle.cmh_play.specs.Links.{Links, link_of, with_last, with_all, link_after}

frames_to-more : (b : ℕ) (xs : List (ℕ × Frame)) (to : ℕ) (frame : Frame) → frames_to b (xs ++ (to, frame) ∷ []) ≡ frames_to b xs ++ (if to == b then frame ∷ [] else [])
frames_to-more b [] to frame = one (to == b)
  where
    one : (t : Bool) → (if t then frame ∷ [] else []) ≡ [] ++ (if t then frame ∷ [] else [])
    one true = refl
    one false = refl
frames_to-more b (x ∷ xs) to frame = more (x.0 == b) (frames_to-more b xs to frame)
  where
    more : (t : Bool) → frames_to b (xs ++ (to, frame) ∷ []) ≡ frames_to b xs ++ (if to == b then frame ∷ [] else [])
        → (if t then x.1 ∷ frames_to b (xs ++ (to, frame) ∷ []) else frames_to b (xs ++ (to, frame) ∷ []))
        ≡ (if t then x.1 ∷ frames_to b xs else frames_to b xs) ++ (if to == b then frame ∷ [] else [])
    more true e = ap (λ fs. x.1 ∷ fs) e
    more false e = e

with_all-last : (link : Option (List Frame)) (sent : List Frame) (frame : Frame) → with_all link (sent ++ frame ∷ []) ≡ with_last (with_all link sent) frame
with_all-last None sent frame = refl
with_all-last (Some frames) sent frame = ap Some (sym (append_assoc frames sent (frame ∷ [])))

with_all-none : (link : Option (List Frame)) → with_all link [] ≡ link
with_all-none None = refl
with_all-none (Some frames) = ap Some (append-nil frames)

-- nothing was sent
pub link_after-none : (links : Links) (s a b : ℕ) → link_of links a b ≡ link_after links s [] a b
link_after-none links s a b = go (s == a)
  where
    go : (t : Bool) → link_of links a b ≡ (if t then with_all (link_of links a b) [] else link_of links a b)
    go true = sym (with_all-none (link_of links a b))
    go false = refl

grown : (here there : Bool) (link : Option (List Frame)) (sent : List Frame) (frame : Frame)
    → (if here then with_all link (sent ++ (if there then frame ∷ [] else [])) else link)
    ≡ (if here && there then with_last (if here then with_all link sent else link) frame else (if here then with_all link sent else link))
grown true true link sent frame = with_all-last link sent frame
grown true false link sent frame = ap (with_all link) (append-nil sent)
grown false there link sent frame = refl

-- one frame more was sent
pub link_after-more : (links : Links) (s : ℕ) (xs : List (ℕ × Frame)) (to : ℕ) (frame : Frame) (a b : ℕ)
    → (if (s == a) && (to == b) then with_last (link_after links s xs s to) frame else link_after links s xs a b) ≡ link_after links s (xs ++ (to, frame) ∷ []) a b
link_after-more links s xs to frame a b =
    same (s == a) (to == b) (λ e. eqb-true s a e) (λ e. eqb-true to b e)
    ∙ sym (grown (s == a) (to == b) (link_of links a b) (frames_to b xs) frame)
    ∙ ap (λ fs. if s == a then with_all (link_of links a b) fs else link_of links a b) (sym (frames_to-more b xs to frame))
  where
    same : (here there : Bool) → (here ≡ true → s ≡ a) → (there ≡ true → to ≡ b)
        → (if here && there then with_last (link_after links s xs s to) frame else link_after links s xs a b)
        ≡ (if here && there then with_last (link_after links s xs a b) frame else link_after links s xs a b)
    same true true f g = λ i. with_last (link_after links s xs (f refl i) (g refl i)) frame
    same true false f g = refl
    same false there f g = refl
