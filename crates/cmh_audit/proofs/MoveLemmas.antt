-- What one entry does to the links.
use Rattle.std.proofs.Common.{◌≡◌, ◌≢◌, ℕ, ◌==◌, List, [], ◌∷◌, ◌++◌, Some, sym, ap, subst, refl, ◌∙◌, append_assoc, if◌then◌else◌, slice_get}
use Rattle.std.proofs.lemmas.Bool.{eq-eqb}
use Rattle.cmh_frames.specs.declared.frame.Frame.{Frame}
use Rattle.cmh_frames.specs.declared.event.Event.{Event}
use Rattle.cmh_frames.specs.declared.event.Event.TheVariants.{Got}
use Rattle.cmh_frames.specs.Entries.{Entry}
use Rattle.cmh_frames.specs.Journals.{frames_to, frame_from}
use Rattle.cmh_frames.specs.Runs.{IsBeginningOf}
use Rattle.cmh_world.specs.Links.{Links, waiting}
use Rattle.cmh_audit.specs.Inner.Merging.{IsNextFrame, ReceivesFrame, LacksFrame, SendsFrames, MovesFrames}

-- ---- the test of the next frame

first_is : (frames : List Frame) (frame : Frame) → IsBeginningOf (frame ∷ []) frames → slice_get frames 0 ≡ Some frame
first_is frames frame p = subst (λ l. slice_get l 0 ≡ Some frame) p.1 refl

is_lacking : (links : Links) (site from : ℕ) (frame : Frame) → slice_get (waiting links from site) 0 ≢ Some frame → IsNextFrame links site (Got from frame) → ⊥
is_lacking links site from frame other next =
    other (first_is (waiting links from site) frame (subst (λ t. IsBeginningOf (if t then frame ∷ [] else []) (waiting links from site)) (eq-eqb from from refl) (next from)))

pub lacks_got : (links : Links) (site from : ℕ) (frame : Frame) (event : Event) → event ≡ Got from frame → slice_get (waiting links from site) 0 ≢ Some frame → LacksFrame links site event from
lacks_got links site from frame event got other = record {
  frame = frame;
  got = got;
  not_next = subst (λ (e : Event). IsNextFrame links site e → ⊥) (sym got) (is_lacking links site from frame other);
}

-- ---- what the entry got

pub received_next : (old new : Links) (site : ℕ) (event : Event) → ReceivesFrame old new site event → IsNextFrame old site event
received_next old new site event got a =
    (waiting new a site, subst (λ t. (if t then frame_from a event else []) ++ waiting new a site ≡ waiting old a site) (eq-eqb site site refl) (got a site))

-- what was got is gone, and what was sent came in
pub moves_both : (old mid new : Links) (site : ℕ) (entry : Entry) → ReceivesFrame old mid site entry.event → SendsFrames mid new site entry.sent → MovesFrames old new site entry
moves_both old mid new site entry got sends a b =
    ap (λ l. (if site == b then frame_from a entry.event else []) ++ l) (sends a b)
    ∙ sym (append_assoc (if site == b then frame_from a entry.event else []) (waiting mid a b) _)
    ∙ ap (λ l. l ++ (if site == a then frames_to b entry.sent else [])) (got a b)
