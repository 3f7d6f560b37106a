-- A frame is handed over: its receiver took it, and then it left its link.
use Rattle.std.proofs.Common.{◌≡◌, ◌≢◌, ℕ, Bool, true, false, not, ◌&&◌, ◌==◌, List, [], ◌∷◌, Option, None, Some, sym, ap, ◌∙◌, true≢false}
use Rattle.std.specs.Prelude.{if◌then◌else◌}
use Rattle.std.proofs.lemmas.Bool.{eq-eqb, eqb-true, ne_eqb}
use Rattle.cmh_frames.specs.declared.frame.Frame.{Frame}
use Rattle.cmh_frames.specs.Topology.{Topology, is_site}
use Rattle.cmh_frames.specs.declared.event.Event.TheVariants.{Got}
use Rattle.cmh_frames.specs.Journals.{frames_to}
use Rattle.cmh_frames.specs.declared.done.Done.{Done}
use Rattle.cmh_play.specs.Links.{next_of, with_all, without_first}
use Rattle.cmh_play.specs.World.{World, Steps, joins, with_link}

pub ends_differ : (t : Topology) (a b : ℕ) → joins t a b ≡ true → a ≢ b
ends_differ t a b link same =
    let no : false ≡ true = (λ i. not (sym (eq-eqb a b same) i) && (is_site t a && is_site t b)) ∙ link in
    true≢false (sym no)

-- a link whose next frame is this one
pub first_of : (link : Option (List Frame)) (frame : Frame) → next_of link ≡ Some frame → (frames : List Frame) × (link ≡ Some (frame ∷ frames))
first_of None frame next = absurd (cc next)
first_of (Some []) frame next = absurd (cc next)
first_of (Some (first ∷ frames)) frame next =
    let same : first ≡ frame = cc next in
    (frames, ap (λ z. Some (z ∷ frames)) same)

module _ (old mid : World) (links : ℕ → ℕ → Option (List Frame)) (a b : ℕ) (frame : Frame) (frames : List Frame) (done : Done) (apart : a ≢ b) (first : old.links a b ≡ Some (frame ∷ frames))
    (step : Steps old mid b (Got a frame) done)
    (changes : (c d : ℕ) → links c d ≡ (if (a == c) && (b == d) then without_first (mid.links a b) else mid.links c d)) where
  -- the step left it where it was
  here : mid.links a b ≡ Some (frame ∷ frames)
  here = step.links a b ∙ ap (λ t. if t then with_all (old.links a b) (frames_to b step.sent) else old.links a b) (ne_eqb b a (λ e. apart (sym e))) ∙ first

  each : (c d : ℕ) (x y z : Bool) → (x ≡ true → z ≡ false) → mid.links c d ≡ (if z then with_all (old.links c d) (frames_to d step.sent) else old.links c d)
      → (if x && y then without_first (mid.links a b) else mid.links c d)
      ≡ (if z then with_all (if x && y then Some frames else old.links c d) (frames_to d step.sent) else (if x && y then Some frames else old.links c d))
  each c d true true z off is = ap without_first here ∙ (λ i. if sym (off (λ j. true)) i then with_all (Some frames) (frames_to d step.sent) else Some frames)
  each c d true false z off is = is
  each c d false y z off is = is

  -- the same step, of the world without the frame
  pub delivered : Steps (with_link old a b (Some frames)) (record mid { links = links }) b (Got a frame) done
  delivered = record {
    sent = step.sent;
    accepted = step.accepted;
    sends = step.sends;
    counted = step.counted;
    grows = step.grows;
    others = step.others;
    topology = step.topology;
    links = λ c d. changes c d ∙ each c d (a == c) (b == d) (b == c) (λ h. ne_eqb b c (λ e. apart (eqb-true a c h ∙ sym e))) (step.links c d);
  }
