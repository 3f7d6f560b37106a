-- The ends of a link: what stays of them at each call.
use Rattle.std.proofs.Common.{◌≡◌, ℕ, ◌+◌, ◌-◌, ◌≤◌, ◌<◌, List, [], ◌∷◌, ◌++◌, length, take, drop, refl, sym, ap, ◌∙◌, arith, add-one, append-nil, append_assoc, get_or, length-append, length-drop}
use Rattle.std.proofs.Math.Seq.{take-suc}
use Rattle.std.proofs.lemmas.Grind.{flat_map-append}
use Rattle.std.proofs.lemmas.List.{length-take-le, take-append-drop}
use Rattle.cmh_model3.specs.declared.frame.Message.{Message}
use Rattle.cmh_wire3.proofs.Marks.{mark-append}
use Rattle.cmh_wire3.specs.Mark.{mark_on}
use Rattle.cmh_wire3.specs.Wire.{spelled, spelling}
use Rattle.cmh_resume3.specs.declared.sender.State.{State}
use Rattle.cmh_resume3.specs.declared.sender.State.TheVariants.{Down, Asked, Running, Refused, Mismatched}
use Rattle.cmh_resume3.specs.declared.sender.Task.{Task}
use Rattle.cmh_resume3.specs.declared.sender.Task.TheVariants.{Rest, Dial, End, Note}
use Rattle.cmh_resume3.specs.Within.{IsWithin}
use Rattle.cmh_resume3.specs.Sender.{IsAsked, IsOpen, IsRunning, Sender, StandsFor, StandsSince, ended_state, known_to, next_of, noted_state, sent, state_by, with_kept, with_state}

-- ---- states

-- the new state speaks no more than the old one
pub record IsQuieter (old new : State) : Type 0 where
  pub asked : IsAsked new → IsAsked old
  pub running : IsRunning new → IsRunning old × (next_of new ≡ next_of old)
  pub within : (acked most : ℕ) → IsWithin acked most old → IsWithin acked most new

pub quiet_same : (s : State) → IsQuieter s s
quiet_same s = record { asked = λ h. h; running = λ h. (h, refl); within = λ a m w. w }

pub quiet_down : (s : State) (since pause : ℕ) → IsQuieter s (Down since pause)
quiet_down s since pause = record { asked = λ h. absurd h; running = λ h. absurd h; within = λ a m w. tt }

pub quiet_ended : (now : ℕ) (s : State) → IsQuieter s (ended_state now s)
quiet_ended now (Down since pause) = quiet_down (Down since pause) now _
quiet_ended now (Asked since pause) = quiet_down (Asked since pause) now _
quiet_ended now (Running next spoke heard) = quiet_down (Running next spoke heard) now _
quiet_ended now (Refused r) = quiet_same (Refused r)
quiet_ended now (Mismatched m) = quiet_same (Mismatched m)

pub quiet_refused : (s : State) (r : _) → IsQuieter s (Refused r)
quiet_refused s r = record { asked = λ h. absurd h; running = λ h. absurd h; within = λ a m w. tt }

pub quiet_mismatched : (s : State) (m : _) → IsQuieter s (Mismatched m)
quiet_mismatched s m = record { asked = λ h. absurd h; running = λ h. absurd h; within = λ a m w. tt }

pub quiet_noted : (now : ℕ) (s : State) → IsQuieter s (noted_state now s)
quiet_noted now (Down since pause) = quiet_same (Down since pause)
quiet_noted now (Asked since pause) = quiet_same (Asked since pause)
quiet_noted now (Running next spoke heard) = record { asked = λ h. h; running = λ h. (h, refl); within = λ a m w. w }
quiet_noted now (Refused r) = quiet_same (Refused r)
quiet_noted now (Mismatched m) = quiet_same (Mismatched m)

pub quiet_by : (now : ℕ) (s : State) (t : Task) → IsQuieter s (state_by now s t)
quiet_by now s Rest = quiet_same s
quiet_by now s Dial = quiet_same s
quiet_by now s End = quiet_ended now s
quiet_by now s Note = quiet_noted now s

pub within_more : (acked most more : ℕ) (s : State) → most ≤ more → IsWithin acked most s → IsWithin acked more s
within_more acked most more (Down since pause) le w = tt
within_more acked most more (Asked since pause) le w = tt
within_more acked most more (Running next spoke heard) le w = (w.0, let last = w.1 in omega arith)
within_more acked most more (Refused r) le w = tt
within_more acked most more (Mismatched m) le w = tt

pub within_next : (acked most : ℕ) (s : State) → IsRunning s → IsWithin acked most s → (acked ≤ next_of s) × (next_of s ≤ most)
within_next acked most (Down since pause) run w = absurd run
within_next acked most (Asked since pause) run w = absurd run
within_next acked most (Running next spoke heard) run w = w
within_next acked most (Refused r) run w = absurd run
within_next acked most (Mismatched m) run w = absurd run

-- ---- messages

pub marked_more : (m : ℕ) (xs ys : List Message) → mark_on m (spelled (xs ++ ys)) ≡ mark_on (mark_on m (spelled xs)) (spelled ys)
marked_more m xs ys = ap (mark_on m) (flat_map-append spelling xs ys) ∙ mark-append m (spelled xs) (spelled ys)

-- the mark with one message more
pub marked_next : (m folded : ℕ) (xs : List Message) (k : ℕ) (x : Message) → k < length xs → x ≡ get_or xs k x → folded ≡ mark_on m (spelled (take k xs))
    → mark_on folded (spelling x) ≡ mark_on m (spelled (take (k + 1) xs))
marked_next m folded xs k x below is e =
    let next : take (k + 1) xs ≡ take k xs ++ x ∷ [] = ap (λ n. take n xs) (add-one k) ∙ take-suc xs k x below ∙ ap (λ z. take k xs ++ z ∷ []) (sym is) in
    ap (λ z. mark_on z (spelling x)) e
    ∙ ap (λ l. mark_on (mark_on m (spelled (take k xs))) l) (sym (append-nil (spelling x)))
    ∙ sym (marked_more m (take k xs) (x ∷ []))
    ∙ ap (λ l. mark_on m (spelled l)) (sym next)

pub stands_more : (count mark : ℕ) (s : Sender) (messages : List Message) (m : Message) → StandsSince count mark s messages → StandsSince count mark (with_kept m s) (messages ++ m ∷ [])
stands_more count mark s messages m st = record {
  past = st.past;
  count_is = st.count_is;
  mark_is = st.mark_is;
  all = sym (append_assoc st.past s.kept (m ∷ [])) ∙ ap (λ l. l ++ m ∷ []) st.all;
}

pub stands_still : (count mark : ℕ) (s : Sender) (state : State) (messages : List Message) → StandsSince count mark s messages → StandsSince count mark (with_state s state) messages
stands_still count mark s state messages st = record { past = st.past; count_is = st.count_is; mark_is = st.mark_is; all = st.all }

pub stands_known : (from mark : ℕ) (s : Sender) (count : ℕ) (state : State) (messages : List Message) → IsOpen s count → StandsSince from mark s messages → StandsSince from mark (known_to count state s) messages
stands_known from mark s count state messages open_is st =
    let least = open_is.least in
    let most = open_is.most in
    let past_is = st.count_is in
    let more : count - s.acked ≤ length s.kept = omega arith in
    let taken = length-take-le (count - s.acked) s.kept more in
    let both = length-append st.past (take (count - s.acked) s.kept) in
    record {
      past = st.past ++ take (count - s.acked) s.kept;
      count_is = omega arith;
      mark_is = marked_more mark st.past (take (count - s.acked) s.kept) ∙ ap (λ m. mark_on m (spelled (take (count - s.acked) s.kept))) st.mark_is;
      all = append_assoc st.past (take (count - s.acked) s.kept) (drop (count - s.acked) s.kept)
          ∙ ap (λ l. st.past ++ l) (take-append-drop (count - s.acked) s.kept) ∙ st.all;
    }

-- how many were sent stays
pub sent_known : (s : Sender) (count : ℕ) (state : State) → IsOpen s count → sent (known_to count state s) ≡ sent s
sent_known s count state open_is =
    let least = open_is.least in
    let most = open_is.most in
    let left = length-drop (count - s.acked) s.kept in
    omega arith

pub sent_all : (s : Sender) (messages : List Message) → StandsFor s messages → length messages ≡ sent s
sent_all s messages st =
    let both = length-append st.past s.kept in
    let past_is = st.count_is in
    let whole = ap (λ (l : List Message). length l) st.all in
    omega arith
