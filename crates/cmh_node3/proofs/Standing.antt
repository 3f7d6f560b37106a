-- A sender's end stands for the messages that it was given, whatever happens on its link.
use Rattle.std.proofs.Common.{◌≡◌, ℕ, ◌≤◌, max, List, sym, subst, arith, inl, inr}
use Rattle.cmh_model3.specs.declared.frame.Message.{Message}
use Rattle.cmh_resume3.specs.declared.acknowledgement.Acknowledgement.{Acknowledgement}
use Rattle.cmh_resume3.specs.declared.answer.Answer.{Answer}
use Rattle.cmh_resume3.specs.declared.refusal.Mismatch.TheVariants.{MoreThanSent, OtherFrames, LessThanAcknowledged}
use Rattle.cmh_resume3.specs.Within.{IsWithin}
use Rattle.cmh_resume3.specs.Sender.{HearsAcknowledgement, HearsAnswer, IsOpen, IsRunning, Sender, StandsSince, known_to, next_of, sent, with_state}
use Rattle.cmh_resume3.specs.declared.sender.Heard.{Heard}
use Rattle.cmh_resume3.specs.declared.sender.Heard.TheVariants as heard
use Rattle.cmh_resume3.specs.declared.sender.State.{State}
use Rattle.cmh_resume3.proofs.Ends.{stands_known, stands_still, within_next}
use Rattle.cmh_node3.specs.Happenings.{Does}
use Rattle.cmh_node3.specs.declared.happening.Action.{Action}
use Rattle.cmh_node3.specs.declared.happening.Happening.{Happening}
use Rattle.cmh_node3.specs.declared.happening.Happening.TheVariants.{Dialled, Answered, Refused, Acknowledged, Ended, Passed}

module _ (count mark : ℕ) where
  pub same_stands : (s n : Sender) (ms : List Message) → n ≡ s → StandsSince count mark s ms → StandsSince count mark n ms
  same_stands s n ms same st = subst (λ (x : Sender). StandsSince count mark x ms) (sym same) st

  set : (s n : Sender) (state : State) (ms : List Message) → n ≡ with_state s state → StandsSince count mark s ms → StandsSince count mark n ms
  set s n state ms is st = same_stands (with_state s state) n ms is (stands_still count mark s state ms st)

  known : (s n : Sender) (has : ℕ) (state : State) (ms : List Message) → IsOpen s has → n ≡ known_to has state s → StandsSince count mark s ms → StandsSince count mark n ms
  known s n has state ms open_is is st = same_stands (known_to has state s) n ms is (stands_known count mark s has state ms open_is st)

  answered : (s : Sender) (a : Answer) (epoch now : ℕ) (n : Sender) (h : Heard) (ms : List Message) → HearsAnswer s a epoch now n h → StandsSince count mark s ms → StandsSince count mark n ms
  answered s a epoch now n heard.Turn ms hears st = same_stands s n ms hears.1 st
  answered s a epoch now n heard.GoOn ms hears st = known s n a.count _ ms hears.1 hears.3 st
  answered s a epoch now n (heard.Refuse MoreThanSent) ms hears st = set s n _ ms hears.2 st
  answered s a epoch now n (heard.Refuse OtherFrames) ms hears st = set s n _ ms hears.3 st
  answered s a epoch now n (heard.Refuse LessThanAcknowledged) ms hears st = set s n _ ms hears.2 st
  answered s a epoch now n heard.Close ms hears st = absurd hears

  acknowledged : (s : Sender) (a : Acknowledgement) (epoch now : ℕ) (n : Sender) (h : Heard) (ms : List Message) → IsWithin s.acked (sent s) s.state → IsRunning s.state
      → HearsAcknowledgement s a epoch now n h → StandsSince count mark s ms → StandsSince count mark n ms
  acknowledged s a epoch now n heard.Turn ms within runs hears st = same_stands s n ms hears.1 st
  acknowledged s a epoch now n heard.GoOn ms within runs hears st =
      let next = within_next s.acked (sent s) s.state runs within in
      let few : a.count ≤ next_of s.state = hears.1 in
      known s n (max s.acked a.count) _ ms (record { least = omega arith; most = omega arith }) hears.2 st
  acknowledged s a epoch now n (heard.Refuse MoreThanSent) ms within runs hears st = set s n _ ms hears.2 st
  acknowledged s a epoch now n (heard.Refuse OtherFrames) ms within runs hears st = absurd hears
  acknowledged s a epoch now n (heard.Refuse LessThanAcknowledged) ms within runs hears st = absurd hears
  acknowledged s a epoch now n heard.Close ms within runs hears st = set s n _ ms hears.3 st

  pub does_stands : (s : Sender) (what : Happening) (epoch now : ℕ) (n : Sender) (action : Action) (ms : List Message) → IsWithin s.acked (sent s) s.state
      → Does s what epoch now n action → StandsSince count mark s ms → StandsSince count mark n ms
  does_stands s Dialled epoch now n action ms within (inl d) st = set s n _ ms d.after st
  does_stands s Dialled epoch now n action ms within (inr u) st = same_stands s n ms u.same st
  does_stands s (Answered a) epoch now n action ms within (inl h) st = answered s a epoch now n h.heard ms h.hears st
  does_stands s (Answered a) epoch now n action ms within (inr u) st = same_stands s n ms u.same st
  does_stands s (Refused refusal) epoch now n action ms within (inl h) st = set s n _ ms h.after st
  does_stands s (Refused refusal) epoch now n action ms within (inr u) st = same_stands s n ms u.same st
  does_stands s (Acknowledged a) epoch now n action ms within (inl h) st = acknowledged s a epoch now n h.heard ms within h.timely h.hears st
  does_stands s (Acknowledged a) epoch now n action ms within (inr u) st = same_stands s n ms u.same st
  does_stands s Ended epoch now n action ms within d st = set s n _ ms d.0 st
  does_stands s Passed epoch now n action ms within d st = set s n _ ms d.0 st
