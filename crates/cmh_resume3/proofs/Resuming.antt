-- A link that resumes keeps its receipts a beginning of its sendings.
use Rattle.std.proofs.Common.{◌≡◌, ◌≢◌, ℕ, ◌+◌, ◌-◌, ◌≤◌, ◌<◌, max, true, false, List, [], ◌∷◌, ◌++◌, length, take, slice_get, Some, zero, suc, refl, sym, ap, ◌∙◌, subst, inl, inr, arith, append_assoc, append-nil, length-append}
use Rattle.std.proofs.lemmas.Bool.{cases_eq, true≢false}
use Rattle.std.proofs.lemmas.List.{length-take-le}
use Rattle.cmh_model3.specs.declared.frame.Message.{Message}
use Rattle.cmh_runs.specs.Runs.{IsBeginningOf}
use Rattle.cmh_resume3.specs.declared.acknowledgement.Acknowledgement.{Acknowledgement}
use Rattle.cmh_resume3.specs.declared.answer.Answer.{Answer}
use Rattle.cmh_resume3.specs.declared.refusal.Mismatch.TheVariants.{MoreThanSent, OtherFrames, LessThanAcknowledged}
use Rattle.cmh_resume3.specs.declared.sender.Heard.{Heard}
use Rattle.cmh_resume3.specs.declared.sender.Heard.TheVariants.{Turn, GoOn, Refuse, Close}
use Rattle.cmh_resume3.specs.declared.sender.State.{State}
use Rattle.cmh_resume3.specs.declared.sender.State.TheVariants.{Down, Asked, Running, Refused, Mismatched}
use Rattle.cmh_resume3.specs.Laws.{AllResume, Arrives, IsExact, Resumes, WorldMoments}
use Rattle.cmh_resume3.specs.Link.{Link, IsNewest, at_one, new_link, receipts, silent_line, with_frame}
use Rattle.cmh_resume3.specs.Moments.{Moment, Moments, Wrote, Synced, Handed, SenderOpened, Dialled, HeardAnswer, HeardAcknowledgement, HeardRefusal, WroteOn, SenderEnded, SenderTurned, SenderTicked, Claimed, HelloRefused, Took, ReceiverSynced, Acknowledged, ReceiverHeard, ReceiverRested, ReceiverClosed, ReceiverOpened, Lost}
use Rattle.cmh_resume3.specs.Within.{IsWithin}
use Rattle.cmh_resume3.specs.Sender.{HearsAcknowledgement, HearsAnswer, IsAsked, IsOpen, IsRunning, Sender, StandsFor, WritesNext, known_to, next_of, pause_of, sent, spoke_of, task_of, with_kept, with_state}
use Rattle.cmh_wire3.specs.Mark.{first_mark}
use Rattle.cmh_resume3.proofs.Ends.{IsQuieter, quiet_by, quiet_down, quiet_ended, quiet_mismatched, quiet_noted, quiet_refused, sent_all, sent_known, stands_known, stands_more, stands_still, within_more, within_next}
use Rattle.cmh_resume3.proofs.Lines.{LineFits, line_apart, line_claimed, line_left, line_longer, line_older, line_passed, line_quieter, line_read, line_said, line_started, line_synced, line_taken, line_unclaimed, line_written}
use Rattle.cmh_resume3.proofs.Lists.{all_with_one, at_each, begins_longer, begins_shorter, begins_within, length_grows, none_long, one_of_all, same_front}

record Fits (l : Link) : Type 0 where
  stands : StandsFor l.out l.handed
  within : IsWithin l.out.acked (sent l.out) l.out.state
  order : IsBeginningOf (receipts l) l.handed
  counts : l.into.got ≡ length (receipts l)
  unsynced : l.into.unsynced ≡ length l.fresh
  known : l.out.acked ≤ length l.got
  lines : (c : ℕ) → LineFits l.handed (receipts l) (length l.got) l.dialled l.out.state l.into.claim c (l.line c)

-- of all connections, one apart
each_of : (P : ℕ → Type 0) (c : ℕ) → ((d : ℕ) → d ≢ c → P d) → P c → (d : ℕ) → P d
each_of P c others here d = elim (cases_eq d c) [
  | inl at ↦ subst P (sym at) here
  | inr far ↦ others d far
]

-- only the newest connection is the newest
not_newest : (l : Link) (c d : ℕ) → IsNewest l c → d ≢ c → d + 1 ≡ l.dialled → ⊥
not_newest l c d newest far other = far (omega (arith, newest, other))

state_fits : (l : Link) → Fits l → (s : State) → IsQuieter l.out.state s → Fits (record l { out = with_state l.out s })
state_fits l h s q = record {
  stands = stands_still 0 first_mark l.out s l.handed h.stands;
  within = q.within l.out.acked (sent l.out) h.within;
  order = h.order;
  counts = h.counts;
  unsynced = h.unsynced;
  known = h.known;
  lines = λ c. line_quieter l.handed (receipts l) (length l.got) l.dialled l.out.state l.into.claim c (l.line c) (h.lines c) s q;
}

-- what the sender's end becomes
out_fits : (l : Link) (out new : Sender) → out ≡ new → Fits (record l { out = new }) → Fits (record l { out = out })
out_fits l out new e h = subst (λ o. Fits (record l { out = o })) (sym e) h

answer_fits : (l : Link) (c : ℕ) (a : Answer) (epoch now : ℕ) (out : Sender) (heard : Heard) → Fits l → IsNewest l c → IsAsked l.out.state
    → (l.line c).answer ≡ Some a → HearsAnswer l.out a epoch now out heard → Fits (record l { out = out })
answer_fits l c a epoch now out Turn h newest asks answer hears = out_fits l out l.out hears.1 h
answer_fits l c a epoch now out GoOn h newest asks answer hears = out_fits l out (known_to a.count (Running a.count now now) l.out) hears.3 record {
  stands = stands_known 0 first_mark l.out a.count (Running a.count now now) l.handed hears.1 h.stands;
  within = (omega arith, omega arith);
  order = h.order;
  counts = h.counts;
  unsynced = h.unsynced;
  known = (h.lines c).answers a answer;
  lines = each_of (λ d. LineFits l.handed (receipts l) (length l.got) l.dialled (Running a.count now now) l.into.claim d (l.line d)) c
      (λ d far. line_apart l.handed (receipts l) (length l.got) l.dialled l.out.state l.into.claim d (l.line d) (h.lines d) (Running a.count now now) (λ x. x) (not_newest l c d newest far))
      (line_started l.handed (receipts l) (length l.got) l.dialled l.out.state l.into.claim c (l.line c) (h.lines c) a (Running a.count now now) newest asks (λ x. x) answer refl);
}
answer_fits l c a epoch now out (Refuse MoreThanSent) h newest asks answer hears = out_fits l out (with_state l.out (Mismatched MoreThanSent)) hears.2 (state_fits l h (Mismatched MoreThanSent) (quiet_mismatched l.out.state MoreThanSent))
answer_fits l c a epoch now out (Refuse OtherFrames) h newest asks answer hears = out_fits l out (with_state l.out (Mismatched OtherFrames)) hears.3 (state_fits l h (Mismatched OtherFrames) (quiet_mismatched l.out.state OtherFrames))
answer_fits l c a epoch now out (Refuse LessThanAcknowledged) h newest asks answer hears = out_fits l out (with_state l.out (Mismatched LessThanAcknowledged)) hears.2 (state_fits l h (Mismatched LessThanAcknowledged) (quiet_mismatched l.out.state LessThanAcknowledged))
answer_fits l c a epoch now out Close h newest asks answer hears = absurd hears

heard_fits : (l : Link) (c : ℕ) (before after : List Acknowledgement) (a : Acknowledgement) (epoch now : ℕ) (out : Sender) (heard : Heard) → Fits l
    → IsRunning l.out.state → (l.line c).acks ≡ before ++ a ∷ after → HearsAcknowledgement l.out a epoch now out heard → Fits (record l { out = out })
heard_fits l c before after a epoch now out Turn h runs acks hears = out_fits l out l.out hears.1 h
heard_fits l c before after a epoch now out GoOn h runs acks hears =
    let state : State = Running (next_of l.out.state) (spoke_of l.out.state) now in
    let count : ℕ = max l.out.acked a.count in
    let most = hears.1 in
    let known = h.known in
    let synced : a.count ≤ length l.got = one_of_all (λ (z : Acknowledgement). z.count ≤ length l.got) before a after (l.line c).acks acks (h.lines c).acks in
    let here = within_next l.out.acked (sent l.out) l.out.state runs h.within in
    let first = here.0 in
    let last = here.1 in
    let is_open : IsOpen l.out count = record { least = omega arith; most = omega arith } in
    let same = sent_known l.out count state is_open in
    out_fits l out (known_to count state l.out) hears.2 record {
      stands = stands_known 0 first_mark l.out count state l.handed is_open h.stands;
      within = (omega arith, omega arith);
      order = h.order;
      counts = h.counts;
      unsynced = h.unsynced;
      known = omega arith;
      lines = λ d. line_quieter l.handed (receipts l) (length l.got) l.dialled l.out.state l.into.claim d (l.line d) (h.lines d) state
          (record { asked = λ x. absurd x; running = λ x. (runs, refl); within = λ acked most w. within_next acked most l.out.state runs w });
    }
heard_fits l c before after a epoch now out (Refuse MoreThanSent) h runs acks hears = out_fits l out (with_state l.out (Mismatched MoreThanSent)) hears.2 (state_fits l h (Mismatched MoreThanSent) (quiet_mismatched l.out.state MoreThanSent))
heard_fits l c before after a epoch now out (Refuse OtherFrames) h runs acks hears = absurd hears
heard_fits l c before after a epoch now out (Refuse LessThanAcknowledged) h runs acks hears = absurd hears
heard_fits l c before after a epoch now out Close h runs acks hears = out_fits l out _ hears.3 (state_fits l h _ (quiet_ended now l.out.state))

-- the place of a message in a list
record IsAt (xs : List Message) (k : ℕ) (m : Message) : Type 0 where
  back : List Message
  within : k < length xs
  all : xs ≡ take k xs ++ m ∷ back

message_at : (xs : List Message) (k : ℕ) (m : Message) → slice_get xs k ≡ Some m → IsAt xs k m
message_at [] k m e = absurd (cc e)
message_at (x ∷ xs) zero m e = let same : x ≡ m = cc e in record { back = xs; within = omega arith; all = ap (λ z. z ∷ xs) same }
message_at (x ∷ xs) (suc k) m e =
    let later = message_at xs k m e in
    let below = later.within in
    record { back = later.back; within = omega arith; all = ap (λ l. x ∷ l) later.all }

wrote_fits : (l : Link) (c now : ℕ) (m : Message) (out : Sender) → Fits l → IsNewest l c → WritesNext l.out now m out
    → Fits (record l { out = out; line = at_one l.line c (with_frame m (l.line c)) })
wrote_fits l c now m out h newest writes =
    let k : ℕ = next_of l.out.state - l.out.acked in
    let runs = writes.running in
    let place = message_at l.out.kept k m writes.message_is in
    let here = within_next l.out.acked (sent l.out) l.out.state runs h.within in
    let first = here.0 in
    let below = place.within in
    let past_is = h.stands.count_is in
    let taken = length-take-le k l.out.kept (omega arith) in
    let both = length-append h.stands.past (take k l.out.kept) in
    let count : length (h.stands.past ++ take k l.out.kept) ≡ next_of l.out.state = omega arith in
    let are : l.handed ≡ (h.stands.past ++ take k l.out.kept) ++ m ∷ place.back =
    sym h.stands.all ∙ ap (λ z. h.stands.past ++ z) place.all ∙ sym (append_assoc h.stands.past (take k l.out.kept) (m ∷ place.back)) in
    subst (λ o. Fits (record l { out = o; line = at_one l.line c (with_frame m (l.line c)) })) (sym writes.after) (written (_) count are (omega arith) (omega arith))
  where
    written : (heard : ℕ) → length (h.stands.past ++ take (next_of l.out.state - l.out.acked) l.out.kept) ≡ next_of l.out.state
        → l.handed ≡ (h.stands.past ++ take (next_of l.out.state - l.out.acked) l.out.kept) ++ m ∷ (message_at l.out.kept (next_of l.out.state - l.out.acked) m writes.message_is).back
        → l.out.acked ≤ next_of l.out.state + 1 → next_of l.out.state + 1 ≤ sent l.out
        → Fits (record l { out = with_state l.out (Running (next_of l.out.state + 1) now heard); line = at_one l.line c (with_frame m (l.line c)) })
    written heard count are first last = record {
      stands = stands_still 0 first_mark l.out (Running (next_of l.out.state + 1) now heard) l.handed h.stands;
      within = (first, last);
      order = h.order;
      counts = h.counts;
      unsynced = h.unsynced;
      known = h.known;
      lines = at_each (λ d line. LineFits l.handed (receipts l) (length l.got) l.dialled (Running (next_of l.out.state + 1) now heard) l.into.claim d line) l.line c (with_frame m (l.line c))
          (λ d far. line_apart l.handed (receipts l) (length l.got) l.dialled l.out.state l.into.claim d (l.line d) (h.lines d) (Running (next_of l.out.state + 1) now heard) (λ x. x) (not_newest l c d newest far))
          (line_written l.handed (receipts l) (length l.got) l.dialled l.out.state l.into.claim c (l.line c) (h.lines c) (h.stands.past ++ take (next_of l.out.state - l.out.acked) l.out.kept)
          (message_at l.out.kept (next_of l.out.state - l.out.acked) m writes.message_is).back m (Running (next_of l.out.state + 1) now heard) newest writes.running (λ x. x) count refl are);
    }

moment_fits : (l n : Link) → Fits l → Moment l n → Fits n
moment_fits l n h (Wrote m e) = subst Fits (sym e) record { stands = h.stands; within = h.within; order = h.order; counts = h.counts; unsynced = h.unsynced; known = h.known; lines = h.lines }
moment_fits l n h (Synced e) = subst Fits (sym e) record { stands = h.stands; within = h.within; order = h.order; counts = h.counts; unsynced = h.unsynced; known = h.known; lines = h.lines }
moment_fits l n h (Handed m rest w e) = subst Fits (sym e) record {
  stands = stands_more 0 first_mark l.out l.handed m h.stands;
  within = within_more l.out.acked (sent l.out) (sent (with_kept m l.out)) l.out.state (let both = length-append l.out.kept (m ∷ []) in omega arith) h.within;
  order = begins_longer (receipts l) l.handed (m ∷ []) h.order;
  counts = h.counts;
  unsynced = h.unsynced;
  known = h.known;
  lines = λ c. line_longer l.handed (receipts l) (length l.got) l.dialled l.out.state l.into.claim c (l.line c) (h.lines c) (m ∷ []);
}
moment_fits l n h (SenderOpened kept past later begins le all e) = subst Fits (sym e) record {
  stands = record { past = past; count_is = omega arith; mark_is = refl; all = all };
  within = tt;
  order = begins_longer (receipts l) l.handed (l.waiting ++ kept) h.order;
  counts = h.counts;
  unsynced = h.unsynced;
  known = let known = h.known in omega (arith, known, le);
  lines = λ c. line_longer l.handed (receipts l) (length l.got) l.dialled (Down 0 0) l.into.claim c (l.line c)
      (line_quieter l.handed (receipts l) (length l.got) l.dialled l.out.state l.into.claim c (l.line c) (h.lines c) (Down 0 0) (quiet_down l.out.state 0 0)) (l.waiting ++ kept);
}
moment_fits l n h (Dialled now down e) = subst Fits (sym e) record {
  stands = stands_still 0 first_mark l.out (Asked now (pause_of l.out.state)) l.handed h.stands;
  within = tt;
  order = h.order;
  counts = h.counts;
  unsynced = h.unsynced;
  known = h.known;
  lines = at_each (λ d line. LineFits l.handed (receipts l) (length l.got) (l.dialled + 1) (Asked now (pause_of l.out.state)) l.into.claim d line) l.line l.dialled (record silent_line { hello = true })
      (λ d far. line_older l.handed (receipts l) (length l.got) l.dialled l.out.state l.into.claim d (l.line d) (h.lines d) (Asked now (pause_of l.out.state)) (λ x. x) far)
      (record {
        acks = tt;
        answers = λ a f. absurd (cc f);
        unread = λ u. record { below = omega arith; nothing = refl; unanswered = refl; waits = λ newest x. x };
        asked = λ newest asks. refl;
        current = λ q. let below = ((h.lines l.dialled).current q).below in absurd (omega arith);
      });
}
moment_fits l n h (HeardAnswer c a epoch now out heard newest asks answer hears e) = subst Fits (sym e) (answer_fits l c a epoch now out heard h newest asks answer hears)
moment_fits l n h (HeardAcknowledgement c before after a epoch now out heard newest runs acks hears e) = subst Fits (sym e) (heard_fits l c before after a epoch now out heard h runs acks hears)
moment_fits l n h (HeardRefusal r e) = subst Fits (sym e) (state_fits l h (Refused r) (quiet_refused l.out.state r))
moment_fits l n h (WroteOn c now m out newest writes e) = subst Fits (sym e) (wrote_fits l c now m out h newest writes)
moment_fits l n h (SenderEnded now e) = subst Fits (sym e) (state_fits l h _ (quiet_ended now l.out.state))
moment_fits l n h (SenderTurned now e) = subst Fits (sym e) (state_fits l h _ (quiet_noted now l.out.state))
moment_fits l n h (SenderTicked now e) = subst Fits (sym e) (state_fits l h _ (quiet_by now l.out.state (task_of now l.out.state)))
moment_fits l n h (Claimed c now a into hello none claims e) =
    let fresh : l.fresh ≡ [] = none_long l.fresh (sym h.unsynced ∙ none) in
    let all : receipts l ≡ l.got = ap (λ z. l.got ++ z) fresh ∙ append-nil l.got in
    let long = ap (λ (z : List Message). length z) all in
    subst Fits (sym e) (subst (λ r. Fits (record l { into = r; line = at_one l.line c (record (l.line c) { hello = false; answer = Some a }) })) (sym claims.after) record {
      stands = h.stands;
      within = h.within;
      order = h.order;
      counts = h.counts;
      unsynced = h.unsynced;
      known = h.known;
      lines = at_each (λ d line. LineFits l.handed (receipts l) (length l.got) l.dialled l.out.state (Some c) d line) l.line c (record (l.line c) { hello = false; answer = Some a })
          (λ d far. line_passed l.handed (receipts l) (length l.got) l.dialled l.out.state l.into.claim d (l.line d) (h.lines d) (receipts l) c far)
          (line_claimed l.handed (receipts l) (length l.got) l.dialled l.out.state l.into.claim c (l.line c) (h.lines c) a hello h.order (claims.count_is ∙ h.counts) (omega (arith, long)));
    })
moment_fits l n h (HelloRefused c e) = subst Fits (sym e) record {
  stands = h.stands;
  within = h.within;
  order = h.order;
  counts = h.counts;
  unsynced = h.unsynced;
  known = h.known;
  lines = at_each (λ d line. LineFits l.handed (receipts l) (length l.got) l.dialled l.out.state l.into.claim d line) l.line c (record (l.line c) { hello = false })
      (λ d far. h.lines d) (line_read l.handed (receipts l) (length l.got) l.dialled l.out.state l.into.claim c (l.line c) (h.lines c));
}
moment_fits l n h (Took c now m rest q f e) =
    let taken = line_taken l.handed (receipts l) (length l.got) l.dialled l.out.state l.into.claim c (l.line c) (h.lines c) m rest q f in
    let same : receipts l ++ m ∷ [] ≡ l.got ++ (l.fresh ++ m ∷ []) = append_assoc l.got l.fresh (m ∷ []) in
    let long = ap (λ (z : List Message). length z) (sym same) ∙ length-append (receipts l) (m ∷ []) in
    let longer = length-append l.fresh (m ∷ []) in
    let counts = h.counts in
    let unsynced = h.unsynced in
    subst Fits (sym e) record {
      stands = h.stands;
      within = h.within;
      order = subst (λ z. IsBeginningOf z l.handed) same (begins_shorter (receipts l ++ m ∷ []) rest l.handed (taken.current q).begins);
      counts = omega (arith, long, counts);
      unsynced = omega (arith, longer, unsynced);
      known = h.known;
      lines = at_each (λ d line. LineFits l.handed (l.got ++ (l.fresh ++ m ∷ [])) (length l.got) l.dialled l.out.state l.into.claim d line) l.line c (record (l.line c) { frames = rest })
          (λ d far. subst (λ z. LineFits l.handed (l.got ++ (l.fresh ++ m ∷ [])) (length l.got) l.dialled l.out.state z d (l.line d)) (sym q)
          (line_passed l.handed (receipts l) (length l.got) l.dialled l.out.state l.into.claim d (l.line d) (h.lines d) (l.got ++ (l.fresh ++ m ∷ [])) c far))
          (subst (λ z. LineFits l.handed z (length l.got) l.dialled l.out.state l.into.claim c (record (l.line c) { frames = rest })) same taken);
    }
moment_fits l n h (ReceiverSynced e) =
    let same : receipts l ≡ receipts l ++ [] = sym (append-nil (receipts l)) in
    let known = h.known in
    let grows = length_grows l.got l.fresh in
    subst Fits (sym e) record {
      stands = h.stands;
      within = h.within;
      order = subst (λ z. IsBeginningOf z l.handed) same h.order;
      counts = h.counts ∙ ap (λ (z : List Message). length z) same;
      unsynced = refl;
      known = omega (arith, known, grows);
      lines = λ c. subst (λ z. LineFits l.handed z (length (receipts l)) l.dialled l.out.state l.into.claim c (l.line c)) same
          (line_synced l.handed (receipts l) (length l.got) l.dialled l.out.state l.into.claim c (l.line c) (h.lines c) (length (receipts l)) grows);
    }
moment_fits l n h (Acknowledged c a q count e) =
    let counts = h.counts in
    let unsynced = h.unsynced in
    let both = length-append l.got l.fresh in
    let below : a.count ≤ length l.got = omega (arith, counts, unsynced, both, count) in
    subst Fits (sym e) record {
      stands = h.stands;
      within = h.within;
      order = h.order;
      counts = h.counts;
      unsynced = h.unsynced;
      known = h.known;
      lines = at_each (λ d line. LineFits l.handed (receipts l) (length l.got) l.dialled l.out.state l.into.claim d line) l.line c (record (l.line c) { acks = (l.line c).acks ++ a ∷ [] })
          (λ d far. h.lines d) (line_said l.handed (receipts l) (length l.got) l.dialled l.out.state l.into.claim c (l.line c) (h.lines c) ((l.line c).acks ++ a ∷ [])
          (all_with_one (λ (z : Acknowledgement). z.count ≤ length l.got) (l.line c).acks a (h.lines c).acks below));
    }
moment_fits l n h (ReceiverHeard now e) = subst Fits (sym e) record { stands = h.stands; within = h.within; order = h.order; counts = h.counts; unsynced = h.unsynced; known = h.known; lines = h.lines }
moment_fits l n h (ReceiverRested e) = subst Fits (sym e) record {
  stands = h.stands;
  within = h.within;
  order = h.order;
  counts = h.counts;
  unsynced = h.unsynced;
  known = h.known;
  lines = λ c. line_unclaimed l.handed (receipts l) (length l.got) l.dialled l.out.state l.into.claim c (l.line c) (h.lines c) (receipts l);
}
moment_fits l n h (ReceiverClosed e) = subst Fits (sym e) record {
  stands = h.stands;
  within = h.within;
  order = h.order;
  counts = h.counts;
  unsynced = h.unsynced;
  known = h.known;
  lines = λ c. line_unclaimed l.handed (receipts l) (length l.got) l.dialled l.out.state l.into.claim c (l.line c) (h.lines c) (receipts l);
}
moment_fits l n h (ReceiverOpened kept closed b e) =
    let same : l.got ++ kept ≡ (l.got ++ kept) ++ [] = sym (append-nil (l.got ++ kept)) in
    let known = h.known in
    let grows = length_grows l.got kept in
    subst Fits (sym e) record {
      stands = h.stands;
      within = h.within;
      order = subst (λ z. IsBeginningOf z l.handed) same (begins_within l.got kept l.fresh l.handed b h.order);
      counts = ap (λ (z : List Message). length z) same;
      unsynced = refl;
      known = omega (arith, known, grows);
      lines = λ c. line_unclaimed l.handed (receipts l) (length (l.got ++ kept)) l.dialled l.out.state l.into.claim c (l.line c)
          (line_synced l.handed (receipts l) (length l.got) l.dialled l.out.state l.into.claim c (l.line c) (h.lines c) (length (l.got ++ kept)) grows) ((l.got ++ kept) ++ []);
    }
moment_fits l n h (Lost c left is_left e) = subst Fits (sym e) record {
  stands = h.stands;
  within = h.within;
  order = h.order;
  counts = h.counts;
  unsynced = h.unsynced;
  known = h.known;
  lines = at_each (λ d line. LineFits l.handed (receipts l) (length l.got) l.dialled l.out.state l.into.claim d line) l.line c left
      (λ d far. h.lines d) (line_left l.handed (receipts l) (length l.got) l.dialled l.out.state l.into.claim c (l.line c) (h.lines c) left is_left);
}

new_fits : Fits new_link
new_fits = record {
  stands = record { past = []; count_is = refl; mark_is = refl; all = refl };
  within = tt;
  order = ([], refl);
  counts = refl;
  unsynced = refl;
  known = omega arith;
  lines = λ c. record { acks = tt; answers = λ a e. absurd (cc e); unread = λ u. absurd (true≢false (sym u)); asked = λ newest asks. refl; current = λ q. absurd (cc q) };
}

moments_fit : (l : Link) (between : List Link) (n : Link) → Fits l → Moments l between n → Fits n
moments_fit l [] n h s = subst Fits s h
moments_fit l (m ∷ ms) n h s = moments_fit m ms n (moment_fits l m h s.0) s.1

exact : (l : Link) → Fits l → IsExact l
exact l h = record { begins = begins_longer (receipts l) l.handed l.waiting h.order; known = h.known; stands = h.stands }

pub resumes : Resumes
resumes n between s = exact n (moments_fit new_link between n new_fits s)

pub arrives : Arrives
arrives n between c s settled =
    let f = moments_fit new_link between n new_fits s in
    let t = (f.lines c).current settled.claimed in
    let next = t.place settled.newest settled.whole settled.running in
    let all_of = sent_all n.out n.handed f.stands in
    let last = settled.all_written in
    let count : length (receipts n ++ (n.line c).frames) ≡ length n.handed = sym next ∙ last ∙ sym all_of in
    let front = same_front (receipts n ++ (n.line c).frames) n.handed t.begins.0 [] (t.begins.1 ∙ sym (append-nil n.handed)) count in
    let same : receipts n ++ (n.line c).frames ≡ n.got =
    ap (λ z. receipts n ++ z) settled.all_taken ∙ append-nil (receipts n) ∙ ap (λ z. n.got ++ z) settled.all_synced ∙ append-nil n.got in
    sym same ∙ front.0 ∙ sym (append-nil n.handed) ∙ ap (λ z. n.handed ++ z) (sym settled.all_given)

worlds_fit : (w : ℕ → ℕ → Link) (between : List (ℕ → ℕ → Link)) (v : ℕ → ℕ → Link) → ((a b : ℕ) → Fits (w a b)) → WorldMoments w between v → (a b : ℕ) → Fits (v a b)
worlds_fit w [] v h s a b = subst Fits (s a b) (h a b)
worlds_fit w (u ∷ us) v h s a b = worlds_fit u us v (λ x y. moments_fit (w x y) (s.0 x y).0 (u x y) (h x y) (s.0 x y).1) s.1 a b

pub all_resume : AllResume
all_resume v between s a b = exact (v a b) (worlds_fit (λ x y. new_link) between v (λ x y. new_fits) s a b)
