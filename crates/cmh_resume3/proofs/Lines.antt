-- What stays of the connections of a link.
use Rattle.std.proofs.Common.{◌≡◌, ◌≢◌, ℕ, ◌+◌, ◌≤◌, ◌<◌, Bool, true, false, List, [], ◌∷◌, ◌++◌, if◌then◌else◌, length, Option, None, Some, refl, sym, ap, ◌∙◌, subst, arith, append_assoc, append-nil, length-append}
use Rattle.std.proofs.lemmas.Bool.{true≢false}
use Rattle.std.specs.List.{AllByRecursion}
use Rattle.cmh_model3.specs.declared.frame.Message.{Message}
use Rattle.cmh_runs.specs.Runs.{IsBeginningOf}
use Rattle.cmh_resume3.specs.declared.acknowledgement.Acknowledgement.{Acknowledgement}
use Rattle.cmh_resume3.specs.declared.answer.Answer.{Answer}
use Rattle.cmh_resume3.specs.declared.sender.State.{State}
use Rattle.cmh_resume3.specs.Link.{Line, with_frame}
use Rattle.cmh_resume3.specs.Moments.{IsLeftOf}
use Rattle.cmh_resume3.specs.Sender.{IsAsked, IsRunning, next_of}
use Rattle.cmh_resume3.proofs.Ends.{IsQuieter}
use Rattle.cmh_resume3.proofs.Lists.{all_begin, begins_longer, each_weaker, nothing_begins, begins_within, same_front}

-- a hello that was not read: nothing came of it yet
pub record Unread (dialled : ℕ) (state : State) (c : ℕ) (line : Line) : Type 0 where
  pub below : c < dialled
  pub nothing : line.frames ≡ []
  pub unanswered : line.answer ≡ None
  pub waits : c + 1 ≡ dialled → IsRunning state → ⊥

-- the claimed connection: what it holds comes after what was got; and where it is the newest, the sender writes what comes
-- after this, or is told how much was got
pub record Current (handed all : List Message) (dialled : ℕ) (state : State) (c : ℕ) (line : Line) : Type 0 where
  pub read : line.hello ≡ false
  pub below : c < dialled
  pub begins : IsBeginningOf (all ++ line.frames) handed
  pub place : c + 1 ≡ dialled → line.whole ≡ true → IsRunning state → next_of state ≡ length (all ++ line.frames)
  pub told : c + 1 ≡ dialled → IsAsked state → (a : Answer) → line.answer ≡ Some a → a.count ≡ length all

pub record LineFits (handed all : List Message) (synced dialled : ℕ) (state : State) (claim : Option ℕ) (c : ℕ) (line : Line) : Type 0 where
  pub acks : AllByRecursion (λ (a : Acknowledgement). a.count ≤ synced) line.acks
  pub answers : (a : Answer) → line.answer ≡ Some a → a.count ≤ synced
  pub unread : line.hello ≡ true → Unread dialled state c line
  pub asked : c + 1 ≡ dialled → IsAsked state → line.frames ≡ []
  pub current : claim ≡ Some c → Current handed all dialled state c line

module _ (handed all : List Message) (synced dialled : ℕ) (state : State) (claim : Option ℕ) (c : ℕ) (line : Line) (h : LineFits handed all synced dialled state claim c line) where
  -- more was sent
  pub line_longer : (more : List Message) → LineFits (handed ++ more) all synced dialled state claim c line
  line_longer more = record {
    acks = h.acks;
    answers = h.answers;
    unread = h.unread;
    asked = h.asked;
    current = λ q. let t = h.current q in record { read = t.read; below = t.below; begins = begins_longer (all ++ line.frames) handed more t.begins; place = t.place; told = t.told };
  }

  -- the sender speaks no more than before
  pub line_quieter : (new : State) → IsQuieter state new → LineFits handed all synced dialled new claim c line
  line_quieter new q = record {
    acks = h.acks;
    answers = h.answers;
    unread = λ u. let t = h.unread u in record { below = t.below; nothing = t.nothing; unanswered = t.unanswered; waits = λ newest run. t.waits newest (q.running run).0 };
    asked = λ newest asks. h.asked newest (q.asked asks);
    current = λ p. let t = h.current p in record {
      read = t.read;
      below = t.below;
      begins = t.begins;
      place = λ newest whole run. (q.running run).1 ∙ t.place newest whole (q.running run).0;
      told = λ newest asks. t.told newest (q.asked asks);
    };
  }

  -- more is synced
  pub line_synced : (more : ℕ) → synced ≤ more → LineFits handed all more dialled state claim c line
  line_synced more le = record {
    acks = each_weaker (λ (a : Acknowledgement). a.count ≤ synced) (λ (a : Acknowledgement). a.count ≤ more) line.acks (λ a below. omega arith) h.acks;
    answers = λ a e. let below = h.answers a e in omega arith;
    unread = h.unread;
    asked = h.asked;
    current = h.current;
  }

  -- no connection has the claim, whatever was got
  pub line_unclaimed : (other : List Message) → LineFits handed other synced dialled state None c line
  line_unclaimed other = record { acks = h.acks; answers = h.answers; unread = h.unread; asked = h.asked; current = λ q. absurd (cc q) }

  -- another one has it, whatever was got
  pub line_passed : (other : List Message) (d : ℕ) → c ≢ d → LineFits handed other synced dialled state (Some d) c line
  line_passed other d far = record { acks = h.acks; answers = h.answers; unread = h.unread; asked = h.asked; current = λ q. absurd (far (cc q)) }

  -- a newer connection is dialled
  pub line_older : (now : State) → (IsRunning now → ⊥) → c ≢ dialled → LineFits handed all synced (dialled + 1) now claim c line
  line_older now silent far = record {
    acks = h.acks;
    answers = h.answers;
    unread = λ u. let t = h.unread u in record { below = (let b = t.below in omega arith); nothing = t.nothing; unanswered = t.unanswered; waits = λ newest run. silent run };
    asked = λ newest asks. absurd (far (omega arith));
    current = λ p. let t = h.current p in record {
      read = t.read;
      below = (let b = t.below in omega arith);
      begins = t.begins;
      place = λ newest whole run. absurd (silent run);
      told = λ newest asks. absurd (far (omega arith));
    };
  }

  -- the sender runs on another connection
  pub line_apart : (now : State) → (IsAsked now → ⊥) → (c + 1 ≡ dialled → ⊥) → LineFits handed all synced dialled now claim c line
  line_apart now silent far = record {
    acks = h.acks;
    answers = h.answers;
    unread = λ u. let t = h.unread u in record { below = t.below; nothing = t.nothing; unanswered = t.unanswered; waits = λ newest run. far newest };
    asked = λ newest asks. absurd (silent asks);
    current = λ p. let t = h.current p in record { read = t.read; below = t.below; begins = t.begins; place = λ newest whole run. absurd (far newest); told = λ newest asks. absurd (silent asks) };
  }

  -- a part of it is left
  pub line_left : (left : Line) → IsLeftOf line left → LineFits handed all synced dialled state claim c left
  line_left left l = record {
    acks = all_begin (λ (a : Acknowledgement). a.count ≤ synced) left.acks line.acks l.acks h.acks;
    answers = λ a e. h.answers a (l.answer a e);
    unread = λ u. let t = h.unread (l.hello u) in record {
      below = t.below;
      nothing = nothing_begins left.frames line.frames l.frames t.nothing;
      unanswered = silent left.answer l.answer t.unanswered;
      waits = t.waits;
    };
    asked = λ newest asks. nothing_begins left.frames line.frames l.frames (h.asked newest asks);
    current = λ q. let t = h.current q in record {
      read = still_read left.hello l.hello t.read;
      below = t.below;
      begins = begins_within all left.frames line.frames handed l.frames t.begins;
      place = λ newest whole run. absurd (true≢false (sym whole ∙ l.ended));
      told = λ newest asks a e. t.told newest asks a (l.answer a e);
    };
  }
    where
      silent : (answer : Option Answer) → ((a : Answer) → answer ≡ Some a → line.answer ≡ Some a) → line.answer ≡ None → answer ≡ None
      silent None same none = refl
      silent (Some a) same none = absurd (cc (sym (same a refl) ∙ none))

      still_read : (hello : Bool) → (hello ≡ true → line.hello ≡ true) → line.hello ≡ false → hello ≡ false
      still_read false same read = refl
      still_read true same read = absurd (true≢false (sym (same refl) ∙ read))

  -- its hello is read, and refused
  pub line_read : LineFits handed all synced dialled state claim c (record line { hello = false })
  line_read = record {
    acks = h.acks;
    answers = h.answers;
    unread = λ u. absurd (true≢false (sym u));
    asked = h.asked;
    current = λ q. let t = h.current q in record { read = refl; below = t.below; begins = t.begins; place = t.place; told = t.told };
  }

  -- it is answered, and has the claim
  pub line_claimed : (a : Answer) → line.hello ≡ true → IsBeginningOf all handed → a.count ≡ length all → length all ≤ synced
      → LineFits handed all synced dialled state (Some c) c (record line { hello = false; answer = Some a })
  line_claimed a u begins count within = let t = h.unread u in record {
    acks = h.acks;
    answers = λ b e. let same : a ≡ b = cc e in let counts : b.count ≡ length all = ap (λ (z : Answer). z.count) (sym same) ∙ count in omega arith;
    unread = λ v. absurd (true≢false (sym v));
    asked = h.asked;
    current = λ q. record {
      read = refl;
      below = t.below;
      begins = subst (λ l. IsBeginningOf (all ++ l) handed) (sym t.nothing) (subst (λ l. IsBeginningOf l handed) (sym (append-nil all)) begins);
      place = λ newest whole run. absurd (t.waits newest run);
      told = λ newest asks b e. let same : a ≡ b = cc e in ap (λ (z : Answer). z.count) (sym same) ∙ count;
    };
  }

  -- a message of it is taken
  pub line_taken : (m : Message) (rest : List Message) → claim ≡ Some c → line.frames ≡ m ∷ rest
      → LineFits handed (all ++ m ∷ []) synced dialled state claim c (record line { frames = rest })
  line_taken m rest q e = let t = h.current q in let same : all ++ line.frames ≡ (all ++ m ∷ []) ++ rest = ap (λ l. all ++ l) e ∙ sym (append_assoc all (m ∷ []) rest) in record {
    acks = h.acks;
    answers = h.answers;
    unread = λ u. absurd (true≢false (sym u ∙ t.read));
    asked = λ newest asks. absurd (cc (sym e ∙ h.asked newest asks));
    current = λ p. record {
      read = t.read;
      below = t.below;
      begins = subst (λ l. IsBeginningOf l handed) same t.begins;
      place = λ newest whole run. t.place newest whole run ∙ ap (λ (l : List Message). length l) same;
      told = λ newest asks. absurd (cc (sym e ∙ h.asked newest asks));
    };
  }

  -- it is acknowledged on
  pub line_said : (acks : List Acknowledgement) → AllByRecursion (λ (a : Acknowledgement). a.count ≤ synced) acks
      → LineFits handed all synced dialled state claim c (record line { acks = acks })
  line_said acks each = record {
    acks = each;
    answers = h.answers;
    unread = λ u. let t = h.unread u in record { below = t.below; nothing = t.nothing; unanswered = t.unanswered; waits = t.waits };
    asked = h.asked;
    current = λ q. let t = h.current q in record { read = t.read; below = t.below; begins = t.begins; place = t.place; told = t.told };
  }

  -- the sender goes on after the answer to it
  pub line_started : (a : Answer) (now : State) → c + 1 ≡ dialled → IsAsked state → (IsAsked now → ⊥) → line.answer ≡ Some a → next_of now ≡ a.count
      → LineFits handed all synced dialled now claim c line
  line_started a now newest asks silent answer next = let none = h.asked newest asks in record {
    acks = h.acks;
    answers = h.answers;
    unread = λ u. absurd (cc (sym answer ∙ (h.unread u).unanswered));
    asked = λ n asks_now. absurd (silent asks_now);
    current = λ q. let t = h.current q in record {
      read = t.read;
      below = t.below;
      begins = t.begins;
      place = λ n whole run. next ∙ t.told newest asks a answer ∙ ap (λ (l : List Message). length l) (sym (append-nil all) ∙ ap (λ l. all ++ l) (sym none));
      told = λ n asks_now. absurd (silent asks_now);
    };
  }

  -- the sender writes the next message on it
  pub line_written : (past back : List Message) (m : Message) (now : State) → c + 1 ≡ dialled → IsRunning state → (IsAsked now → ⊥) → length past ≡ next_of state
      → next_of now ≡ next_of state + 1 → handed ≡ past ++ m ∷ back → LineFits handed all synced dialled now claim c (with_frame m line)
  line_written past back m now newest runs silent count next are = record {
    acks = h.acks;
    answers = h.answers;
    unread = λ u. absurd ((h.unread u).waits newest runs);
    asked = λ n asks_now. absurd (silent asks_now);
    current = λ q. let t = h.current q in record {
      read = t.read;
      below = t.below;
      begins = on line.whole t.begins (λ whole. (more_on whole t).0);
      place = λ n whole run. next ∙ placed line.whole whole (more_on whole t).1;
      told = λ n asks_now. absurd (silent asks_now);
    };
  }
    where
      on : (w : Bool) → IsBeginningOf (all ++ line.frames) handed → (w ≡ true → IsBeginningOf (all ++ (line.frames ++ m ∷ [])) handed)
          → IsBeginningOf (all ++ (if w then line.frames ++ m ∷ [] else line.frames)) handed
      on true before after = after refl
      on false before after = before

      placed : (w : Bool) → w ≡ true → next_of state + 1 ≡ length (all ++ (line.frames ++ m ∷ [])) → next_of state + 1 ≡ length (all ++ (if w then line.frames ++ m ∷ [] else line.frames))
      placed true whole e = e
      placed false whole e = absurd (true≢false (sym whole))

      more_on : line.whole ≡ true → Current handed all dialled state c line → IsBeginningOf (all ++ (line.frames ++ m ∷ [])) handed × (next_of state + 1 ≡ length (all ++ (line.frames ++ m ∷ [])))
      more_on whole t =
          let front = same_front (all ++ line.frames) past t.begins.0 (m ∷ back) (t.begins.1 ∙ are) (sym (t.place newest whole runs) ∙ sym count) in
          let longer : all ++ (line.frames ++ m ∷ []) ≡ past ++ m ∷ [] = sym (append_assoc all line.frames (m ∷ [])) ∙ ap (λ l. l ++ m ∷ []) front.0 in
          let both = length-append past (m ∷ []) in
          let long = ap (λ (l : List Message). length l) longer in
          ((back, ap (λ l. l ++ back) longer ∙ append_assoc past (m ∷ []) back ∙ sym are), omega arith)
