-- What becomes of who was served and of the talk at each call.
use Rattle.std.proofs.Common.{◌≡◌, ℕ, ◌+◌, ◌-◌, ◌<◌, List, [], ◌∷◌, ◌++◌, length, map, drop, slice_index_or, Option, Some, None, refl, sym, ap, subst, ◌∙◌, arith, append_assoc, append-nil, inl, inr}
use Rattle.std.specs.Io.BufRead.{drop_through, take_through}
use Rattle.cmh_client.specs.Clients.{State, answers, closes, fresh, leaves, takes, untold}
use Rattle.cmh_client.specs.Conversations.{AreAnswers, IsAnswer, IsServed, MayTell, MeanEvents, Served, Serves, answers_first, replies, takes_event, tells_list, told_then, unserved, with_client}
use Rattle.cmh_client.specs.Lines.{BeginsWith, HasFeed, none}
use Rattle.cmh_client.specs.Talks.{HasHad, Talk, Turn, answer, lines_of, news, news_of, silence}
use Rattle.cmh_client.specs.Wishes.{NextMeans}
use Rattle.cmh_client.specs.declared.language.Meaning.{Meaning}
use Rattle.cmh_client.specs.declared.language.Meaning.TheVariants.{Event, Question}
use Rattle.cmh_client.proofs.Feeds.{begins_one_more}
use Rattle.cmh_client.proofs.Talks.{answered_talk, heard_talk, lines_answered, news_answered, news_told, said_more, same_talk, sent_talk, skipped_talk, told_in_order, told_talk, took_talk, watches_talk}

none_waits : (waiting : List (List ℕ)) (count : ℕ) → length waiting ≡ count → count ≡ 0 → waiting ≡ []
none_waits [] count is none_is = refl
none_waits (line ∷ waiting) count is none_is = absurd (omega (arith, is, none_is))

-- a question was answered at once
replied_lines : (heard rest line : List ℕ) (before waiting passed after : List (List ℕ)) → waiting ≡ [] → after ≡ before ++ line ∷ []
    → BeginsWith heard ((before ++ waiting) ++ line ∷ []) passed rest → BeginsWith heard (after ++ waiting) passed rest
replied_lines heard rest line before waiting passed after is same begins =
    subst (λ (lines : List (List ℕ)). BeginsWith heard lines passed rest)
    (ap (λ (ws : List (List ℕ)). (before ++ ws) ++ line ∷ []) is
    ∙ (ap (λ (ls : List (List ℕ)). ls ++ line ∷ []) (append-nil before)
    ∙ (sym same ∙ (sym (append-nil after) ∙ ap (λ (ws : List (List ℕ)). after ++ ws) (sym is))))) begins

replied_talk : (client : State) (talk : Talk) (text : List ℕ) → HasHad client talk → client.waiting ≡ 0 → HasFeed client.unread
    → HasHad (answers (takes client) text) (record talk { turns = talk.turns ++ answer (take_through 10 client.unread) text ∷ [] })
replied_talk client talk text had none_is feed =
    let waits = had.waits in
    let line = take_through 10 client.unread in record {
      lines = replied_lines talk.heard (drop_through 10 client.unread) line (lines_of talk.turns) talk.waiting talk.passed
          (lines_of (talk.turns ++ answer line text ∷ [])) (none_waits talk.waiting client.waiting had.waits none_is)
          (lines_answered talk.turns line text)
          (begins_one_more talk.heard (lines_of talk.turns ++ talk.waiting) talk.passed client.unread had.lines feed);
      waits = omega (arith, waits);
      text = said_more talk.said client.to_say text talk.turns (answer line text ∷ []) had.text (append-nil text);
      told = ap length (news_answered talk.turns line text) ∙ had.told;
    }

module _ {E Q T : Type 0} (Means : List ℕ → Meaning E Q → Type 0) (Answers : E → List ℕ → Type 0) (Replies : Q → List ℕ → Type 0)
    (line : T → List ℕ) where
  abbrev Is : Served E T → Talk → Type 0
  Is served talk = IsServed Means Answers Replies line served talk

  answers_more : (turns : List Turn) (said text : List ℕ) → AreAnswers Means Answers Replies turns
      → IsAnswer Means Answers Replies said text → AreAnswers Means Answers Replies (turns ++ answer said text ∷ [])
  answers_more [] said text are now = (now, tt)
  answers_more (answer l t ∷ turns) said text are now = (are.0, answers_more turns said text are.1 now)
  answers_more (news t ∷ turns) said text are now = answers_more turns said text are now

  news_none : (items : List T) → AreAnswers Means Answers Replies (map (λ item. news (line item)) items)
  news_none [] = tt
  news_none (item ∷ items) = news_none items

  answers_told : (turns : List Turn) (items : List T) → AreAnswers Means Answers Replies turns
      → AreAnswers Means Answers Replies (turns ++ map (λ item. news (line item)) items)
  answers_told [] items are = news_none items
  answers_told (answer l t ∷ turns) items are = (are.0, answers_told turns items are.1)
  answers_told (news t ∷ turns) items are = answers_told turns items are

  one_more : (lines : List (List ℕ)) (events : List E) (said : List ℕ) (event : E) → MeanEvents Means lines events
      → Means said (Event event) → MeanEvents Means (lines ++ said ∷ []) (events ++ event ∷ [])
  one_more [] [] said event mean now = (now, tt)
  one_more [] (e ∷ events) said event mean now = absurd mean
  one_more (l ∷ lines) [] said event mean now = absurd mean
  one_more (l ∷ lines) (e ∷ events) said event mean now = (mean.0, one_more lines events said event mean.1 now)

  first_means : (said : List ℕ) (others : List (List ℕ)) (events : List E) (event : E) → MeanEvents Means (said ∷ others) events
      → event ≡ slice_index_or events 0 event → Means said (Event event)
  first_means said others [] event mean is = absurd mean
  first_means said others (e ∷ events) event mean is = subst (λ (e : E). Means said (Event e)) (sym is) mean.0

  others_mean : (said : List ℕ) (others : List (List ℕ)) (events : List E) → MeanEvents Means (said ∷ others) events
      → MeanEvents Means others (drop 1 events)
  others_mean said others [] mean = absurd mean
  others_mean said others (e ∷ events) mean = mean.1

  answered_is : (served : Served E T) (talk : Talk) (event : E) (text : List ℕ) → Is served talk → 0 < served.client.waiting
      → event ≡ slice_index_or served.events 0 event → Answers event text
      → (said : List ℕ) × (others : List (List ℕ)) × (talk.waiting ≡ said ∷ others)
      × Is (answers_first served text) (record talk { turns = talk.turns ++ answer said text ∷ []; waiting = others })
  answered_is served talk event text is some first answers =
      let now = answered_talk served.client talk text is.had some in
      let said : List ℕ = now.0 in
      let others : List (List ℕ) = now.1 in
      let mean = subst (λ (ws : List (List ℕ)). MeanEvents Means ws served.events) now.2 is.events_are in (
        said,
        others,
        now.2,
        record {
          had = now.3;
          answers_are = answers_more talk.turns said text is.answers_are
              (inl (event, first_means said others served.events event mean first, answers));
          events_are = others_mean said others served.events mean;
          news_are = news_answered talk.turns said text ∙ is.news_are;
        },
      )

  replied_is : (served : Served E T) (talk : Talk) (question : Q) (text : List ℕ) → Is served talk → served.client.waiting ≡ 0
      → NextMeans Means served.client (Question question) → Replies question text
      → Is (replies served text) (record talk { turns = talk.turns ++ answer (take_through 10 served.client.unread) text ∷ [] })
  replied_is served talk question text is none_is next now =
      let said = take_through 10 served.client.unread in record {
        had = replied_talk served.client talk text is.had none_is next.0;
        answers_are = answers_more talk.turns said text is.answers_are (inr (question, next.1, now));
        events_are = is.events_are;
        news_are = news_answered talk.turns said text ∙ is.news_are;
      }

  news_then : (served : Served E T) (talk : Talk) (items : List T) (told : Option ℕ) → served.client.told ≡ told → Is served talk
      → MayTell served items → news_of (talk.turns ++ map (λ item. news (line item)) (untold served.client.told items))
      ≡ map line (told_then served.client.told served.told items)
  news_then served talk items None e is may =
      ap (λ (t : Option ℕ). news_of (talk.turns ++ map (λ item. news (line item)) (untold t items))) e
      ∙ (news_told line talk.turns []
      ∙ (append-nil (news_of talk.turns)
      ∙ (is.news_are ∙ ap (λ (t : Option ℕ). map line (told_then t served.told items)) (sym e))))
  news_then served talk items (Some n) e is may =
      let goes_on = may n e in
      subst (λ (xs : List T). news_of (talk.turns ++ map (λ item. news (line item)) (untold served.client.told xs)) ≡ map line xs)
      (sym goes_on.1) (told_in_order served.client talk line served.told goes_on.0 n is.had e is.news_are)
      ∙ ap (λ (t : Option ℕ). map line (told_then t served.told items)) (sym e)

  pub serves : Serves Means Answers Replies line (IsServed Means Answers Replies line)
  serves = record {
    unserved_is = record { had = record { lines = none []; waits = refl; text = refl; told = refl }; answers_are = tt; events_are = tt; news_are = refl };
    heard = λ served talk bytes is. record {
      had = heard_talk served.client talk bytes is.had;
      answers_are = is.answers_are;
      events_are = is.events_are;
      news_are = is.news_are;
    };
    took = λ served talk event is next. record {
      had = took_talk served.client talk is.had next.0;
      answers_are = is.answers_are;
      events_are = one_more talk.waiting served.events (take_through 10 served.client.unread) event is.events_are next.1;
      news_are = is.news_are;
    };
    skipped = λ served talk is feed. record {
      had = skipped_talk served.client talk is.had feed;
      answers_are = is.answers_are;
      events_are = is.events_are;
      news_are = is.news_are;
    };
    answered = answered_is;
    replied = replied_is;
    told_more = λ served talk items is may. record {
      had = told_talk served.client talk line items is.had;
      answers_are = answers_told talk.turns (untold served.client.told items) is.answers_are;
      events_are = is.events_are;
      news_are = news_then served talk items served.client.told refl is may;
    };
    sent = λ served talk count is. record {
      had = sent_talk served.client talk count is.had;
      answers_are = is.answers_are;
      events_are = is.events_are;
      news_are = is.news_are;
    };
    watched = λ served talk is. record {
      had = watches_talk served.client talk is.had;
      answers_are = is.answers_are;
      events_are = is.events_are;
      news_are = is.news_are;
    };
    left = λ served talk is. record {
      had = same_talk served.client (leaves served.client) talk refl refl refl refl is.had;
      answers_are = is.answers_are;
      events_are = is.events_are;
      news_are = is.news_are;
    };
    closed = λ served talk is. record {
      had = same_talk served.client (closes served.client) talk refl refl refl refl is.had;
      answers_are = is.answers_are;
      events_are = is.events_are;
      news_are = is.news_are;
    };
  }
