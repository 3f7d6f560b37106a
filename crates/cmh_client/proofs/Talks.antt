-- What becomes of a talk at each call.
use Rattle.std.proofs.Common.{◌≡◌, ℕ, zero, suc, ◌<◌, List, [], ◌∷◌, ◌++◌, length, map, take, drop, flat_map, Option, Some, None, refl, sym, ap, subst, ◌∙◌, arith, append_assoc, append-nil, length-append, length-drop, take-append-drop}
use Rattle.std.proofs.lemmas.List.{length-map, map-append}
use Rattle.std.proofs.lemmas.List.Concat.{flat_map-append}
use Rattle.std.specs.Io.BufRead.{drop_through, take_through}
use Rattle.cmh_client.specs.Clients.{State, announces, answers, carries, hears, heeded, skips, takes, tells, told_more, told_of, untold, watching}
use Rattle.cmh_client.specs.Lines.{BeginsWith, HasFeed}
use Rattle.cmh_client.specs.Talks.{HasHad, Talk, Turn, answer, count_of, lines_of, news, news_of, turn_text}
use Rattle.cmh_client.proofs.Feeds.{begins_more, begins_one_more, begins_past_one}

-- ---- turns

pub lines_answered : (turns : List Turn) (line : List ℕ) (text : List ℕ) → lines_of (turns ++ answer line text ∷ []) ≡ lines_of turns ++ line ∷ []
lines_answered [] line text = refl
lines_answered (answer l t ∷ turns) line text = ap (λ (ls : List (List ℕ)). l ∷ ls) (lines_answered turns line text)
lines_answered (news t ∷ turns) line text = lines_answered turns line text

pub news_answered : (turns : List Turn) (line : List ℕ) (text : List ℕ) → news_of (turns ++ answer line text ∷ []) ≡ news_of turns
news_answered [] line text = refl
news_answered (answer l t ∷ turns) line text = news_answered turns line text
news_answered (news t ∷ turns) line text = ap (λ (ts : List (List ℕ)). t ∷ ts) (news_answered turns line text)

module _ {T : Type 0} (line : T → List ℕ) where
  abbrev told_turns : List T → List Turn
  told_turns items = map (λ item. news (line item)) items

  lines_none : (items : List T) → lines_of (told_turns items) ≡ []
  lines_none [] = refl
  lines_none (item ∷ items) = lines_none items

  lines_told : (turns : List Turn) (items : List T) → lines_of (turns ++ told_turns items) ≡ lines_of turns
  lines_told [] items = lines_none items
  lines_told (answer l t ∷ turns) items = ap (λ (ls : List (List ℕ)). l ∷ ls) (lines_told turns items)
  lines_told (news t ∷ turns) items = lines_told turns items

  news_all : (items : List T) → news_of (told_turns items) ≡ map line items
  news_all [] = refl
  news_all (item ∷ items) = ap (λ (ts : List (List ℕ)). line item ∷ ts) (news_all items)

  pub news_told : (turns : List Turn) (items : List T) → news_of (turns ++ told_turns items) ≡ news_of turns ++ map line items
  news_told [] items = news_all items
  news_told (answer l t ∷ turns) items = news_told turns items
  news_told (news t ∷ turns) items = ap (λ (ts : List (List ℕ)). t ∷ ts) (news_told turns items)

  text_all : (items : List T) → flat_map turn_text (told_turns items) ≡ flat_map line items
  text_all [] = refl
  text_all (item ∷ items) = ap (λ (t : List ℕ). line item ++ t) (text_all items)

-- a text is said after what was said before
pub said_more : (said to_say text : List ℕ) (turns more : List Turn) → said ++ to_say ≡ flat_map turn_text turns → flat_map turn_text more ≡ text
    → said ++ (to_say ++ text) ≡ flat_map turn_text (turns ++ more)
said_more said to_say text turns more before now =
    sym (append_assoc said to_say text)
    ∙ (ap (λ (t : List ℕ). t ++ text) before
    ∙ (ap (λ (t : List ℕ). flat_map turn_text turns ++ t) (sym now)
    ∙ sym (flat_map-append turn_text turns more)))

-- ---- calls

pub heard_talk : (client : State) (talk : Talk) (bytes : List ℕ) → HasHad client talk
    → HasHad (hears client bytes) (record talk { heard = talk.heard ++ bytes })
heard_talk client talk bytes had = record {
  lines = begins_more talk.heard bytes (lines_of talk.turns ++ talk.waiting) talk.passed client.unread had.lines;
  waits = had.waits;
  text = had.text;
  told = had.told;
}

pub took_talk : (client : State) (talk : Talk) → HasHad client talk → HasFeed client.unread
    → HasHad (takes client) (record talk { waiting = talk.waiting ++ take_through 10 client.unread ∷ [] })
took_talk client talk had feed =
    let waits = had.waits in
    let count = length-append talk.waiting (take_through 10 client.unread ∷ []) in record {
      lines = subst (λ (ls : List (List ℕ)). BeginsWith talk.heard ls talk.passed (drop_through 10 client.unread))
          (append_assoc (lines_of talk.turns) talk.waiting (take_through 10 client.unread ∷ []))
          (begins_one_more talk.heard (lines_of talk.turns ++ talk.waiting) talk.passed client.unread had.lines feed);
      waits = omega (arith, waits, count);
      text = had.text;
      told = had.told;
    }

pub skipped_talk : (client : State) (talk : Talk) → HasHad client talk → HasFeed client.unread
    → HasHad (skips client) (record talk { passed = talk.passed ++ take_through 10 client.unread ∷ [] })
skipped_talk client talk had feed = record {
  lines = begins_past_one talk.heard (lines_of talk.turns ++ talk.waiting) talk.passed client.unread had.lines feed;
  waits = had.waits;
  text = had.text;
  told = had.told;
}

first_waits : (waiting : List (List ℕ)) (count : ℕ) → length waiting ≡ count → 0 < count
    → (line : List ℕ) × (others : List (List ℕ)) × (waiting ≡ line ∷ others)
first_waits [] count is some = absurd (omega (arith, is, some))
first_waits (line ∷ others) count is some = (line, others, refl)

pub answered_talk : (client : State) (talk : Talk) (text : List ℕ) → HasHad client talk → 0 < client.waiting
    → (line : List ℕ) × (others : List (List ℕ)) × (talk.waiting ≡ line ∷ others)
    × HasHad (answers client text) (record talk { turns = talk.turns ++ answer line text ∷ []; waiting = others })
answered_talk client talk text had some =
    let first = first_waits talk.waiting client.waiting had.waits some in
    let line = first.0 in
    let others = first.1 in
    let is : talk.waiting ≡ line ∷ others = first.2 in
    let waits = had.waits in
    let count : length talk.waiting ≡ length (line ∷ others) = ap length is in (
      line,
      others,
      is,
      record {
        lines = subst (λ (ls : List (List ℕ)). BeginsWith talk.heard ls talk.passed client.unread)
            (ap (λ (ws : List (List ℕ)). lines_of talk.turns ++ ws) is
            ∙ (sym (append_assoc (lines_of talk.turns) (line ∷ []) others)
            ∙ ap (λ (ls : List (List ℕ)). ls ++ others) (sym (lines_answered talk.turns line text)))) had.lines;
        waits = omega (arith, waits, count);
        text = said_more talk.said client.to_say text talk.turns (answer line text ∷ []) had.text (append-nil text);
        told = ap length (news_answered talk.turns line text) ∙ had.told;
      },
    )

news_counted : {T : Type 0} (line : T → List ℕ) (told : Option ℕ) (turns : List Turn) (items : List T) → length (news_of turns) ≡ count_of told
    → length (news_of (turns ++ map (λ item. news (line item)) (untold told items))) ≡ count_of (told_of told items)
news_counted line None turns items is = ap length (news_told line turns [] ∙ append-nil (news_of turns)) ∙ is
news_counted line (Some told) turns items is =
    let both = length-append (news_of turns) (map line (drop told items)) in
    let each = length-map (drop told items) line in
    let rest = length-drop told items in
    ap length (news_told line turns (drop told items)) ∙ omega (arith, both, each, rest, is)

pub told_talk : {T : Type 0} (client : State) (talk : Talk) (line : T → List ℕ) (items : List T) → HasHad client talk
    → HasHad (tells line client items) (record talk { turns = talk.turns ++ map (λ item. news (line item)) (untold client.told items) })
told_talk client talk line items had =
    let more = untold client.told items in record {
      lines = subst (λ (ls : List (List ℕ)). BeginsWith talk.heard (ls ++ talk.waiting) talk.passed client.unread) (sym (lines_told line talk.turns more)) had.lines;
      waits = had.waits;
      text = said_more talk.said client.to_say (flat_map line more) talk.turns (map (λ item. news (line item)) more) had.text (text_all line more);
      told = news_counted line client.told talk.turns items had.told;
    }

announced_count : {T : Type 0} (line : T → List ℕ) (told : Option ℕ) (turns : List Turn) (items : List T) → length (news_of turns) ≡ count_of told
    → length (news_of (turns ++ map (λ item. news (line item)) (heeded told items))) ≡ count_of (told_more told items)
announced_count line None turns items is = ap length (news_told line turns [] ∙ append-nil (news_of turns)) ∙ is
announced_count line (Some told) turns items is =
    let both = length-append (news_of turns) (map line items) in
    let each = length-map items line in
    ap length (news_told line turns items) ∙ omega (arith, both, each, is)

pub announced_talk : {T : Type 0} (client : State) (talk : Talk) (line : T → List ℕ) (items : List T) → HasHad client talk
    → HasHad (announces line client items) (record talk { turns = talk.turns ++ map (λ item. news (line item)) (heeded client.told items) })
announced_talk client talk line items had =
    let more = heeded client.told items in record {
      lines = subst (λ (ls : List (List ℕ)). BeginsWith talk.heard (ls ++ talk.waiting) talk.passed client.unread) (sym (lines_told line talk.turns more)) had.lines;
      waits = had.waits;
      text = said_more talk.said client.to_say (flat_map line more) talk.turns (map (λ item. news (line item)) more) had.text (text_all line more);
      told = announced_count line client.told talk.turns items had.told;
    }

pub sent_talk : (client : State) (talk : Talk) (count : ℕ) → HasHad client talk
    → HasHad (carries client count) (record talk { said = talk.said ++ take count client.to_say })
sent_talk client talk count had = record {
  lines = had.lines;
  waits = had.waits;
  text = append_assoc talk.said (take count client.to_say) (drop count client.to_say)
      ∙ (ap (λ (t : List ℕ). talk.said ++ t) (take-append-drop count client.to_say) ∙ had.text);
  told = had.told;
}

watching_counts : (told : Option ℕ) → count_of (watching told) ≡ count_of told
watching_counts None = refl
watching_counts (Some told) = refl

pub watches_talk : (client : State) (talk : Talk) → HasHad client talk → HasHad (record client { told = watching client.told }) talk
watches_talk client talk had = record {
  lines = had.lines;
  waits = had.waits;
  text = had.text;
  told = had.told ∙ sym (watching_counts client.told);
}

-- who said its last, or was refused memory, has had the same talk
pub same_talk : (client other : State) (talk : Talk) → other.unread ≡ client.unread → other.waiting ≡ client.waiting
    → other.to_say ≡ client.to_say → other.told ≡ client.told → HasHad client talk → HasHad other talk
same_talk client other talk unread waiting to_say told had = record {
  lines = subst (λ (rest : List ℕ). BeginsWith talk.heard (lines_of talk.turns ++ talk.waiting) talk.passed rest) (sym unread) had.lines;
  waits = had.waits ∙ sym waiting;
  text = ap (λ (t : List ℕ). talk.said ++ t) to_say ∙ had.text;
  told = had.told ∙ ap count_of (sym told);
}

drop_before : {T : Type 0} (before more : List T) (n : ℕ) → n ≡ length before → drop n (before ++ more) ≡ more
drop_before [] more zero is = refl
drop_before [] more (suc n) is = absurd (omega (arith, is))
drop_before (x ∷ xs) more zero is = absurd (omega (arith, is))
drop_before (x ∷ xs) more (suc n) is = drop_before xs more n (omega (arith, is))

untold_is : {T : Type 0} (before more : List T) (told : Option ℕ) (n : ℕ) → told ≡ Some n → n ≡ length before → untold told (before ++ more) ≡ more
untold_is before more told n is count = ap (λ (t : Option ℕ). untold t (before ++ more)) is ∙ drop_before before more n count

-- what was told of is a beginning of the list, and then the list
pub told_in_order : {T : Type 0} (client : State) (talk : Talk) (line : T → List ℕ) (before more : List T) (told : ℕ) → HasHad client talk
    → client.told ≡ Some told → news_of talk.turns ≡ map line before
    → news_of (talk.turns ++ map (λ item. news (line item)) (untold client.told (before ++ more))) ≡ map line (before ++ more)
told_in_order client talk line before more told had watches is =
    let count : told ≡ length before =
    sym (ap count_of watches) ∙ (sym had.told ∙ (ap length is ∙ length-map before line)) in
    news_told line talk.turns (untold client.told (before ++ more))
    ∙ (ap (λ (ts : List (List ℕ)). ts ++ map line (untold client.told (before ++ more))) is
    ∙ (ap (λ (xs : _). map line before ++ map line xs) (untold_is before more client.told told watches count)
    ∙ sym (map-append line before more)))
