-- Lines whose events wait for their answers.
use Rattle.std.proofs.Common.{◌≡◌, ◌≢◌, ℕ, ◌+◌, ◌-◌, ◌^◌, ◌<◌, ◌≤◌, Bool, true, List, [], ◌∷◌, ◌++◌, Option, Some, length, refl, sym, subst, arith, inl, inr, true≢false}
use Rattle.std.specs.Prelude.{IfErr, IfSome, IsErr, IsErrAnd, Result, Ok, Err, flat_map}
use Rattle.std.specs.Io.BufRead.{drop_through}
use Rattle.std.specs.Io.KnownBytes.{Appends}
use Rattle.std.proofs.lemmas.List.{append_assoc, append-nil}
use Rattle.cmh_frames.specs.Topology.{Topology}
use Rattle.cmh_frames.specs.declared.event.Event.{Event}
use Rattle.cmh_console.proofs.LinesSeen.{if_some}
use Rattle.cmh_console.specs.Lines.{IsNextLine, IsEndless, IsLineFault}
use Rattle.cmh_console.specs.declared.lines.LineFault.{LineFault}
use Rattle.cmh_console.specs.declared.lines.NextLine.{NextLine}
use Rattle.cmh_console.specs.declared.lines.NextLine.TheVariants.{End}
use Rattle.cmh_console.specs.declared.dialogue.DialogueFault.{DialogueFault}
use Rattle.cmh_console.proofs.LineLemmas.{HasLeft, at_some, endless_input, length-drop_through, unread_err}
use Rattle.std.proofs.KnownBytes.{Appends-trans}
use Rattle.cmh_console.proofs.Dialogues.{HasTalked, begun, first_is}
use Rattle.cmh_console.specs.Dialogue.{Conversed, Dialogue, HasAnswered, IsDialogueFault, line_in, line_of, of_line, turn}
use Rattle.cmh_console.specs.declared.dialogue.Flow.{Flow}
use Rattle.cmh_console.specs.declared.dialogue.Flow.TheVariants.{Awaits}
use Rattle.cmh_console.specs.declared.script.Command.TheVariants.{Act}
use Rattle.cmh_console.specs.declared.script.Line.TheVariants.{Command}
use Rattle.cmh_setting.specs.declared.site_script.SiteLine.{SiteLine}
use Rattle.cmh_setting.specs.declared.site_script.SiteLine.TheVariants.{Event as SiteEvent}
use Rattle.cmh_talk.specs.SiteReplies.{reply_text}
use Rattle.cmh_run_site.specs.SiteTalk.{IsTurnOfSite, LeadToOthers, WasSaidToSite}
use Rattle.cmh_talk.specs.Together.{AreStepped, WereAnswered}
use Rattle.cmh_run_site.specs.Together.{LinesSay, SaidTurn, SaysEvent, more, none}
use Rattle.cmh_talk.specs.declared.site_reply.SiteReply.{SiteReply}

-- one line more says one event more
said_more : (bytes now : List ℕ) (process : ℕ) (event : Event) (events : List Event) → LinesSay bytes events now → 0 < length now
    → WasSaidToSite (line_in now) (SiteEvent (Command (Act process event))) → LinesSay bytes (events ++ event ∷ []) (drop_through 10 now)
said_more bytes _ process event _ (none _) some says = more bytes (drop_through 10 bytes) process event [] some says (none (drop_through 10 bytes))
said_more bytes now process event _ (more _ _ p e es first said others) some says =
    more bytes (drop_through 10 now) p e (es ++ event ∷ []) first said (said_more (drop_through 10 bytes) now process event es others some says)

module _ (t : Topology) (site : ℕ) (first : Bool) (bytes : List ℕ) where
  -- the events of lines were answered in their order
  all_answered : (rest now text : List ℕ) (last : Bool) (events : List Event) (replies : List SiteReply)
      → Dialogue Bool (IsTurnOfSite t site) first bytes rest text last Awaits → LinesSay rest events now → AreStepped events replies
      → Dialogue Bool (IsTurnOfSite t site) first bytes now (text ++ flat_map reply_text replies) last Awaits
  all_answered rest _ text last _ [] dialogue (none _) are =
      subst (λ (said : List ℕ). Dialogue Bool (IsTurnOfSite t site) first bytes rest said last Awaits) (sym (append-nil text)) dialogue
  all_answered rest _ text last _ (reply ∷ replies) dialogue (none _) are = absurd are
  all_answered rest now text last _ [] dialogue (more _ _ process event others some says lines) are = absurd are
  all_answered rest now text last _ (reply ∷ replies) dialogue (more _ _ process event others some says lines) are =
      subst (λ (said : List ℕ). Dialogue Bool (IsTurnOfSite t site) first bytes now said last Awaits) (append_assoc text (reply_text reply) (flat_map reply_text replies))
      (all_answered (drop_through 10 rest) now (text ++ reply_text reply) last others replies
      (turn rest text (reply_text reply) last last Awaits dialogue some
      (record { said = SiteEvent (Command (Act process event)); reply = reply; says = says; answers = (are.0, refl, refl); text_is = refl }))
      lines are.1)

  -- n lines were read, and answered but for those whose events wait
  pub record WaitedSoFar (now old out : Option (List ℕ)) (last : Bool) (events : List Event) (n : ℕ) : Type 0 where
    pub rest : List ℕ
    pub left : List ℕ
    pub text : List ℕ
    pub now_is : now ≡ Some left
    pub says : LinesSay rest events left
    pub dialogue : Dialogue Bool (IsTurnOfSite t site) first bytes rest text last Awaits
    pub wrote : Appends old out text
    pub counted : n + length left ≤ length bytes

-- the same, where the reader tells its bytes
abbrev pub HasWaited : Topology → ℕ → Bool → Option (List ℕ) → Option (List ℕ) → Option (List ℕ) → Option (List ℕ) → Bool → List Event → ℕ → Type 0
HasWaited t site first start now old out last events n =
    (bytes : List ℕ) → start ≡ Some bytes → WaitedSoFar t site first bytes now old out last events n

module _ (t : Topology) (site : ℕ) (first : Bool) (start old now out : Option (List ℕ)) (last : Bool) (n : ℕ) where
  none_waits : HasTalked Bool (IsTurnOfSite t site) first start now old out last n → HasWaited t site first start now old out last [] n
  none_waits so_far = λ bytes e.
      let s = so_far bytes e in
      record { rest = s.rest; left = s.rest; text = s.text; now_is = s.now_is; says = none s.rest; dialogue = s.dialogue; wrote = s.wrote; counted = s.counted }

module _ (t : Topology) (site : ℕ) (first : Bool) (start old now out : Option (List ℕ)) (last : Bool) (events : List Event) (n : ℕ)
    (so_far : HasWaited t site first start now old out last events n) where
  -- one more waits
  pub one_waits : (after : Option (List ℕ)) (next : NextLine) (process : ℕ) (event : Event)
      → IfSome now (λ bytes. IsNextLine bytes next) → IfSome now (λ bytes. after ≡ Some (drop_through 10 bytes)) → next ≢ End
      → WasSaidToSite (line_of next) (SiteEvent (Command (Act process event)))
      → HasWaited t site first start after old out last (events ++ event ∷ []) (n + 1)
  one_waits after next process event is left going says = λ bytes e.
      let s = so_far bytes e in
      let one = first_is s.left next (at_some now (λ bytes. IsNextLine bytes next) s.left s.now_is is) going in
      let shorter = length-drop_through 10 s.left one.0 in
      let counted = s.counted in
      record {
        rest = s.rest;
        left = drop_through 10 s.left;
        text = s.text;
        now_is = at_some now (λ bytes. after ≡ Some (drop_through 10 bytes)) s.left s.now_is left;
        says = said_more s.rest s.left process event events s.says one.0
            (subst (λ (l : Option (List ℕ)). WasSaidToSite l (SiteEvent (Command (Act process event)))) one.1 says);
        dialogue = s.dialogue;
        wrote = s.wrote;
        counted = omega (arith, shorter, counted);
      }

  -- those that wait are answered
  pub all_told : (wrote : Option (List ℕ)) → WereAnswered events out wrote → HasTalked Bool (IsTurnOfSite t site) first start now old wrote last n
  all_told wrote told = λ bytes e.
      let s = so_far bytes e in
      record {
        rest = s.left;
        text = s.text ++ flat_map reply_text told.replies;
        now_is = s.now_is;
        dialogue = all_answered t site first bytes s.rest s.left s.text last events told.replies s.dialogue s.says told.are;
        wrote = Appends-trans old out wrote s.text (flat_map reply_text told.replies) s.wrote told.wrote;
        counted = s.counted;
      }

  -- a fault comes after the lines that were answered
  pub waited_some : (has_failed : Bool) (fault : DialogueFault) → IfSome start (λ bytes. Conversed (IsTurnOfSite t site) first bytes old out has_failed (Err fault))
  waited_some has_failed fault = if_some start _ (λ bytes e.
      let s = so_far bytes e in
      record { text = s.text; is = (s.rest, last, s.dialogue); wrote = inr s.wrote })

  pub waited_err : (has_failed : Bool) (r : Result Flow DialogueFault) → IsErr r → IfSome start (λ bytes. Conversed (IsTurnOfSite t site) first bytes old out has_failed r)
  waited_err has_failed (Ok x) err = absurd (true≢false (sym err))
  waited_err has_failed (Err fault) err = waited_some has_failed fault

  pub waited_failed : (after : Option (List ℕ)) (has_failed : Bool) (r : Result Flow DialogueFault) → IsErr r → has_failed ≡ true
      → IfSome start (λ bytes. Conversed (IsTurnOfSite t site) first bytes old after has_failed r)
  waited_failed after has_failed (Ok x) err failed = absurd (true≢false (sym err))
  waited_failed after has_failed (Err fault) err failed = if_some start _ (λ bytes e.
      let s = so_far bytes e in
      record { text = s.text; is = (s.rest, last, s.dialogue); wrote = inl failed })

  has_left : (bytes : List ℕ) → start ≡ Some bytes → HasLeft bytes now n
  has_left bytes e = let s = so_far bytes e in record { left = s.left; now_is = s.now_is; counted = s.counted }

  pub endless_wait : 2 ^ 64 - 1 ≤ n → IsEndless start
  endless_wait = endless_input start now n has_left

  pub unread_waiting : (read_failed write_failed : Bool) (r : Result Flow DialogueFault) (lower : LineFault) → IsErrAnd r (λ fault. fault ≡ of_line lower) → IsLineFault now read_failed lower
      → IfErr r (IsDialogueFault start read_failed write_failed)
  unread_waiting = unread_err start now n has_left

-- a line that says this was answered
pub answered_line : (t' : Topology) (here : ℕ) (t : Topology) (site : ℕ) (was is : Bool) (flow : Flow) (line old new : Option (List ℕ)) (said : SiteLine)
    → t' ≡ t → here ≡ site → WasSaidToSite line said → SaidTurn t' here was is said flow old new
    → HasAnswered (λ line text. IsTurnOfSite t site was is line text flow) line old new
answered_line t' here t site was is flow line old new said same kept says turned =
    let first = subst (λ (u : Topology). SaidTurn u here was is said flow old new) same turned in
    let second = subst (λ (s : ℕ). SaidTurn t s was is said flow old new) kept first in
    record {
      text = reply_text second.reply;
      answered = record { said = said; reply = second.reply; says = says; answers = second.answers; text_is = refl };
      wrote = second.wrote;
    }

-- no line was read
pub waits_begin : (t : Topology) (site : ℕ) (first : Bool) (start old : Option (List ℕ)) (events : List Event) → events ≡ []
    → (length events < 64) × HasWaited t site first start start old old first events 0
waits_begin t site first start old events is = subst (λ (es : List Event). (length es < 64) × HasWaited t site first start start old old first es 0) (sym is)
    (omega arith, none_waits t site first start old start old first 0 (begun Bool (IsTurnOfSite t site) first start old))

-- none waits after they were answered
pub waits_anew : (t : Topology) (site : ℕ) (first : Bool) (start old now out : Option (List ℕ)) (last : Bool) (events : List Event) (n : ℕ) → events ≡ []
    → HasTalked Bool (IsTurnOfSite t site) first start now old out last n → (length events < 64) × HasWaited t site first start now old out last events n
waits_anew t site first start old now out last events n is so_far = subst (λ (es : List Event). (length es < 64) × HasWaited t site first start now old out last es n) (sym is)
    (omega arith, none_waits t site first start old now out last n so_far)

pub turn_anew : (t' : Topology) (here : ℕ) (t : Topology) (site : ℕ) (first : Bool) (start old now out : Option (List ℕ)) (last : Bool) (events : List Event) (n : ℕ)
    (links : List ℕ) → t' ≡ t → here ≡ site → LeadToOthers t site links → events ≡ []
    → HasTalked Bool (IsTurnOfSite t site) first start now old out last n
    → (t' ≡ t) × (here ≡ site) × (length events < 64) × HasWaited t site first start now old out last events n × LeadToOthers t site links
turn_anew t' here t site first start old now out last events n links same kept lead is so_far =
    let w = waits_anew t site first start old now out last events n is so_far in (same, kept, w.0, w.1, lead)

-- one more waits, in a list of any name
pub waits_on : (t : Topology) (site : ℕ) (first : Bool) (start old now out : Option (List ℕ)) (last : Bool) (events : List Event) (n : ℕ)
    → HasWaited t site first start now old out last events n
    → (after left : Option (List ℕ)) (grown : List Event) (next : NextLine) (said : SiteLine) (event : Event) → left ≡ after → grown ≡ events ++ event ∷ []
    → IfSome now (λ bytes. IsNextLine bytes next) → IfSome now (λ bytes. after ≡ Some (drop_through 10 bytes)) → next ≢ End
    → WasSaidToSite (line_of next) said → SaysEvent said event → HasWaited t site first start left old out last grown (n + 1)
waits_on t site first start old now out last events n so_far after left grown next said event same are is rest going says event_is =
    subst (λ (b : Option (List ℕ)). HasWaited t site first start b old out last grown (n + 1)) (sym same)
    (subst (λ (es : List Event). HasWaited t site first start after old out last es (n + 1)) (sym are)
    (one_waits t site first start old now out last events n so_far after next event_is.0 event is rest going
    (subst (λ (l : SiteLine). WasSaidToSite (line_of next) l) event_is.1 says)))
