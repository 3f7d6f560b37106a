-- The lines of a script that are answered one after the other.
use Rattle.std.proofs.Common.{◌≡◌, ◌≢◌, ℕ, suc, ◌+◌, ◌-◌, ◌^◌, ◌<◌, ◌≤◌, Bool, true, false, List, [], ◌∷◌, ◌++◌, Option, None, Some, length, nat_lt, refl, sym, ap, subst, ◌∙◌, arith, inl, inr, true≢false}
use Rattle.std.specs.Prelude.{if◌then◌else◌, IfErr, IfSome, IsErr, IsErrAnd, OnErr, OnOk, Result, Ok, Err}
use Rattle.std.specs.Io.BufRead.{first_line, drop_through}
use Rattle.std.specs.Io.KnownBytes.{Appends, Keeps}
use Rattle.std.proofs.KnownBytes.{Appends-kept, Appends-nil, Appends-trans}
use Rattle.std.proofs.lemmas.Bool.{lt-ltb, le-ltb}
use Rattle.cmh_console.specs.Device.{Tells}
use Rattle.cmh_console.specs.Dialogue.{IsDialogueFault, line_of}
use Rattle.cmh_console.specs.Faults.{status_of}
use Rattle.cmh_console.specs.Lines.{IsEndless}
use Rattle.cmh_console.specs.declared.device.WriteFault.{WriteFault}
use Rattle.cmh_console.specs.declared.dialogue.DialogueFault.{DialogueFault}
use Rattle.cmh_console.specs.declared.dialogue.DialogueFault.TheVariants.{Input, Output, Memory}
use Rattle.cmh_console.specs.declared.lines.NextLine.{NextLine}
use Rattle.cmh_console.specs.declared.lines.NextLine.TheVariants.{Line as Read, TooLong, End}
use Rattle.cmh_console.proofs.LineLemmas.{HasLeft, at_some, endless_input, length-drop_through}
use Rattle.cmh_console.proofs.LinesSeen.{if_some}
use Rattle.cmh_script3.specs.Lines.{IsNextLine}
use Rattle.cmh_play3.specs.PlayStates.{PlayState}
use Rattle.cmh_play3.specs.Play.{Answered, Answers, Dialogue, IsTurnOfScript, PlayedTo, as_fault, begin, line_in, new_state, status_after, turn}

long_some : (bytes : List ℕ) → 4096 < length (first_line bytes) → 0 < length bytes
long_some [] long = absurd (omega (arith, long))
long_some (b ∷ bs) long = omega arith

-- what was read is the first line, and there is one
first_is : (bytes : List ℕ) (next : NextLine) → IsNextLine bytes next → next ≢ End → (0 < length bytes) × (line_of next ≡ line_in bytes)
first_is bytes (Read line) is more =
    let short : nat_lt 4096 (length (first_line bytes)) ≡ false = le-ltb 4096 (length (first_line bytes)) (subst (λ (l : List ℕ). length l ≤ 4096) is.1 is.2) in
    (is.0, ap Some is.1 ∙ sym (ap (λ (b : Bool). if b then None else Some (first_line bytes)) short))
first_is bytes TooLong is more =
    (long_some bytes is, sym (ap (λ (b : Bool). if b then None else Some (first_line bytes)) (lt-ltb 4096 (length (first_line bytes)) is)))
first_is bytes End is more = absurd (more refl)

-- n lines of the bytes were answered
pub record TalkedSoFar (bytes : List ℕ) (now old out : Option (List ℕ)) (last : PlayState) (n : ℕ) : Type 0 where
  pub rest : List ℕ
  pub text : List ℕ
  pub now_is : now ≡ Some rest
  pub dialogue : Dialogue bytes rest text last
  pub wrote : Appends old out text
  pub counted : n + length rest ≤ length bytes

-- the same, where the reader tells its bytes
abbrev pub HasTalked : Option (List ℕ) → Option (List ℕ) → Option (List ℕ) → Option (List ℕ) → PlayState → ℕ → Type 0
HasTalked start now old out last n = (bytes : List ℕ) → start ≡ Some bytes → TalkedSoFar bytes now old out last n

-- some lines were answered, unless the writer failed
abbrev pub AnsweredSome : List ℕ → Option (List ℕ) → Option (List ℕ) → Bool → Type 0
AnsweredSome bytes old new has_failed = (text : List ℕ) × (rest : List ℕ) × Answers bytes rest text × Tells old new has_failed text

-- a fault has a status above 0
status_above_0 : (fault : DialogueFault) → (n : ℕ) × (status_of (as_fault fault) ≡ suc n)
status_above_0 Input = (2, refl)
status_above_0 Output = (2, refl)
status_above_0 Memory = (0, refl)

pub answered_some : (bytes : List ℕ) (old new : Option (List ℕ)) (has_failed : Bool) (fault : DialogueFault)
    → AnsweredSome bytes old new has_failed → Answered bytes old new has_failed (status_of (as_fault fault))
answered_some bytes old new has_failed fault some =
    subst (Answered bytes old new has_failed) (sym (status_above_0 fault).1) some

module _ (start old : Option (List ℕ)) where
  pub begun : HasTalked start start old old new_state 0
  begun = λ bytes e. record {
    rest = bytes;
    text = [];
    now_is = e;
    dialogue = begin;
    wrote = Appends-nil old;
    counted = omega arith;
  }

  module _ (now out : Option (List ℕ)) (last : PlayState) (n : ℕ) (so_far : HasTalked start now old out last n) where
    -- one line more
    pub talked_more : (after wrote : Option (List ℕ)) (next : NextLine) (later : PlayState) (said : List ℕ)
        → IfSome now (λ bytes. IsNextLine bytes next) → IfSome now (λ bytes. after ≡ Some (drop_through 10 bytes)) → next ≢ End
        → IsTurnOfScript last later (line_of next) said → Appends out wrote said → HasTalked start after old wrote later (n + 1)
    talked_more after wrote next later said is left more answered writes = λ bytes e.
        let s = so_far bytes e in
        let one = first_is s.rest next (at_some now (λ bytes. IsNextLine bytes next) s.rest s.now_is is) more in
        let shorter = length-drop_through 10 s.rest one.0 in
        let counted = s.counted in
        record {
          rest = drop_through 10 s.rest;
          text = s.text ++ said;
          now_is = at_some now (λ bytes. after ≡ Some (drop_through 10 bytes)) s.rest s.now_is left;
          dialogue = turn s.rest s.text said last later s.dialogue one.0 (subst (λ (l : Option (List ℕ)). IsTurnOfScript last later l said) one.1 answered);
          wrote = Appends-trans old out wrote s.text said s.wrote writes;
          counted = omega (arith, shorter, counted);
        }

    -- no line is left
    pub talked_all : (next : NextLine) → IfSome now (λ bytes. IsNextLine bytes next) → next ≡ End → IfSome start (λ bytes. PlayedTo bytes old out last)
    talked_all next is ends = if_some start _ (λ bytes e.
        let s = so_far bytes e in
        let none : s.rest ≡ [] = subst (IsNextLine s.rest) ends (at_some now (λ bytes. IsNextLine bytes next) s.rest s.now_is is) in
        (s.text, subst (λ (r : List ℕ). Dialogue bytes r s.text last) none s.dialogue, s.wrote))

    -- a fault comes after these lines
    pub talked_some : (has_failed : Bool) → IfSome start (λ bytes. Answered bytes old out has_failed 1)
    talked_some has_failed = if_some start _ (λ bytes e.
        let s = so_far bytes e in
        (s.text, s.rest, record { last = last; dialogue = s.dialogue }, inr s.wrote))

    -- the writer failed after them
    pub talked_failed : (after : Option (List ℕ)) (has_failed : Bool) → has_failed ≡ true
        → IfSome start (λ bytes. Answered bytes old after has_failed 1)
    talked_failed after has_failed failed = if_some start _ (λ bytes e.
        let s = so_far bytes e in
        (s.text, s.rest, record { last = last; dialogue = s.dialogue }, inl failed))

    -- what is left of the input
    pub has_left : (bytes : List ℕ) → start ≡ Some bytes → HasLeft bytes now n
    has_left bytes e = let s = so_far bytes e in record { left = s.rest; now_is = s.now_is; counted = s.counted }

    pub endless_talk : 2 ^ 64 - 1 ≤ n → IsEndless start
    endless_talk = endless_input start now n has_left

-- ---- what was answered is flushed

tells_kept : (old out new : Option (List ℕ)) (before after : Bool) (text : List ℕ) → Tells old out before text → Keeps out new → after ≡ before → Tells old new after text
tells_kept old out new before after text (inl failed) kept same = inl (same ∙ failed)
tells_kept old out new before after text (inr wrote) kept same = inr (Appends-kept old out new text wrote kept)

-- or the writer fails
pub some_flushed : (start old out new : Option (List ℕ)) (before after : Bool) (flushed : Result (Unit {0}) WriteFault)
    → IfSome start (λ bytes. Answered bytes old out before 1) → Keeps out new → OnOk flushed (after ≡ before) → OnErr flushed (after ≡ true)
    → IfSome start (λ bytes. Answered bytes old new after 1)
some_flushed None old out new before after flushed c kept ok failed = tt
some_flushed (Some bytes) old out new before after (Ok x) c kept ok failed =
    (c.0, c.1, c.2, tells_kept old out new before after c.0 c.3 kept ok)
some_flushed (Some bytes) old out new before after (Err e) c kept ok failed = (c.0, c.1, c.2, inl failed)

pub all_flushed : (start old out new : Option (List ℕ)) (last : PlayState)
    → IfSome start (λ bytes. PlayedTo bytes old out last) → Keeps out new → IfSome start (λ bytes. PlayedTo bytes old new last)
all_flushed None old out new last all kept = tt
all_flushed (Some bytes) old out new last all kept = (all.0, all.1, Appends-kept old out new all.0 all.2 kept)

-- so all lines were answered
pub all_answered : (start old new : Option (List ℕ)) (has_failed : Bool) (last : PlayState)
    → IfSome start (λ bytes. PlayedTo bytes old new last) → IfSome start (λ bytes. Answered bytes old new has_failed 0)
all_answered None old new has_failed last all = tt
all_answered (Some bytes) old new has_failed last all = (all.0, record { last = last; dialogue = all.1 }, all.2)

-- no line was answered
pub none_answered : (start out : Option (List ℕ)) (has_failed : Bool) → IfSome start (λ bytes. Answered bytes out out has_failed 1)
none_answered None out has_failed = tt
none_answered (Some bytes) out has_failed = ([], bytes, record { last = new_state; dialogue = begin }, inr (Appends-nil out))

-- at a fault some lines were answered
pub some_err : {X : Type 0} (start old new : Option (List ℕ)) (has_failed : Bool) (r : Result X DialogueFault) → IsErr r
    → IfSome start (λ bytes. Answered bytes old new has_failed 1) → IfSome start (λ bytes. Answered bytes old new has_failed (status_after r))
some_err start old new has_failed (Ok x) err some = absurd (true≢false (sym err))
some_err None old new has_failed (Err fault) err some = tt
some_err (Some bytes) old new has_failed (Err fault) err some = answered_some bytes old new has_failed fault some

-- of running out of memory nothing is said
pub memory_fault : (start : Option (List ℕ)) (read_failed write_failed : Bool) (r : Result (Unit {0}) DialogueFault)
    → IsErrAnd r (λ fault. fault ≡ Memory) → IfErr r (IsDialogueFault start read_failed write_failed)
memory_fault start read_failed write_failed (Ok x) is = absurd is
memory_fault start read_failed write_failed (Err fault) is = subst (IsDialogueFault start read_failed write_failed) (sym is) tt
