-- Lines of a script that are answered one after the other.
use Rattle.std.proofs.Common.{◌≡◌, ◌≢◌, ℕ, ◌+◌, ◌-◌, ◌^◌, ◌<◌, ◌≤◌, Bool, true, false, List, [], ◌∷◌, ◌++◌, Option, None, Some, length, nat_lt, refl, sym, ap, subst, ◌∙◌, arith, inl, inr, true≢false}
use Rattle.std.specs.Prelude.{if◌then◌else◌, IfErr, IfSome, IsErr, IsErrAnd, Result, Ok, Err}
use Rattle.std.specs.Io.BufRead.{first_line, drop_through}
use Rattle.std.specs.Io.KnownBytes.{Appends}
use Rattle.std.proofs.lemmas.Bool.{lt-ltb, le-ltb}
use Rattle.cmh_console.proofs.LinesSeen.{if_some}
use Rattle.cmh_console.specs.Lines.{IsEndless, IsLineFault}
use Rattle.cmh_script3.specs.Lines.{IsNextLine}
use Rattle.cmh_console.specs.declared.lines.LineFault.{LineFault}
use Rattle.cmh_console.specs.declared.lines.NextLine.{NextLine}
use Rattle.cmh_console.specs.declared.lines.NextLine.TheVariants.{Line as Read, TooLong, End}
use Rattle.cmh_console.specs.declared.dialogue.DialogueFault.{DialogueFault}
use Rattle.cmh_console.specs.declared.dialogue.DialogueFault.TheVariants.{Input, Output, Memory}
use Rattle.cmh_console.proofs.LineLemmas.{HasLeft, at_some, endless_input, length-drop_through, unread_err}
use Rattle.std.proofs.KnownBytes.{Appends-nil, Appends-trans}
use Rattle.cmh_console.specs.Dialogue.{line_of, HasAnswered, IsAnswerFault, IsDialogueFault, of_line}
use Rattle.cmh_cluster3.specs.Talks.{Dialogue, begin, turn, Conversed}
use Rattle.cmh_talk3.specs.Said.{line_in}
use Rattle.cmh_console.specs.declared.dialogue.Flow.{Flow}
use Rattle.cmh_console.specs.declared.dialogue.Flow.TheVariants.{Awaits, Ends}

long_some : (bytes : List ℕ) → 4096 < length (first_line bytes) → 0 < length bytes
long_some [] long = absurd (omega (arith, long))
long_some (b ∷ bs) long = omega arith

-- what was read is the first line, and there is one
pub first_is : (bytes : List ℕ) (next : NextLine) → IsNextLine bytes next → next ≢ End → (0 < length bytes) × (line_of next ≡ line_in bytes)
first_is bytes (Read line) is more =
    let short : nat_lt 4096 (length (first_line bytes)) ≡ false = le-ltb 4096 (length (first_line bytes)) (subst (λ (l : List ℕ). length l ≤ 4096) is.1 is.2) in
    (is.0, ap Some is.1 ∙ sym (ap (λ (b : Bool). if b then None else Some (first_line bytes)) short))
first_is bytes TooLong is more =
    (long_some bytes is, sym (ap (λ (b : Bool). if b then None else Some (first_line bytes)) (lt-ltb 4096 (length (first_line bytes)) is)))
first_is bytes End is more = absurd (more refl)

-- n lines of the bytes were answered
pub record TalkedSoFar (S : Type 0) (answers : S → S → Option (List ℕ) → List ℕ → Flow → Type 0) (first : S) (bytes : List ℕ)
    (now old out : Option (List ℕ)) (last : S) (n : ℕ) : Type 0 where
  pub rest : List ℕ
  pub text : List ℕ
  pub now_is : now ≡ Some rest
  pub dialogue : Dialogue S answers first bytes rest text last Awaits
  pub wrote : Appends old out text
  pub counted : n + length rest ≤ length bytes

-- the same, where the reader tells its bytes
abbrev pub HasTalked : (S : Type 0) → (S → S → Option (List ℕ) → List ℕ → Flow → Type 0) → S → Option (List ℕ) → Option (List ℕ) → Option (List ℕ) → Option (List ℕ) → S → ℕ → Type 0
HasTalked S answers first start now old out last n = (bytes : List ℕ) → start ≡ Some bytes → TalkedSoFar S answers first bytes now old out last n

module _ (S : Type 0) (answers : S → S → Option (List ℕ) → List ℕ → Flow → Type 0) (first : S) (start old : Option (List ℕ)) where
  pub begun : HasTalked S answers first start start old old first 0
  begun = λ bytes e. record {
    rest = bytes;
    text = [];
    now_is = e;
    dialogue = begin;
    wrote = Appends-nil old;
    counted = omega arith;
  }

  module _ (now out : Option (List ℕ)) (last : S) (n : ℕ) (so_far : HasTalked S answers first start now old out last n) where
    -- one line more
    pub talked_more : (after wrote : Option (List ℕ)) (next : NextLine) (later : S) (flow : Flow)
        → IfSome now (λ bytes. IsNextLine bytes next) → IfSome now (λ bytes. after ≡ Some (drop_through 10 bytes)) → next ≢ End → flow ≡ Awaits
        → HasAnswered (λ said text. answers last later said text flow) (line_of next) out wrote → HasTalked S answers first start after old wrote later (n + 1)
    talked_more after wrote next later flow is left more awaits said = λ bytes e.
        let s = so_far bytes e in
        let answered = subst (λ (f : Flow). answers last later (line_of next) said.text f) awaits said.answered in
        let one = first_is s.rest next (at_some now (λ bytes. IsNextLine bytes next) s.rest s.now_is is) more in
        let shorter = length-drop_through 10 s.rest one.0 in
        let counted = s.counted in
        record {
          rest = drop_through 10 s.rest;
          text = s.text ++ said.text;
          now_is = at_some now (λ bytes. after ≡ Some (drop_through 10 bytes)) s.rest s.now_is left;
          dialogue = turn s.rest s.text said.text last later Awaits s.dialogue one.0 (subst (λ (l : Option (List ℕ)). answers last later l said.text Awaits) one.1 answered);
          wrote = Appends-trans old out wrote s.text said.text s.wrote said.wrote;
          counted = omega (arith, shorter, counted);
        }

    -- no line is left
    pub talked_all : (next : NextLine) (has_failed : Bool) → IfSome now (λ bytes. IsNextLine bytes next) → next ≡ End
        → IfSome start (λ bytes. Conversed answers first bytes old out has_failed (Ok Awaits))
    talked_all next has_failed is ends = if_some start _ (λ bytes e.
        let s = so_far bytes e in
        let none : s.rest ≡ [] = subst (IsNextLine s.rest) ends (at_some now (λ bytes. IsNextLine bytes next) s.rest s.now_is is) in
        record {
          text = s.text;
          is = (last, subst (λ (r : List ℕ). Dialogue S answers first bytes r s.text last Awaits) none s.dialogue);
          wrote = s.wrote;
        })

    -- a line ends it
    pub talked_to_end : (wrote : Option (List ℕ)) (next : NextLine) (later : S) (flow : Flow) (has_failed : Bool)
        → IfSome now (λ bytes. IsNextLine bytes next) → next ≢ End → flow ≡ Ends
        → HasAnswered (λ said text. answers last later said text flow) (line_of next) out wrote
        → IfSome start (λ bytes. Conversed answers first bytes old wrote has_failed (Ok Ends))
    talked_to_end wrote next later flow has_failed is more over said = if_some start _ (λ bytes e.
        let s = so_far bytes e in
        let answered = subst (λ (f : Flow). answers last later (line_of next) said.text f) over said.answered in
        let one = first_is s.rest next (at_some now (λ bytes. IsNextLine bytes next) s.rest s.now_is is) more in
        record {
          text = s.text ++ said.text;
          is = (
            drop_through 10 s.rest,
            later,
            turn s.rest s.text said.text last later Ends s.dialogue one.0 (subst (λ (l : Option (List ℕ)). answers last later l said.text Ends) one.1 answered),
          );
          wrote = Appends-trans old out wrote s.text said.text s.wrote said.wrote;
        })

    -- a fault comes after these lines
    pub talked_some : (has_failed : Bool) (fault : DialogueFault) → IfSome start (λ bytes. Conversed answers first bytes old out has_failed (Err fault))
    talked_some has_failed fault = if_some start _ (λ bytes e.
        let s = so_far bytes e in
        record { text = s.text; is = (s.rest, last, s.dialogue); wrote = inr s.wrote })

    pub talked_err : (has_failed : Bool) (r : Result Flow DialogueFault) → IsErr r → IfSome start (λ bytes. Conversed answers first bytes old out has_failed r)
    talked_err has_failed (Ok x) err = absurd (true≢false (sym err))
    talked_err has_failed (Err fault) err = talked_some has_failed fault

    talked_failed : (after : Option (List ℕ)) (has_failed : Bool) (fault : DialogueFault) → has_failed ≡ true
        → IfSome start (λ bytes. Conversed answers first bytes old after has_failed (Err fault))
    talked_failed after has_failed fault failed = if_some start _ (λ bytes e.
        let s = so_far bytes e in
        record { text = s.text; is = (s.rest, last, s.dialogue); wrote = inl failed })

    -- a line is not answered, and this fault is named
    pub talked_fault : (after : Option (List ℕ)) (has_failed : Bool) (named fault : DialogueFault) → IsAnswerFault out after has_failed fault
        → IfSome start (λ bytes. Conversed answers first bytes old after has_failed (Err named))
    talked_fault after has_failed named Output failed = talked_failed after has_failed named failed
    talked_fault after has_failed named Memory same =
        subst (λ (o : Option (List ℕ)). IfSome start (λ bytes. Conversed answers first bytes old o has_failed (Err named))) (sym same) (talked_some has_failed named)
    talked_fault after has_failed named Input none = absurd none

    pub talked_fault_err : (after : Option (List ℕ)) (has_failed : Bool) (r : Result Flow DialogueFault) (lower : DialogueFault) → IsErrAnd r (λ fault. fault ≡ lower)
        → IsAnswerFault out after has_failed lower → IfSome start (λ bytes. Conversed answers first bytes old after has_failed r)
    talked_fault_err after has_failed (Ok x) lower is h = absurd is
    talked_fault_err after has_failed (Err fault) lower is h = talked_fault after has_failed fault lower h

    -- what is left of the input
    pub has_left : (bytes : List ℕ) → start ≡ Some bytes → HasLeft bytes now n
    has_left bytes e = let s = so_far bytes e in record { left = s.rest; now_is = s.now_is; counted = s.counted }

    pub endless_talk : 2 ^ 64 - 1 ≤ n → IsEndless start
    endless_talk = endless_input start now n has_left

    pub read_err : (read_failed write_failed : Bool) (r : Result Flow DialogueFault) (lower : LineFault) → IsErrAnd r (λ fault. fault ≡ of_line lower) → IsLineFault now read_failed lower
        → IfErr r (IsDialogueFault start read_failed write_failed)
    read_err read_failed write_failed r lower is h = unread_err start now n has_left read_failed write_failed r lower is h
