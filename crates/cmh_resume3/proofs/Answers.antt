-- Bytes that begin with no hello and no answer.
use Rattle.std.proofs.Common.{◌≡◌, ◌≢◌, ℕ, ◌<◌, ◌≤◌, inl, inr, List, ◌∷◌, ◌++◌, length, get_or, drop, refl, ap, sym, ◌∙◌, subst, arith, append_assoc}
use Rattle.byteorder.specs.Endian.{big_bytes}
use Rattle.cmh_wire3.specs.Fronts.{Begins, BeginsNone}
use Rattle.cmh_wire3.specs.Wire.{IsLong}
use Rattle.cmh_resume3.specs.declared.acknowledgement.Acknowledgement.{Acknowledgement}
use Rattle.cmh_resume3.specs.declared.acknowledgement.AcknowledgementFront.{AcknowledgementFront}
use Rattle.cmh_resume3.specs.declared.answer.Answer.{Answer}
use Rattle.cmh_resume3.specs.declared.answer.ReplyFront.{ReplyFront}
use Rattle.cmh_resume3.specs.declared.hello.Hello.{Hello}
use Rattle.cmh_resume3.specs.declared.refusal.Refusal.{Refusal}
use Rattle.cmh_resume3.specs.Hello.{IsAnswer, IsHello, IsOfOtherEdition, IsReplyFront, IsShortHello, IsShortReply, answer_spelling, hello_spelling, places_spelling, refusal_spelling, titled}
use Rattle.cmh_resume3.specs.Inner.Parts.{IsByte, behind_title, count_with_epoch, title}
use Rattle.cmh_resume3.specs.Stream.{IsAcknowledgement, IsAcknowledgementFront, acknowledgement_spelling}
use Rattle.cmh_resume3.proofs.Places.{one_places}

-- bytes that do not begin with the name
module _ (bytes cursor : List ℕ) (same : cursor ≡ bytes) (enough : 4 ≤ length bytes) (none : BeginsNone IsByte title cursor) where
  untitled : (byte : ℕ) (behind : List ℕ) → byte < 256 → bytes ≢ titled byte behind
  untitled byte behind below e = none byte behind below (same ∙ e)

  pub no_title : ¬ IsShortHello bytes × ¬ IsOfOtherEdition bytes × BeginsNone IsHello hello_spelling bytes
  no_title = (not_short, (λ other. untitled other.edition other.behind other.byte other.bytes_are), λ h rest is e. untitled 3 (places_spelling h ++ rest) (omega arith) e)
    where
      not_short : IsShortHello bytes → ⊥
      not_short (inl few) = omega arith
      not_short (inr unfinished) = untitled 3 unfinished.behind (omega arith) unfinished.bytes_are

-- what an answer says behind its title, and what is behind it
regrouped : (a : Answer) (rest : List ℕ) → behind_title a ++ rest ≡ places_spelling a.hello ++ (big_bytes 8 a.count ++ (big_bytes 8 a.mark ++ rest))
regrouped a rest = append_assoc (places_spelling a.hello) (big_bytes 8 a.count ++ big_bytes 8 a.mark) rest

module _ (bytes : List ℕ) where
  pub no_places : BeginsNone IsHello places_spelling bytes → BeginsNone IsAnswer behind_title bytes
  no_places none a rest is e = none a.hello (big_bytes 8 a.count ++ (big_bytes 8 a.mark ++ rest)) is.hello (e ∙ regrouped a rest)

  module _ (h : Hello) (b : List ℕ) (first : Begins IsHello places_spelling bytes h b) where
    behind_places : (a : Answer) (rest : List ℕ) → IsAnswer a → bytes ≡ behind_title a ++ rest → b ≡ big_bytes 8 a.count ++ (big_bytes 8 a.mark ++ rest)
    behind_places a rest is e =
        (one_places h a.hello b (big_bytes 8 a.count ++ (big_bytes 8 a.mark ++ rest)) first.is_one is.hello (sym first.bytes_are ∙ e ∙ regrouped a rest)).1

    pub no_count : BeginsNone IsLong (big_bytes 8) b → BeginsNone IsAnswer behind_title bytes
    no_count none a rest is e = none a.count (big_bytes 8 a.mark ++ rest) is.count (behind_places a rest is e)

    pub no_mark : (count : ℕ) (d : List ℕ) → b ≡ big_bytes 8 count ++ d → BeginsNone IsLong (big_bytes 8) d → BeginsNone IsAnswer behind_title bytes
    no_mark count d second none a rest is e = none a.mark rest is.mark (ap (drop 8) (sym second ∙ behind_places a rest is e))

not_both : (n : ℕ) → n ≡ 3 → n ≡ 0 → ⊥
not_both n three zero = omega arith

fewer : (behind : List ℕ) → length (titled 3 behind) < 44 → length behind < 40
fewer behind few = omega arith

-- 40 bytes behind the title of an answer, which are none
pub no_answer : (behind cursor : List ℕ) → cursor ≡ behind → 40 ≤ length behind → BeginsNone IsAnswer behind_title cursor
    → ¬ IsShortReply (titled 3 behind) × BeginsNone IsAnswer answer_spelling (titled 3 behind) × ((refusal : Refusal) (rest : List ℕ) → titled 3 behind ≢ refusal_spelling refusal ++ rest)
no_answer behind cursor same enough none = (not_short, (λ a rest is e. none a rest is (same ∙ ap (drop 4) e)), λ refusal rest e. not_both 3 refl (ap (λ l. get_or l 3 0) e))
  where
    not_short : IsShortReply (titled 3 behind) → ⊥
    not_short (inl few) = omega arith
    not_short (inr (inl unfinished)) = let few = fewer behind unfinished.few in omega arith
    not_short (inr (inr unfinished)) = not_both 3 refl (ap (λ l. get_or l 3 0) unfinished.bytes_are)

-- a reply from behind its title on
pub same_reply : (bytes cursor behind rest : List ℕ) (byte n : ℕ) (front : ReplyFront) → cursor ≡ bytes → cursor ≡ title byte ++ behind → byte ≡ n → rest ≡ behind
    → IsReplyFront (titled n rest) front → IsReplyFront bytes front
same_reply bytes cursor behind rest byte n front same begins is rest_is reply =
    subst (λ l. IsReplyFront l front) (ap (λ l. titled n l) rest_is ∙ ap (λ k. titled k behind) (sym is) ∙ sym begins ∙ same) reply

-- a count and a mark behind what a hello says
pub answer_there : (bytes b d e : List ℕ) (h : Hello) (count mark told : ℕ) → Begins IsHello places_spelling bytes h b → Begins IsLong (big_bytes 8) b count d
    → Begins IsLong (big_bytes 8) d mark e → told ≡ mark → Begins IsAnswer behind_title bytes (record { hello = h; count = count; mark = told }) e
answer_there bytes b d e h count mark told first second third same =
    subst (λ m. Begins IsAnswer behind_title bytes (record { hello = h; count = count; mark = m }) e) (sym same) record {
      is_one = record { hello = first.is_one; count = second.is_one; mark = third.is_one };
      bytes_are = first.bytes_are ∙ ap (λ l. places_spelling h ++ l) (second.bytes_are ∙ ap (λ l. big_bytes 8 count ++ l) third.bytes_are)
          ∙ sym (regrouped (record { hello = h; count = count; mark = mark }) e);
    }

-- and a title in front of all
pub titled_answer : (behind cursor rest : List ℕ) (a : Answer) → cursor ≡ behind → Begins IsAnswer behind_title cursor a rest → (more : List ℕ) × Begins IsAnswer answer_spelling (titled 3 behind) a more
titled_answer behind cursor rest a same there = (rest, record { is_one = there.is_one; bytes_are = ap (λ l. titled 3 l) (sym same ∙ there.bytes_are) })

-- a count and an epoch behind the first byte of an acknowledgement
pub whole_acknowledgement : (behind cursor rest : List ℕ) (a : Acknowledgement) → cursor ≡ behind → Begins IsAcknowledgement count_with_epoch cursor a rest
    → (more : List ℕ) × Begins IsAcknowledgement acknowledgement_spelling (6 ∷ behind) a more
whole_acknowledgement behind cursor rest a same there = (rest, record { is_one = there.is_one; bytes_are = ap (λ l. 6 ∷ l) (sym same ∙ there.bytes_are) })

-- an acknowledgement from behind its first byte on
pub same_acknowledgement : (bytes cursor behind rest : List ℕ) (kind n : ℕ) (front : AcknowledgementFront) → cursor ≡ bytes → cursor ≡ kind ∷ behind → kind ≡ n → rest ≡ behind
    → IsAcknowledgementFront (n ∷ rest) front → IsAcknowledgementFront bytes front
same_acknowledgement bytes cursor behind rest kind n front same begins is rest_is reply =
    subst (λ l. IsAcknowledgementFront l front) (ap (λ l. n ∷ l) rest_is ∙ ap (λ k. k ∷ behind) (sym is) ∙ sym begins ∙ same) reply
