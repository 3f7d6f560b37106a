-- Each thing that is said has one spelling, and it begins no other.
use Rattle.std.proofs.Common.{◌≡◌, ◌≢◌, ℕ, ◌++◌, get_or, drop, refl, ap, sym, ◌∙◌, arith, append_assoc}
use Rattle.byteorder.specs.Endian.{big_bytes}
use Rattle.cmh_model3.specs.declared.frame.Frame.{Frame}
use Rattle.cmh_model3.specs.declared.frame.Frame.TheVariants as F
use Rattle.cmh_wire3.proofs.Messages.{one_long, one_message, one_of}
use Rattle.cmh_wire3.specs.Wire.{kind_of}
use Rattle.cmh_resume3.specs.declared.refusal.Mismatch.{Mismatch}
use Rattle.cmh_resume3.specs.declared.refusal.Mismatch.TheVariants.{MoreThanSent, OtherFrames, LessThanAcknowledged}
use Rattle.cmh_resume3.specs.declared.item.Item.TheVariants.{Message, Note, Refused}
use Rattle.cmh_resume3.specs.Hello.{IsAnswer, IsHello, answer_spelling, hello_spelling, places_spelling}
use Rattle.cmh_resume3.specs.SpellingLaws.{OneSpelling}
use Rattle.cmh_resume3.specs.Numbers.{mismatch_number}
use Rattle.cmh_resume3.specs.Stream.{IsAcknowledgement, IsItem, acknowledgement_spelling, item_spelling}
use Rattle.cmh_resume3.proofs.Places.{one_places}

pub one_hello : OneSpelling IsHello hello_spelling
one_hello g h r s G H e = one_places g h r s G H (ap (drop 4) e)

pub one_answer : OneSpelling IsAnswer answer_spelling
one_answer a b r s A B e =
    let long_a = append_assoc (places_spelling a.hello) (big_bytes 8 a.count ++ big_bytes 8 a.mark) r in
    let long_b = append_assoc (places_spelling b.hello) (big_bytes 8 b.count ++ big_bytes 8 b.mark) s in
    let hello = one_places a.hello b.hello (big_bytes 8 a.count ++ (big_bytes 8 a.mark ++ r)) (big_bytes 8 b.count ++ (big_bytes 8 b.mark ++ s)) A.hello B.hello (sym long_a ∙ ap (drop 4) e ∙ long_b) in
    let count = one_long a.count b.count (big_bytes 8 a.mark ++ r) (big_bytes 8 b.mark ++ s) A.count B.count hello.1 in
    let mark = one_long a.mark b.mark r s A.mark B.mark (ap (drop 8) hello.1) in
    ((λ i. record { hello = hello.0 i; count = count i; mark = mark i }), ap (drop 16) hello.1)

pub one_acknowledgement : OneSpelling IsAcknowledgement acknowledgement_spelling
one_acknowledgement a b r s A B e =
    let behind : big_bytes 8 a.count ++ (big_bytes 4 a.epoch ++ r) ≡ big_bytes 8 b.count ++ (big_bytes 4 b.epoch ++ s) = ap (drop 1) e in
    let count = one_long a.count b.count (big_bytes 4 a.epoch ++ r) (big_bytes 4 b.epoch ++ s) A.count B.count behind in
    let epoch = one_of 4 a.epoch b.epoch r s A.epoch B.epoch (ap (drop 8) behind) in
    ((λ i. record { count = count i; epoch = epoch i }), ap (drop 12) behind)

one_mismatch : (m n : Mismatch) → mismatch_number m ≡ mismatch_number n → m ≡ n
one_mismatch MoreThanSent MoreThanSent e = refl
one_mismatch MoreThanSent OtherFrames e = absurd (omega arith)
one_mismatch MoreThanSent LessThanAcknowledged e = absurd (omega arith)
one_mismatch OtherFrames MoreThanSent e = absurd (omega arith)
one_mismatch OtherFrames OtherFrames e = refl
one_mismatch OtherFrames LessThanAcknowledged e = absurd (omega arith)
one_mismatch LessThanAcknowledged MoreThanSent e = absurd (omega arith)
one_mismatch LessThanAcknowledged OtherFrames e = absurd (omega arith)
one_mismatch LessThanAcknowledged LessThanAcknowledged e = refl

-- the kind of a frame is that of no note and of no refusal
pub not_zero : (f : Frame) → kind_of f ≢ 0
not_zero (F.Request j k) e = omega arith
not_zero (F.Reply j k) e = omega arith
not_zero (F.Probe i n j k) e = omega arith
not_zero (F.Withdraw j k) e = omega arith

pub not_five : (f : Frame) → kind_of f ≢ 5
not_five (F.Request j k) e = omega arith
not_five (F.Reply j k) e = omega arith
not_five (F.Probe i n j k) e = omega arith
not_five (F.Withdraw j k) e = omega arith

not_both : (n : ℕ) → n ≡ 5 → n ≡ 0 → ⊥
not_both n five zero = omega arith

pub one_item : OneSpelling IsItem item_spelling
one_item (Message m) (Message n) r s M N e = let one = one_message m n r s M N e in (ap Message one.0, one.1)
one_item (Message m) (Note f) r s M N e = absurd (not_five m.frame (ap (λ l. get_or l 0 0) e))
one_item (Message m) (Refused n) r s M N e = absurd (not_zero m.frame (ap (λ l. get_or l 0 0) e))
one_item (Note f) (Message n) r s M N e = absurd (not_five n.frame (sym (ap (λ l. get_or l 0 0) e)))
one_item (Note f) (Note g) r s M N e = (ap Note (one_of 4 f g r s M N (ap (drop 1) e)), ap (drop 5) e)
one_item (Note f) (Refused n) r s M N e = absurd (not_both 5 refl (ap (λ l. get_or l 0 0) e))
one_item (Refused m) (Message n) r s M N e = absurd (not_zero n.frame (sym (ap (λ l. get_or l 0 0) e)))
one_item (Refused m) (Note g) r s M N e = absurd (not_both 5 refl (sym (ap (λ l. get_or l 0 0) e)))
one_item (Refused m) (Refused n) r s M N e = (ap Refused (one_mismatch m n (ap (λ l. get_or l 1 0) e)), ap (drop 2) e)
