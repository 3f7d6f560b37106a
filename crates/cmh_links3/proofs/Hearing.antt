-- What is taken of the bytes that were heard.
use Rattle.std.proofs.Common.{◌≡◌, ℕ, ◌+◌, ◌≤◌, List, [], ◌∷◌, ◌++◌, length, take, drop, sym, ap, ◌∙◌, append-nil, arith}
use Rattle.std.proofs.Math.Seq.{take-add}
use Rattle.std.proofs.lemmas.Grind.{flat_map-append}
use Rattle.std.proofs.lemmas.List.{length-append, take-append-drop}
use Rattle.byteorder.specs.Endian.{big_bytes}
use Rattle.cmh_resume3.specs.Hello.{IsHelloFront, IsReplyFront}
use Rattle.cmh_resume3.specs.Stream.{IsAcknowledgementFront}
use Rattle.cmh_resume3.specs.declared.acknowledgement.Acknowledgement.{Acknowledgement}
use Rattle.cmh_resume3.specs.declared.acknowledgement.AcknowledgementFront.TheVariants as Said
use Rattle.cmh_resume3.specs.declared.answer.Answer.{Answer}
use Rattle.cmh_resume3.specs.declared.answer.ReplyFront.TheVariants as Reply
use Rattle.cmh_resume3.specs.declared.hello.Hello.{Hello}
use Rattle.cmh_resume3.specs.declared.hello.HelloFront.TheVariants as Hi
use Rattle.cmh_resume3.specs.declared.refusal.Refusal.{Refusal}
use Rattle.cmh_model3.specs.declared.frame.Message.{Message}
use Rattle.cmh_wire3.specs.Wire.{spelled, spelling}

-- one message more behind the first ones
pub batch_more : (bytes : List ℕ) (len count : ℕ) (messages : List Message) (message : Message)
    → take len bytes ≡ spelled messages → take count (drop len bytes) ≡ spelling message
    → take (len + count) bytes ≡ spelled (messages ++ message ∷ [])
batch_more bytes len count messages message first next =
    take-add len count bytes ∙ ap (λ (l : List ℕ). l ++ take count (drop len bytes)) first ∙ ap (λ (l : List ℕ). spelled messages ++ l) (next ∙ sym (append-nil (spelling message)))
    ∙ sym (flat_map-append spelling messages (message ∷ []))

-- what stands in front, and what is left behind it
pub in_front : (bytes front : List ℕ) (count : ℕ) → take count bytes ≡ front → bytes ≡ front ++ drop count bytes
in_front bytes front count is = sym (take-append-drop count bytes) ∙ ap (λ (l : List ℕ). l ++ drop count bytes) is

-- ---- how many bytes the things have that are said first

pub hello_within : (bytes : List ℕ) (hello : Hello) → IsHelloFront bytes (Hi.Whole hello) → 28 ≤ length bytes
hello_within bytes hello (rest, begins) =
    let behind = big_bytes 2 hello.from ++ (big_bytes 2 hello.to ++ big_bytes 4 hello.epoch) in
    let world = begins.is_one.world in
    let one = length-append hello.world behind in
    let two = length-append (hello.world ++ behind) rest in
    let all = ap length begins.bytes_are in
    omega (arith, world, one, two, all)

pub answer_within : (bytes : List ℕ) (answer : Answer) → IsReplyFront bytes (Reply.Answered answer) → 44 ≤ length bytes
answer_within bytes answer (rest, begins) =
    let behind = big_bytes 2 answer.hello.from ++ (big_bytes 2 answer.hello.to ++ big_bytes 4 answer.hello.epoch) in
    let last = big_bytes 8 answer.count ++ big_bytes 8 answer.mark in
    let world = begins.is_one.hello.world in
    let one = length-append answer.hello.world behind in
    let two = length-append (answer.hello.world ++ behind) last in
    let three = length-append ((answer.hello.world ++ behind) ++ last) rest in
    let all = ap length begins.bytes_are in
    omega (arith, world, one, two, three, all)

pub refusal_within : (bytes : List ℕ) (refusal : Refusal) → IsReplyFront bytes (Reply.Refused refusal) → 5 ≤ length bytes
refusal_within bytes refusal (rest, are) =
    let all = ap length are in
    omega (arith, all)

pub acknowledgement_within : (bytes : List ℕ) (acknowledgement : Acknowledgement) → IsAcknowledgementFront bytes (Said.Whole acknowledgement) → 13 ≤ length bytes
acknowledgement_within bytes acknowledgement (rest, begins) =
    let all = ap length begins.bytes_are in
    omega (arith, all)
