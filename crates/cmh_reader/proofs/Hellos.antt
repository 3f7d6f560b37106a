-- The hello of a stream.
use Rattle.std.proofs.Common.{◌≡◌, ℕ, ◌-◌, ◌/◌, ◌%◌, ◌<◌, ◌≤◌, List, [], ◌++◌, length, take, drop, get_or, sym, ap, ◌∙◌, subst, arith}
use Rattle.std.specs.Prelude.{Contains}
use Rattle.std.proofs.lemmas.List.{append-nil, take-take}
use Rattle.cmh_frames.specs.declared.edition.Edition.{Edition}
use Rattle.cmh_frames.specs.declared.frame.Frame.{Frame}
use Rattle.cmh_frames.specs.Number.{IsNumber}
use Rattle.cmh_frames.specs.Wire.{hello, link_bytes}
use Rattle.cmh_reader.specs.declared.standing.Standing.TheVariants.{Open}
use Rattle.cmh_reader.specs.Stream.{Reads}
use Rattle.cmh_reader.proofs.Readings.{finished_by}

-- The piece finishes the hello that is begun.
pub greeted : (edition : Edition) (senders stream : List ℕ) (before : List Frame) (begun piece bytes : List ℕ) (sender : ℕ) → begun ≡ stream → before ≡ [] → length begun < 6 → bytes ≡ take 6 (begun ++ piece)
    → IsNumber sender → take 6 bytes ≡ hello edition sender → Contains senders sender
    → Reads edition senders (stream ++ take (6 - length begun) piece) (before ++ []) (Open sender [] 6)
greeted edition senders stream before begun piece bytes sender begun_is before_is few bytes_are number same expected =
    let front : begun ++ take (6 - length begun) piece ≡ hello edition sender = finished_by begun piece 6 (omega arith) ∙ sym (ap (take 6) bytes_are ∙ take-take 6 6 (begun ++ piece) (omega arith)) ∙ same in
    let none : before ++ [] ≡ [] = append-nil before ∙ before_is in
    subst (λ fs. Reads edition senders (stream ++ take (6 - length begun) piece) fs (Open sender [] 6)) (sym none) (
      record {
        number = number;
        expected = expected;
        each = tt;
        whole = ap (λ b. b ++ take (6 - length begun) piece) (sym begun_is) ∙ front ∙ sym (append-nil (link_bytes edition sender []) ∙ append-nil (hello edition sender));
      },
      tt,
      omega arith,
    )

-- hellos of sites: the bytes tell the site
high_low : (s t : ℕ) → s ≤ 9999 → t ≤ 9999 → s / 256 % 256 ≡ t / 256 % 256 → s % 256 ≡ t % 256 → s ≡ t
high_low s t hs ht high low = omega arith

-- no hello begins another
pub one_hello : (edition : Edition) (s t : ℕ) (xs ys : List ℕ) → IsNumber s → IsNumber t → hello edition s ++ xs ≡ hello edition t ++ ys → (s ≡ t) × (xs ≡ ys)
one_hello edition s t xs ys S T e =
    let hs : s ≤ 9999 = S.most in
    let ht : t ≤ 9999 = T.most in
    let high : s / 256 % 256 ≡ t / 256 % 256 = ap (λ l. get_or l 4 0) e in
    let low : s % 256 ≡ t % 256 = ap (λ l. get_or l 5 0) e in
    (high_low s t hs ht high low, ap (drop 6) e)
