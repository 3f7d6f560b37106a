-- Whether bytes begin with what a hello says behind its title.
use Rattle.std.proofs.Common.{◌≡◌, ℕ, ◌<◌, List, ◌++◌, length, drop, ap, sym, ◌∙◌, append_assoc}
use Rattle.byteorder.specs.Endian.{big_bytes}
use Rattle.cmh_runs.specs.Number.{IsNumber}
use Rattle.cmh_wire3.proofs.Messages.{one_of, one_process}
use Rattle.cmh_wire3.specs.Fronts.{BeginsNone}
use Rattle.cmh_resume3.specs.declared.hello.Hello.{Hello}
use Rattle.cmh_resume3.specs.Hello.{IsHello, places_spelling}
use Rattle.cmh_resume3.specs.Inner.Parts.{IsWorld, world_spelling}
use Rattle.cmh_resume3.specs.SpellingLaws.{OneSpelling}
use Rattle.cmh_resume3.proofs.Numbers.{four_there, same_front}

-- behind the world
abbrev behind_world : Hello → List ℕ → List ℕ
behind_world h rest = big_bytes 2 h.from ++ (big_bytes 2 h.to ++ (big_bytes 4 h.epoch ++ rest))

pub regrouped : (h : Hello) (rest : List ℕ) → places_spelling h ++ rest ≡ h.world ++ (big_bytes 2 h.from ++ (big_bytes 2 h.to ++ (big_bytes 4 h.epoch ++ rest)))
regrouped h rest = append_assoc h.world (big_bytes 2 h.from ++ (big_bytes 2 h.to ++ big_bytes 4 h.epoch)) rest

module _ (bytes : List ℕ) where
  pub no_world : BeginsNone IsWorld world_spelling bytes → BeginsNone IsHello places_spelling bytes
  no_world none h rest is e = none h.world (behind_world h rest) is.world (e ∙ regrouped h rest)

  module _ (world a : List ℕ) (sixteen : length world ≡ 16) (first : bytes ≡ world ++ a) where
    world_is : (h : Hello) (rest : List ℕ) → IsHello h → bytes ≡ places_spelling h ++ rest → (world ≡ h.world) × (a ≡ behind_world h rest)
    world_is h rest is e = same_front world h.world a (behind_world h rest) (sixteen ∙ sym is.world) (sym first ∙ e ∙ regrouped h rest)

    pub no_from : BeginsNone IsNumber (big_bytes 2) a → BeginsNone IsHello places_spelling bytes
    no_from none h rest is e = none h.from (big_bytes 2 h.to ++ (big_bytes 4 h.epoch ++ rest)) is.from (world_is h rest is e).1

    module _ (from : ℕ) (b : List ℕ) (second : a ≡ big_bytes 2 from ++ b) where
      from_is : (h : Hello) (rest : List ℕ) → IsHello h → bytes ≡ places_spelling h ++ rest → b ≡ big_bytes 2 h.to ++ (big_bytes 4 h.epoch ++ rest)
      from_is h rest is e = ap (drop 2) (sym second ∙ (world_is h rest is e).1)

      pub no_to : BeginsNone IsNumber (big_bytes 2) b → BeginsNone IsHello places_spelling bytes
      no_to none h rest is e = none h.to (big_bytes 4 h.epoch ++ rest) is.to (from_is h rest is e)

      module _ (to : ℕ) (d : List ℕ) (third : b ≡ big_bytes 2 to ++ d) where
        pub no_epoch : length d < 4 → BeginsNone IsHello places_spelling bytes
        no_epoch few h rest is e = absurd (four_there h.epoch d rest (ap (drop 2) (sym third ∙ from_is h rest is e)) few)

-- what a hello says has one spelling, and it begins no other
pub one_places : OneSpelling IsHello places_spelling
one_places g h r s G H e =
    let world = same_front g.world h.world (behind_world g r) (behind_world h s) (G.world ∙ sym H.world) (sym (regrouped g r) ∙ e ∙ regrouped h s) in
    let from = one_process g.from h.from (big_bytes 2 g.to ++ (big_bytes 4 g.epoch ++ r)) (big_bytes 2 h.to ++ (big_bytes 4 h.epoch ++ s)) G.from H.from world.1 in
    let behind_from = ap (drop 2) world.1 in
    let to = one_process g.to h.to (big_bytes 4 g.epoch ++ r) (big_bytes 4 h.epoch ++ s) G.to H.to behind_from in
    let behind_to = ap (drop 2) behind_from in
    let epoch = one_of 4 g.epoch h.epoch r s G.epoch H.epoch behind_to in
    ((λ i. record { world = world.0 i; from = from i; to = to i; epoch = epoch i }), ap (drop 4) behind_to)
