-- What the steps of reading look for.
use Rattle.std.specs.Prelude.{◌≡◌, ℕ, ◌<◌, List, [], ◌∷◌, ◌++◌, length}
use Rattle.byteorder.specs.Endian.{big_bytes}
use Rattle.cmh_resume3.specs.declared.acknowledgement.Acknowledgement.{Acknowledgement}
use Rattle.cmh_resume3.specs.declared.answer.Answer.{Answer}
use Rattle.cmh_resume3.specs.Hello.{places_spelling}

-- the number of a world, which is its own spelling
abbrev pub IsWorld : List ℕ → Type 0
IsWorld world = length world ≡ 16

abbrev pub world_spelling : List ℕ → List ℕ
world_spelling world = world

abbrev pub IsByte : ℕ → Type 0
IsByte byte = byte < 256

-- "CMH" and a byte
abbrev pub title : ℕ → List ℕ
title byte = 67 ∷ 77 ∷ 72 ∷ byte ∷ []

-- what an answer says behind its title
abbrev pub behind_title : Answer → List ℕ
behind_title a = places_spelling a.hello ++ (big_bytes 8 a.count ++ big_bytes 8 a.mark)

-- what an acknowledgement says behind its first byte
abbrev pub count_with_epoch : Acknowledgement → List ℕ
count_with_epoch a = big_bytes 8 a.count ++ big_bytes 4 a.epoch
