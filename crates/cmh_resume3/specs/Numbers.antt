-- The numbers of refusals.
use Rattle.std.specs.Prelude.{ℕ}
use Rattle.cmh_resume3.specs.declared.refusal.Refusal.{Refusal}
use Rattle.cmh_resume3.specs.declared.refusal.Refusal.TheVariants.{OtherEdition, OtherWorld, NotThisSite, NoSuchSender, Closed, Sealed}
use Rattle.cmh_resume3.specs.declared.refusal.Mismatch.{Mismatch}
use Rattle.cmh_resume3.specs.declared.refusal.Mismatch.TheVariants.{MoreThanSent, OtherFrames, LessThanAcknowledged}

abbrev pub refusal_number : Refusal → ℕ
refusal_number OtherEdition = 1
refusal_number OtherWorld = 2
refusal_number NotThisSite = 3
refusal_number NoSuchSender = 4
refusal_number Closed = 5
refusal_number Sealed = 6

abbrev pub mismatch_number : Mismatch → ℕ
mismatch_number MoreThanSent = 7
mismatch_number OtherFrames = 8
mismatch_number LessThanAcknowledged = 9
