-- Journals of which some epochs are read.
use Rattle.std.proofs.Common.{ℕ, Bool, List, [], ◌∷◌, Option, None, Some, sym, ap, subst, inl, inr, if◌then◌else◌}
use Rattle.std.specs.Bool.{nat_lt}
use Rattle.std.specs.List.{AllByRecursion, AllZip}
use Rattle.std.proofs.lemmas.Bool.{cases_Bool}
use Rattle.cmh_segment3.specs.declared.segment.Segment.{Segment}
use Rattle.cmh_history3.specs.Histories.{AreReadBases}
use Rattle.cmh_history3.specs.Parts.{bare, ended_with}
use Rattle.cmh_long_audit3.specs.Parts.{IsPartOf, until}
use Rattle.cmh_long_audit3.specs.declared.part.EpochRange.{EpochRange}
use Rattle.cmh_long_audit3.proofs.Zips.{bases_until}

-- what is left out changes no base
ended_bases : (last : ℕ) (gs : List Segment) → AreReadBases gs → AreReadBases (ended_with last gs)
ended_bases last [] read = tt
ended_bases last (g ∷ gs) read =
    let pick : Bool → List Segment = λ b. if b then bare g ∷ [] else g ∷ ended_with last gs in
    elim (cases_Bool (nat_lt last g.header.epoch)) [
      | inl past ↦ subst AreReadBases (sym (ap pick past)) (read.0, tt)
      | inr before ↦ subst AreReadBases (sym (ap pick before)) (read.0, ended_bases last gs read.1)
    ]

until_bases : (last : Option ℕ) (gs : List Segment) → AreReadBases gs → AreReadBases (until last gs)
until_bases None gs read = read
until_bases (Some last) gs read = ended_bases last gs read

pub part_bases : (range : EpochRange) (files : List (List (List ℕ))) (journals : List (List Segment))
    → AllZip (IsPartOf range) files journals → AllByRecursion AreReadBases journals
part_bases range [] [] read = tt
part_bases range [] (j ∷ js) read = absurd read
part_bases range (f ∷ fs) [] read = absurd read
part_bases range (f ∷ fs) (j ∷ js) read =
    let one = read.0 in
    (subst AreReadBases (sym one.journal_is) (until_bases range.last one.segments (bases_until range.last f one.segments one.read)), part_bases range fs js read.1)
