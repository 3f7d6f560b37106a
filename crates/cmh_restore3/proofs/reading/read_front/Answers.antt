use Rattle.std.proofs.Common.{List, ℕ, ◌≡◌, Some}
use Rattle.std.specs.Option.{IfSome}
use Rattle.std.proofs.lemmas.Option.{IfSome_then}
use Rattle.std.proofs.lemmas.Result.{IfOk-weaker}
use Rattle.cmh_inputs.specs.Stored.{Stored}
use Rattle.cmh_restore3.specs.Reading.{BeginsWith}
use Rattle.cmh_restore3.proofs.Fronts.{IsHeadOf}
use Rattle.cmh_restore3.proofs.reading.read_front.Goals as goal

pub returns-clause-named : goal.returns-clause-named
returns-clause-named g c =
    IfOk-weaker c.read_head_of.result
    (λ found. IfSome found (λ head. (whole : List ℕ) → g.N.File.InputFile.left c.in_ok-file.file ≡ Some whole → BeginsWith whole head))
    (λ found. IfSome found (λ head. (stored : Stored) → g.N.Inputs.holds c.args.inputs.now ≡ Some stored → IsHeadOf stored c.args.path.now head))
    (λ found read. IfSome_then found read (λ head begins stored told.
    let at = c.in_ok-file.ensures.opened stored told in
    (at.bytes, at.held_is, begins at.bytes at.left_is)))
    c.read_head_of.ensures.begins
