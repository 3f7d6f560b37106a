-- What an audit adds to a report in two steps: from the order of a run, and then from the run.
use Rattle.std.specs.Prelude.{◌≡◌, ℕ, List, []}
use Rattle.cmh_model3.specs.Entries.{WorldEvent}
use Rattle.cmh_topology3.specs.Topology.{Topology}
use Rattle.cmh_segment3.specs.declared.segment.Segment.{Segment}
use Rattle.cmh_files3.specs.DeclarationLines.{TellDeclarations}
use Rattle.cmh_files3.specs.RunLines.{AreRunLines}
use Rattle.cmh_files3.specs.declared.more.More.{More}
use Rattle.cmh_files3.specs.declared.more.More.TheVariants.{Nothing, Reasons, Run, Declarations}

-- the entries of a run, where they are asked for
abbrev pub IsMoreOfOrder : More → Topology → List Segment → List ℕ → Type 0
IsMoreOfOrder Nothing t segments text = text ≡ []
IsMoreOfOrder Reasons t segments text = text ≡ []
IsMoreOfOrder Run t segments text = AreRunLines t segments text
IsMoreOfOrder Declarations t segments text = text ≡ []

-- the declarations of a run where they are asked for, or else what was listed before
abbrev pub IsMoreOfEvents : More → List WorldEvent → List ℕ → List ℕ → Type 0
IsMoreOfEvents Nothing events listed text = text ≡ listed
IsMoreOfEvents Reasons events listed text = text ≡ listed
IsMoreOfEvents Run events listed text = text ≡ listed
IsMoreOfEvents Declarations events listed text = TellDeclarations events text
