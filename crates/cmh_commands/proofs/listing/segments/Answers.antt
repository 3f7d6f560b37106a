use Rattle.std.proofs.Common.{ℕ, List, [], Option, ap, subst₂, unwrap_or}
use Rattle.cmh_archive3.specs.Listing.{ListsSegments}
use Rattle.cmh_commands.proofs.listing.segments.Goals as goal

pub returns-in-Some-clause-lists : goal.returns-in-Some-clause-lists
returns-in-Some-clause-lists g c = λ ok.
    subst₂ (λ (topology : List ℕ) (folders : List (List ℕ)). ListsSegments (g.N.Inputs.holds c.args.inputs.now) topology folders c.args.out.now.written c.run_segments.new.out.written)
    c.topology_in-topology.ensures (ap (λ (found : Option (List (List ℕ))). unwrap_or found []) c.in-Some.ensures) (c.run_segments.ensures.lists ok)

pub returns-in-None-clause-lists : goal.returns-in-None-clause-lists
returns-in-None-clause-lists g c = λ ok.
    subst₂ (λ (topology : List ℕ) (folders : List (List ℕ)). ListsSegments (g.N.Inputs.holds c.args.inputs.now) topology folders c.args.out.now.written c.run_segments-in-None.new.out.written)
    c.topology_in-topology.ensures (ap (λ (found : Option (List (List ℕ))). unwrap_or found []) c.in-None.ensures) (c.run_segments-in-None.ensures.lists ok)
