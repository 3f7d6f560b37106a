-- A world is set back from the folders that the words name.
use Rattle.std.proofs.Common.{◌≡◌, ℕ, List, Option, subst}
use Rattle.cmh_inputs.specs.Stored.{Stored}
use Rattle.cmh_restore3.specs.Restores.{Restores}

pub restored_from : {K : Type 0} {told : Option Stored} {Lacks : K → ℕ → Type 0} {Begins : K → ℕ → ℕ → List ℕ → K → Type 0}
    {topology : List ℕ} {epoch : ℕ} {paths named : List (List ℕ)} {old new : K} → paths ≡ named
    → Restores told Lacks Begins topology epoch paths old new
    → (t : List ℕ) × (e : ℕ) × Restores told Lacks Begins t e named old new
restored_from {told = told} {Lacks = Lacks} {Begins = Begins} {topology = topology} {epoch = epoch} {old = old} {new = new} is restored =
    (topology, epoch, subst (λ (ps : List (List ℕ)). Restores told Lacks Begins topology epoch ps old new) is restored)
