use Rattle.std.proofs.Common.{◌≡◌, ◌⊎◌, ℕ, Result, Ok, Err, IfErr, List, inl, inr, refl, sym, subst}
use Rattle.cmh_console.specs.TopologyFile.{IsFileFault, Says, SaysNoRows}
use Rattle.cmh_frames.specs.Rows.{Row}
use Rattle.cmh_frames.specs.declared.edition.Edition.{Edition}
use Rattle.cmh_c.specs.Inner.Faults.{code_of_call}
use Rattle.cmh_c.specs.Opening.{IsNoSite, IsNotOpened}
use Rattle.cmh_c.specs.declared.codes.CallFault.{CallFault}
use Rattle.cmh_c.proofs.opening.seat_of_json.Goals as goal

not_opened : {X : Type 0} (opened : Result X CallFault) (json : List ℕ) (number : ℕ) (edition : Edition) (rows : List Row) → Says json edition rows
    → IfErr opened (λ fault. (code_of_call fault ≡ 11) ⊎ IsNoSite (code_of_call fault) number edition rows)
    → IfErr opened (λ fault. IsNotOpened (code_of_call fault) number (Says json))
not_opened (Ok x) json number edition rows says none = tt
not_opened (Err fault) json number edition rows says none = elim none [
  | inl memory ↦ inl memory
  | inr no_site ↦ inr (inr (edition, rows, says, no_site))
]

pub returns-in-Ok-clause-fault : goal.returns-in-Ok-clause-fault
returns-in-Ok-clause-fault c =
    not_opened c.seat_of.result c.args.json.now c.args.number c.in-Ok.file.edition c.deref.result.now
    (subst (λ (rows : List Row). Says c.args.json.now c.in-Ok.file.edition rows) (sym c.deref.ensures.value) c.in-Ok.ensures.says) c.seat_of.ensures.fault

-- no rows are said
pub returns-in-Err-Json-clause-fault : goal.returns-in-Err-Json-clause-fault
returns-in-Err-Json-clause-fault c =
    inr (inl (refl, subst (IsFileFault (SaysNoRows c.args.json.now)) c.in-Err-Json.field-0-is c.in-Err-Json.ensures.fault))
