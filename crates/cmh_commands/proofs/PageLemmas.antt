-- A script that is played, and then has a page or none.
use Rattle.std.proofs.Common.{◌≡◌, ℕ, List, inl, inr, refl, sym, subst, ◌∙◌}
use Rattle.cmh_console.specs.Device.{Reading, Writing}
use Rattle.cmh_console.specs.Faults.{NamesFault}
use Rattle.cmh_page.specs.PageFaults.{NamesPageFault}
use Rattle.cmh_page.specs.Pages.{IsPageFault}
use Rattle.cmh_play.specs.PlayFaults.{as_fault as of_play}
use Rattle.cmh_commands.specs.Paging.{HasNoFile, IsWritten, PlaysToPage}
use Rattle.cmh_commands.specs.Playing.{PlaysScript}

module _ {R W E : Type 0} (was read : Reading R) (old new : Writing W) (err_old err_mid err_new : Writing E) (status end : ℕ)
    (plays : PlaysScript was read old new err_old err_mid status) (zero : status ≡ 0) where
  first : PlaysScript was read old new err_old err_mid 0
  first = subst (λ (s : ℕ). PlaysScript was read old new err_old err_mid s) zero plays

  silent : err_mid ≡ err_old
  silent = first.silent refl

  at_end : PlaysScript was read old new err_old err_old 0
  at_end = subst (λ (e : Writing E). PlaysScript was read old new err_old e 0) silent first

  pub page_written : IsWritten err_mid err_new end → PlaysToPage was read old new err_old err_new end
  page_written (inl done) =
      inl (subst (λ (s : ℕ). PlaysScript was read old new err_old err_new s) (sym done.0)
      (subst (λ (e : Writing E). PlaysScript was read old new err_old e 0) (sym (done.1 ∙ silent)) at_end))
  page_written (inr names) =
      inr (at_end, inr (subst (λ (e : Writing E). NamesFault of_play HasNoFile end e err_new) silent names))

  pub page_refused : (topology : List ℕ) (files : List (List ℕ)) → NamesPageFault (IsPageFault topology files) end err_mid err_new
      → PlaysToPage was read old new err_old err_new end
  page_refused topology files names =
      inr (at_end, inl (topology, files, subst (λ (e : Writing E). NamesPageFault (IsPageFault topology files) end e err_new) silent names))
