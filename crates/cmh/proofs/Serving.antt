-- How a site that the program serves ends, by the edition of its topology file.
use Rattle.std.proofs.Common.{ℕ, List, inl, inr, refl}
use Rattle.cmh_console.specs.Device.{Reading, Writing}
use Rattle.cmh_console.specs.Faults.{NamesFault}
use Rattle.cmh_inputs.specs.FileFaults.{IsUnread, as_fault as of_file}
use Rattle.cmh_serve3.specs.Setting.{IsOfEdition3}
use Rattle.cmh.specs.Serving.{ServesFile, ServesSite, SiteEnds}

module _ {R W E : Type 0} (topology : List ℕ) (site : ℕ) (was read : Reading R) (old new : Writing W) (err_old err_new : Writing E) (status : ℕ) where
  pub in_edition3 : IsOfEdition3 topology → ServesFile topology site was read old new err_old err_new status
  in_edition3 (world, rows, says) = inl (λ none. absurd (none world rows says))

  pub in_older : SiteEnds topology site was read old new err_old err_new status
      → ServesFile topology site was read old new err_old err_new status
  in_older ends = inl (λ none. ends)

  pub of_some_file : ServesFile topology site was read old new err_old err_new status
      → ServesSite site was read old new err_old err_new status
  of_some_file (inl ends) = inl (topology, ends)
  of_some_file (inr unread) = inr unread

pub is_unread : {R W E : Type 0} (topology : List ℕ) (site : ℕ) (was read : Reading R) (old : Writing W) (err_old err_new : Writing E) (status : ℕ)
    → NamesFault of_file IsUnread status err_old err_new → ServesFile topology site was read old old err_old err_new status
is_unread topology site was read old err_old err_new status named = inr (refl, named)
