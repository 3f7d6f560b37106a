-- Pages of files, and of scripts that are played.
use Rattle.std.specs.Prelude.{◌≡◌, ℕ, ◌⊎◌, List, Option, ⊤}
use Rattle.clap.specs.declared.parser.matches.Found.{Found}
use Rattle.cmh_console.specs.Device.{Reading, Writing}
use Rattle.cmh_console.specs.Faults.{NamesFault}
use Rattle.cmh_console.specs.TopologyFile3.{SaysNoWorld}
use Rattle.cmh_page.specs.PageFaults.{NamesPageFault}
use Rattle.cmh_page.specs.Pages.{IsPageFault, PageEnds}
use Rattle.cmh_page3.specs.Pages as edition3
use Rattle.cmh_play.specs.PlayFaults.{as_fault as of_play}
use Rattle.cmh_play.specs.declared.play_fault.PlayFault.{PlayFault}
use Rattle.cmh_inputs.specs.Editions.{SaysSomeWorld}
use Rattle.cmh_inputs.specs.FileFaults.{IsUnread, as_fault}
use Rattle.cmh_inputs.specs.Stored.{Stored}
use Rattle.cmh_commands.specs.Files.{EndsOver}
use Rattle.cmh_commands.specs.Playing.{PlaysScript}

-- the page of these files: of edition 3 where the topology file says a world of it, else of editions 1 and 2
abbrev pub PageEndsByEdition : {W E : Type 0} → List ℕ → List (List ℕ) → Writing W → Writing W → Writing E → Writing E → ℕ → Type 0
PageEndsByEdition topology files old new err_old err_new status =
    (SaysSomeWorld topology × edition3.PageEnds topology files old new err_old err_new status)
    ⊎ (SaysNoWorld topology × PageEnds topology files old new err_old err_new status)

-- a page of the files that are named was written
abbrev pub PagesNamed : {W E : Type 0} → Option Stored → Found → Writing W → Writing W → Writing E → Writing E → ℕ → Type 0
PagesNamed told found old new err_old err_new status =
    EndsOver told found (λ topology files. PageEndsByEdition topology files old new err_old err_new status)
    old new err_old err_new status

-- a page of some files was written, or nothing is written and the fault of one that could not be read is named
abbrev pub PagesFiles : {W E : Type 0} → Writing W → Writing W → Writing E → Writing E → ℕ → Type 0
PagesFiles old new err_old err_new status =
    ((topology : List ℕ) × (files : List (List ℕ)) × PageEndsByEdition topology files old new err_old err_new status)
    ⊎ ((new ≡ old) × NamesFault as_fault IsUnread status err_old err_new)

-- nothing is known of a page's file
abbrev pub HasNoFile : PlayFault → Type 0
HasNoFile fault = ⊤

-- the file of a page was written, or it is named why not
abbrev pub IsWritten : {E : Type 0} → Writing E → Writing E → ℕ → Type 0
IsWritten err_old err_new status =
    ((status ≡ 0) × (err_new ≡ err_old)) ⊎ NamesFault of_play HasNoFile status err_old err_new

-- why a script that was played to its end has no page
abbrev pub NamesNoPage : {E : Type 0} → Writing E → Writing E → ℕ → Type 0
NamesNoPage err_old err_new status =
    ((topology : List ℕ) × (files : List (List ℕ)) × NamesPageFault (IsPageFault topology files) status err_old err_new)
    ⊎ NamesFault of_play HasNoFile status err_old err_new

-- a script was played, as it is where its journals are kept; or it was played to its end, and then it is named why it has
-- no page
abbrev pub PlaysToPage : {R W E : Type 0} → Reading R → Reading R → Writing W → Writing W → Writing E → Writing E → ℕ → Type 0
PlaysToPage was read old new err_old err_new status =
    PlaysScript was read old new err_old err_new status
    ⊎ (PlaysScript was read old new err_old err_old 0 × NamesNoPage err_old err_new status)
