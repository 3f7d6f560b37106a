-- What the words of a command line name, and how the program ends.
use Rattle.std.specs.Prelude.{◌≡◌, ℕ, ◌⊎◌, List, codes, option_map, Option, None, Some}
use Rattle.clap.specs.declared.parser.matches.ArgMatches.{ArgMatches}
use Rattle.clap.specs.declared.parser.matches.Found.{Found}
use Rattle.clap.specs.Matches.{first_value, found_of, one_text, subcommand_name_of}
use Rattle.clap.specs.Simple.{subcommand_rows_of}
use Rattle.clap.specs.Walk.{rows_of}
use Rattle.cmh_frames.specs.Number.{IsNumber}
use Rattle.cmh_console.specs.Status.{IsStatus}
use Rattle.cmh_commands.specs.Drawing.{TellsColumn}
use Rattle.cmh_commands.specs.Files.{AsksFor, IsUnset}
use Rattle.cmh_commands.specs.Later as later
use Rattle.cmh_commands.specs.Numbers.{TellsEpoch, TellsNumber}
use Rattle.cmh_files3.specs.declared.more.More.{More}

-- the command that is named is the audit
abbrev pub NamesAudit : ArgMatches → Type 0
NamesAudit matches = subcommand_name_of matches ≡ Some (codes "audit")

-- the command that is named is `show`
abbrev pub NamesShow : ArgMatches → Type 0
NamesShow matches = subcommand_name_of matches ≡ Some (codes "show")

-- the command that is named is `draw`
abbrev pub NamesDraw : ArgMatches → Type 0
NamesDraw matches = subcommand_name_of matches ≡ Some (codes "draw")

-- the command that is named is `site`
abbrev pub NamesSite : ArgMatches → Type 0
NamesSite matches = subcommand_name_of matches ≡ Some (codes "site")

-- the command that is named is `cluster`
abbrev pub NamesCluster : ArgMatches → Type 0
NamesCluster matches = subcommand_name_of matches ≡ Some (codes "cluster")

-- the command that is named is `new-world`
abbrev pub NamesNewWorld : ArgMatches → Type 0
NamesNewWorld matches = subcommand_name_of matches ≡ Some (codes "new-world")

-- the command that is named is `segments`
abbrev pub NamesSegments : ArgMatches → Type 0
NamesSegments matches = subcommand_name_of matches ≡ Some (codes "segments")

-- the command that is named is `play`
abbrev pub NamesPlay : ArgMatches → Type 0
NamesPlay matches = subcommand_name_of matches ≡ Some (codes "play")

-- a command with this name is named
abbrev pub Names : ArgMatches → List ℕ → Type 0
Names matches name = subcommand_name_of matches ≡ Some name

-- the command that is named is `play`, or none is
pub record NamesNothing (matches : ArgMatches) : Type 0 where
  pub no_audit : Names matches (codes "audit") → ⊥
  pub no_site : Names matches (codes "site") → ⊥
  pub no_cluster : Names matches (codes "cluster") → ⊥
  pub no_serve : Names matches (codes "serve") → ⊥
  pub no_show : Names matches (codes "show") → ⊥
  pub no_draw : Names matches (codes "draw") → ⊥
  pub no_new_world : Names matches (codes "new-world") → ⊥
  pub no_segments : Names matches (codes "segments") → ⊥
  pub no_restore : Names matches (codes "restore") → ⊥

-- the command that is named has nothing to read but files
abbrev pub ReadsNoInput : ArgMatches → Type 0
ReadsNoInput matches =
    NamesAudit matches ⊎ NamesShow matches ⊎ NamesDraw matches ⊎ NamesCluster matches ⊎ NamesNewWorld matches

-- it holds of the words behind the name of the command
abbrev pub OfWords : ArgMatches → (Found → Type 0) → Type 0
OfWords matches Holds = (words : ArgMatches)
    → option_map (λ p. p.1) (subcommand_rows_of matches) ≡ Some (rows_of (found_of words)) → Holds (found_of words)

-- no folder for journals is named
abbrev pub NamesNoFolder : ArgMatches → Type 0
NamesNoFolder matches = OfWords matches (λ found. first_value found (codes "journals") ≡ None)

-- one is named
abbrev pub NamesFolder : ArgMatches → List ℕ → Type 0
NamesFolder matches folder = OfWords matches (λ found. first_value found (codes "journals") ≡ Some folder)

-- no file for a page is named
abbrev pub NamesNoPageFile : ArgMatches → Type 0
NamesNoPageFile matches = OfWords matches (λ found. first_value found (codes "page") ≡ None)

-- no edition is named
abbrev pub NamesNoEdition : ArgMatches → Type 0
NamesNoEdition matches = OfWords matches (λ found. first_value found (codes "edition") ≡ None)

-- an edition is named; the command line takes 3 alone
abbrev pub NamesEdition : ArgMatches → List ℕ → Type 0
NamesEdition matches edition = OfWords matches (λ found. first_value found (codes "edition") ≡ Some edition)

-- an option of the command has this value
abbrev pub NamesOption : ArgMatches → List ℕ → List ℕ → Type 0
NamesOption matches name value = OfWords matches (λ found. one_text found name ≡ Some value)

-- the number of the site is told, and is this one of the numbers that sites have
abbrev pub NamesSiteNumber : ArgMatches → ℕ → Type 0
NamesSiteNumber matches site = IsNumber site × OfWords matches (λ found. TellsNumber (one_text found (codes "site")) site)

-- an option of the command is this column, or it is not told
abbrev pub NamesColumn : ArgMatches → List ℕ → Option ℕ → Type 0
NamesColumn matches name told = OfWords matches (λ found. TellsColumn (one_text found name) told)

-- an epoch is told, or none is
abbrev pub NamesEpoch : ArgMatches → Option ℕ → Type 0
NamesEpoch matches told = OfWords matches (λ found. TellsEpoch (one_text found (codes "epoch")) told)

-- what the audit is asked to tell after its report
abbrev pub AsksAudit : ArgMatches → More → Type 0
AsksAudit matches more = OfWords matches (λ found. AsksFor found more)

-- no epoch is named
abbrev pub NamesNoEpoch : ArgMatches → Type 0
NamesNoEpoch matches = OfWords matches later.NamesNoEpoch

-- a page is not asked for
abbrev pub NamesNoPage : ArgMatches → Type 0
NamesNoPage matches = OfWords matches (λ found. IsUnset (one_text found (codes "page")))

-- it is asked for
abbrev pub NamesPage : ArgMatches → Type 0
NamesPage matches = NamesOption matches (codes "page") (codes "true")

-- a cluster is not to be strict
abbrev pub NamesNoStrictness : ArgMatches → Type 0
NamesNoStrictness matches = OfWords matches (λ found. IsUnset (one_text found (codes "strict")))

-- it is to be
abbrev pub NamesStrictness : ArgMatches → Type 0
NamesStrictness matches = NamesOption matches (codes "strict") (codes "true")

-- the status of a command, or 2 for a command line that isn't understood
abbrev pub IsEnd : ℕ → Type 0
IsEnd n = IsStatus n ⊎ (n ≡ 2)
