-- What the command comes to that the words name.
use Rattle.std.specs.Prelude.{◌≡◌, ℕ, ◌⊎◌, List, Option, codes}
use Rattle.clap.specs.declared.parser.matches.ArgMatches.{ArgMatches}
use Rattle.cmh_console.specs.Device.{Reading, Writing}
use Rattle.cmh_console.specs.Status.{IsStatus}
use Rattle.cmh_draw.specs.Kinds.{kind_word}
use Rattle.cmh_draw.specs.declared.picture.Kind.{Kind}
use Rattle.cmh_picture.specs.Formats.{format_word}
use Rattle.cmh_picture.specs.declared.format.Format.{Format}
use Rattle.cmh_files3.specs.declared.more.More.{More}
use Rattle.cmh_play3.specs.Plays.{PlaysInto}
use Rattle.cmh_commands.specs.Drawing.{DrawsFiles, DrawsSome, part_between}
use Rattle.cmh_commands.specs.Files.{AuditsFiles, ShowsFiles}
use Rattle.cmh_commands.specs.Later.{SomePartEnds}
use Rattle.cmh_commands.specs.NewWorld.{WorldEnds}
use Rattle.cmh_commands.specs.Paging.{PagesFiles, PlaysToPage}
use Rattle.cmh_commands.specs.Playing.{PlaysAlone, PlaysScript}
use Rattle.cmh.specs.CommandLine.{AsksAudit, NamesAudit, NamesCluster, NamesColumn, NamesDraw, NamesEdition, NamesEpoch, NamesFolder, NamesNewWorld, NamesNoEdition, NamesNoEpoch, NamesNoFolder, NamesNoPage, NamesNoPageFile, NamesNoStrictness, NamesNothing, NamesOption, NamesPage, NamesPlay, NamesSegments, NamesShow, NamesSite, NamesSiteNumber, NamesStrictness, ReadsNoInput}
use Rattle.cmh.specs.Listing.{ListsSome}
use Rattle.cmh.specs.Playing.{PlaysEdition3}
use Rattle.cmh.specs.Serving.{ServesCluster, ServesSite, ServesSome, ServesStrictly}

module _ {R W E : Type 0} (m : ArgMatches) (was read : Reading R) (old new : Writing W) (err_old err_new : Writing E) (status : ℕ) where
  -- where no command but `play` is named, a script is played; one of edition 3 where that is asked for
  pub record PlaysIfNamed : Type 0 where
    pub plays : NamesNothing m → NamesNoEdition m → NamesNoPageFile m → PlaysScript was read old new err_old err_new status
    pub to_page : NamesNothing m → NamesNoEdition m → PlaysToPage was read old new err_old err_new status
    pub alone : NamesNothing m → NamesNoEdition m → NamesNoFolder m → NamesNoPageFile m
        → PlaysAlone was read old new err_old err_new status
    pub edition3 : NamesPlay m → (edition : List ℕ) → NamesEdition m edition → NamesNoFolder m
        → PlaysEdition3 was read old new err_old err_new status
    pub edition3_into : NamesPlay m → (edition folder : List ℕ) → NamesEdition m edition → NamesFolder m folder
        → PlaysInto was read old new err_old err_new status

  -- Where an audit is named, files are audited; the reasons for stops, a run, or its declarations, are told where they are
  -- asked for. Where an epoch is named besides, some epochs are.
  pub record AuditsIfNamed : Type 0 where
    pub files : NamesAudit m → NamesNoEpoch m → (more : More) → AsksAudit m more → AuditsFiles more old new err_old err_new status
    pub some : NamesAudit m → NamesNoEpoch m → (more : More) × AuditsFiles more old new err_old err_new status
    pub part : NamesAudit m → ((more : More) × AuditsFiles more old new err_old err_new status) ⊎ SomePartEnds status

  -- where `draw` is named, a picture is written of the kind and the format that are asked for, or a page
  pub record DrawsIfNamed : Type 0 where
    pub files : NamesDraw m → NamesNoPage m → (kind : Kind) → (format : Format) → (first last epoch : Option ℕ)
        → NamesOption m (codes "kind") (kind_word kind) → NamesOption m (codes "format") (format_word format)
        → NamesColumn m (codes "from") first → NamesColumn m (codes "to") last → NamesEpoch m epoch
        → DrawsFiles kind format (part_between first last) epoch old new err_old err_new status
    pub some : NamesDraw m → NamesNoPage m → DrawsSome old new err_old err_new status
    pub page : NamesDraw m → NamesPage m → PagesFiles old new err_old err_new status

  -- where `site` is named, that site is served
  pub record ServesIfNamed : Type 0 where
    pub this : NamesSite m → (site : ℕ) → NamesSiteNumber m site → ServesSite site was read old new err_old err_new status
    pub some : NamesSite m → ServesSome was read old new err_old err_new status

  -- where `cluster` is named, all sites are
  pub record ClustersIfNamed : Type 0 where
    pub ends : NamesCluster m → NamesNoStrictness m → ServesCluster old new err_old err_new status
    pub strictly : NamesCluster m → NamesStrictness m → ServesStrictly old new err_old err_new status

  -- The command ended with a status. Where `show` is named, lines of journals are written; where `new-world` is, the number
  -- of a world is told; and where `segments` is, just their lines are written.
  pub record Runs : Type 0 where
    pub ends : IsStatus status
    pub plays : PlaysIfNamed
    pub audits : AuditsIfNamed
    pub shows : NamesShow m → ShowsFiles old new err_old err_new status
    pub draws : DrawsIfNamed
    pub serves : ServesIfNamed
    pub clusters : ClustersIfNamed
    pub makes_world : NamesNewWorld m → WorldEnds old new err_old err_new status
    pub lists : NamesSegments m → status ≡ 0 → ListsSome old.written new.written
    pub reads_nothing : ReadsNoInput m → read ≡ was
