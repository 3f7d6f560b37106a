-- What the command comes to that is named: of the others nothing is to be shown.
use Rattle.std.proofs.Common.{◌≡◌, ℕ, codes, inl, inr, rules}
use Rattle.clap.specs.declared.parser.matches.ArgMatches.{ArgMatches}
use Rattle.cmh_console.specs.Device.{Reading, Writing}
use Rattle.cmh_console.specs.Status.{IsStatus}
use Rattle.cmh_commands.specs.Files.{ShowsFiles}
use Rattle.cmh_commands.specs.NewWorld.{WorldEnds}
use Rattle.cmh.specs.CommandLine.{Names, NamesNothing, ReadsNoInput}
use Rattle.cmh.specs.Commands.{AuditsIfNamed, ClustersIfNamed, DrawsIfNamed, PlaysIfNamed, Runs, ServesIfNamed}
use Rattle.cmh.specs.Listing.{ListsSome}

-- a command that reads no input is one of these
reads : {R : Type 0} (m : ArgMatches) {was read : Reading R} → (Names m (codes "audit") → ⊥) → (Names m (codes "show") → ⊥)
    → (Names m (codes "draw") → ⊥) → (Names m (codes "cluster") → ⊥) → (Names m (codes "new-world") → ⊥) → ReadsNoInput m → read ≡ was
reads m audit show draw cluster world (inl n) = absurd (audit n)
reads m audit show draw cluster world (inr (inl n)) = absurd (show n)
reads m audit show draw cluster world (inr (inr (inl n))) = absurd (draw n)
reads m audit show draw cluster world (inr (inr (inr (inl n)))) = absurd (cluster n)
reads m audit show draw cluster world (inr (inr (inr (inr n)))) = absurd (world n)

module _ {R W E : Type 0} {m : ArgMatches} {was read : Reading R} {old new : Writing W} {err_old err_new : Writing E} {status : ℕ} where
  no_play : (NamesNothing m → ⊥) → (Names m (codes "play") → ⊥) → PlaysIfNamed m was read old new err_old err_new status
  no_play none other = record {
    plays = λ n _ _. absurd (none n);
    to_page = λ n _. absurd (none n);
    alone = λ n _ _ _. absurd (none n);
    edition3 = λ n _ _ _. absurd (other n);
    edition3_into = λ n _ _ _ _. absurd (other n);
  }

  no_audit : (Names m (codes "audit") → ⊥) → AuditsIfNamed m was read old new err_old err_new status
  no_audit other = record { files = λ n _ _ _. absurd (other n); some = λ n _. absurd (other n); part = λ n. absurd (other n) }

  no_draw : (Names m (codes "draw") → ⊥) → DrawsIfNamed m was read old new err_old err_new status
  no_draw other = record {
    files = λ n _ _ _ _ _ _ _ _ _ _ _. absurd (other n);
    some = λ n _. absurd (other n);
    page = λ n _. absurd (other n);
  }

  no_site : (Names m (codes "site") → ⊥) → ServesIfNamed m was read old new err_old err_new status
  no_site other = record { this = λ n _ _. absurd (other n); some = λ n. absurd (other n) }

  no_cluster : (Names m (codes "cluster") → ⊥) → ClustersIfNamed m was read old new err_old err_new status
  no_cluster other = record { ends = λ n _. absurd (other n); strictly = λ n _. absurd (other n) }

  pub runs_audit : Names m (codes "audit") → IsStatus status → read ≡ was
      → AuditsIfNamed m was read old new err_old err_new status → Runs m was read old new err_old err_new status
  runs_audit named ends same audits = record {
    ends = ends;
    plays = no_play (λ n. n.no_audit named) (λ n. search rules);
    audits = audits;
    shows = λ n. search rules;
    draws = no_draw (λ n. search rules);
    serves = no_site (λ n. search rules);
    clusters = no_cluster (λ n. search rules);
    makes_world = λ n. search rules;
    lists = λ n. search rules;
    reads_nothing = λ _. same;
  }

  pub runs_draw : Names m (codes "draw") → IsStatus status → read ≡ was
      → DrawsIfNamed m was read old new err_old err_new status → Runs m was read old new err_old err_new status
  runs_draw named ends same draws = record {
    ends = ends;
    plays = no_play (λ n. n.no_draw named) (λ n. search rules);
    audits = no_audit (λ n. search rules);
    shows = λ n. search rules;
    draws = draws;
    serves = no_site (λ n. search rules);
    clusters = no_cluster (λ n. search rules);
    makes_world = λ n. search rules;
    lists = λ n. search rules;
    reads_nothing = λ _. same;
  }

  pub runs_show : Names m (codes "show") → IsStatus status → read ≡ was
      → ShowsFiles old new err_old err_new status → Runs m was read old new err_old err_new status
  runs_show named ends same shows = record {
    ends = ends;
    plays = no_play (λ n. n.no_show named) (λ n. search rules);
    audits = no_audit (λ n. search rules);
    shows = λ _. shows;
    draws = no_draw (λ n. search rules);
    serves = no_site (λ n. search rules);
    clusters = no_cluster (λ n. search rules);
    makes_world = λ n. search rules;
    lists = λ n. search rules;
    reads_nothing = λ _. same;
  }

  pub runs_new_world : Names m (codes "new-world") → IsStatus status → read ≡ was
      → WorldEnds old new err_old err_new status → Runs m was read old new err_old err_new status
  runs_new_world named ends same world = record {
    ends = ends;
    plays = no_play (λ n. n.no_new_world named) (λ n. search rules);
    audits = no_audit (λ n. search rules);
    shows = λ n. search rules;
    draws = no_draw (λ n. search rules);
    serves = no_site (λ n. search rules);
    clusters = no_cluster (λ n. search rules);
    makes_world = λ _. world;
    lists = λ n. search rules;
    reads_nothing = λ _. same;
  }

  pub runs_site : Names m (codes "site") → IsStatus status
      → ServesIfNamed m was read old new err_old err_new status → Runs m was read old new err_old err_new status
  runs_site named ends serves = record {
    ends = ends;
    plays = no_play (λ n. n.no_site named) (λ n. search rules);
    audits = no_audit (λ n. search rules);
    shows = λ n. search rules;
    draws = no_draw (λ n. search rules);
    serves = serves;
    clusters = no_cluster (λ n. search rules);
    makes_world = λ n. search rules;
    lists = λ n. search rules;
    reads_nothing = reads m (λ n. search rules) (λ n. search rules) (λ n. search rules) (λ n. search rules) (λ n. search rules);
  }

  pub runs_serve : Names m (codes "serve") → IsStatus status → Runs m was read old new err_old err_new status
  runs_serve named ends = record {
    ends = ends;
    plays = no_play (λ n. n.no_serve named) (λ n. search rules);
    audits = no_audit (λ n. search rules);
    shows = λ n. search rules;
    draws = no_draw (λ n. search rules);
    serves = no_site (λ n. search rules);
    clusters = no_cluster (λ n. search rules);
    makes_world = λ n. search rules;
    lists = λ n. search rules;
    reads_nothing = reads m (λ n. search rules) (λ n. search rules) (λ n. search rules) (λ n. search rules) (λ n. search rules);
  }

  pub runs_cluster : Names m (codes "cluster") → IsStatus status → read ≡ was
      → ClustersIfNamed m was read old new err_old err_new status → Runs m was read old new err_old err_new status
  runs_cluster named ends same clusters = record {
    ends = ends;
    plays = no_play (λ n. n.no_cluster named) (λ n. search rules);
    audits = no_audit (λ n. search rules);
    shows = λ n. search rules;
    draws = no_draw (λ n. search rules);
    serves = no_site (λ n. search rules);
    clusters = clusters;
    makes_world = λ n. search rules;
    lists = λ n. search rules;
    reads_nothing = λ _. same;
  }

  pub runs_segments : Names m (codes "segments") → IsStatus status
      → (status ≡ 0 → ListsSome old.written new.written) → Runs m was read old new err_old err_new status
  runs_segments named ends lists = record {
    ends = ends;
    plays = no_play (λ n. n.no_segments named) (λ n. search rules);
    audits = no_audit (λ n. search rules);
    shows = λ n. search rules;
    draws = no_draw (λ n. search rules);
    serves = no_site (λ n. search rules);
    clusters = no_cluster (λ n. search rules);
    makes_world = λ n. search rules;
    lists = λ _. lists;
    reads_nothing = reads m (λ n. search rules) (λ n. search rules) (λ n. search rules) (λ n. search rules) (λ n. search rules);
  }

  pub runs_restore : Names m (codes "restore") → IsStatus status → Runs m was read old new err_old err_new status
  runs_restore named ends = record {
    ends = ends;
    plays = no_play (λ n. n.no_restore named) (λ n. search rules);
    audits = no_audit (λ n. search rules);
    shows = λ n. search rules;
    draws = no_draw (λ n. search rules);
    serves = no_site (λ n. search rules);
    clusters = no_cluster (λ n. search rules);
    makes_world = λ n. search rules;
    lists = λ n. search rules;
    reads_nothing = reads m (λ n. search rules) (λ n. search rules) (λ n. search rules) (λ n. search rules) (λ n. search rules);
  }

  pub runs_play : NamesNothing m → IsStatus status → PlaysIfNamed m was read old new err_old err_new status
      → Runs m was read old new err_old err_new status
  runs_play nothing ends plays = record {
    ends = ends;
    plays = plays;
    audits = no_audit nothing.no_audit;
    shows = λ n. absurd (nothing.no_show n);
    draws = no_draw nothing.no_draw;
    serves = no_site nothing.no_site;
    clusters = no_cluster nothing.no_cluster;
    makes_world = λ n. absurd (nothing.no_new_world n);
    lists = λ n. absurd (nothing.no_segments n);
    reads_nothing = reads m nothing.no_audit nothing.no_show nothing.no_draw nothing.no_cluster nothing.no_new_world;
  }
