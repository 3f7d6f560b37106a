-- The paths that the words of a command line name.
use Rattle.std.specs.Prelude.{ℕ, List, [], map, Option, None, Some, option_map, unwrap_or, codes}
use Rattle.clap.specs.Matches.{first_value, matched_of, raw_values}
use Rattle.clap.specs.declared.parser.matches.Found.{Found}
use Rattle.cmh_archive3.specs.Names.{segment_path}

-- that of the topology file; the command line takes no audit without it
abbrev pub topology_path : Found → List ℕ
topology_path found = unwrap_or (first_value found (codes "topology")) []

-- those of the journals, in their order
abbrev pub journal_paths : Found → List (List ℕ)
journal_paths found = unwrap_or (option_map raw_values (matched_of found (codes "journals"))) []

-- those of what is shown: where an epoch is named, of its segments in the folders that are named
abbrev pub shown_paths : Option ℕ → List (List ℕ) → List (List ℕ)
shown_paths None paths = paths
shown_paths (Some epoch) folders = map (λ folder. segment_path folder epoch) folders
