-- What an audit prints.
use Rattle.std.specs.Prelude.{ℕ, zero, suc, List, [], ◌++◌, codes, Option, None, Some, flat_map}
use Rattle.std.specs.Fmt.{decimal}
use Rattle.cmh_frames.specs.declared.edition.Edition.{Edition}
use Rattle.cmh_frames.specs.declared.edition.Edition.TheVariants.{One, Two}
use Rattle.cmh_audit.specs.declared.verdict.Verdict.{Verdict}
use Rattle.cmh_audit.specs.declared.verdict.Verdict.TheVariants.{Accepted, Refused}
use Rattle.cmh_audit.specs.Reports.{Report, cycle_of}
use Rattle.cmh_frames.specs.Texts.{processes_text}

-- a line with two numbers: a word, the first, what stands between, and the second
abbrev pub pair_text : List ℕ → List ℕ → ℕ × ℕ → List ℕ
pair_text word between pair = word ++ decimal pair.0 ++ between ++ decimal pair.1 ++ codes "\n"

-- ---- accepted

-- how many frames were sent and not got, which is told in edition 2 alone
abbrev pub transit_text : Edition → ℕ → List ℕ
transit_text One frames = []
transit_text Two zero = codes "drained\n"
transit_text Two (suc frames) = codes "in transit " ++ decimal (suc frames) ++ codes "\n"

-- a process and a cycle through it; nothing where it has none
abbrev pub deadlock_text : ℕ → Option (List ℕ) → List ℕ
deadlock_text process None = []
deadlock_text process (Some members) =
    codes "declared " ++ decimal process ++ codes " cycle" ++ processes_text members ++ codes "\n"

abbrev pub report_text : Edition → Report → List ℕ
report_text edition report =
    codes "accepted\nevents " ++ decimal report.events ++ codes "\n" ++ transit_text edition report.in_transit
    ++ flat_map (pair_text (codes "wait ") (codes " ")) report.waits
    ++ flat_map (λ process. deadlock_text process (cycle_of report process)) report.declared

-- ---- refused

abbrev pub verdict_text : Edition → Verdict → List ℕ
verdict_text edition (Accepted report) = report_text edition report
verdict_text edition (Refused stops) = codes "refused\n" ++ flat_map (pair_text (codes "stop ") (codes " at ")) stops.rows

-- ---- before the verdict

-- each site whose journal was cut off, with how many bytes stand after its last entry
abbrev pub cuts_text : List (ℕ × ℕ) → List ℕ
cuts_text cuts = flat_map (pair_text (codes "cut ") (codes " ")) cuts
