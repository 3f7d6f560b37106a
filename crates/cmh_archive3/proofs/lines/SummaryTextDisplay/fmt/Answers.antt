use Rattle.std.proofs.Common.{ℕ, List, ◌++◌, codes, subst}
use Rattle.std.proofs.Output.{has_written_of_eq}
use Rattle.std.specs.Fmt.{HasWritten, decimal}
use Rattle.cmh_archive3.specs.Names.{sixteen_digits}
use Rattle.cmh_archive3.specs.declared.summary.Summary.{Summary}
use Rattle.cmh_archive3.proofs.Lists.{joined_ten}
use Rattle.cmh_archive3.proofs.lines.SummaryTextDisplay.fmt.Goals as goal

-- the text, with this epoch
abbrev told : Summary → ℕ → List ℕ
told summary epoch =
    codes "site " ++ decimal summary.header.site ++ codes " epoch " ++ decimal epoch
    ++ codes " entries " ++ decimal summary.entries ++ codes " bytes " ++ decimal summary.bytes
    ++ codes " mark " ++ sixteen_digits summary.mark

pub returns-clause-writes : goal.returns-clause-writes
returns-clause-writes g c = λ plain ok.
    let summary = c.args.self.now.summary in
    subst (λ (epoch : ℕ). HasWritten g.W.Write.write_str_gives c.args.f.now (told summary epoch) c.write.new.self) c.get-epoch.ensures
    (has_written_of_eq _ _ _ _ _
    (joined_ten (codes "site ") (decimal summary.header.site) (codes " epoch ") (decimal c.get-epoch.result) (codes " entries ") (decimal summary.entries)
    (codes " bytes ") (decimal summary.bytes) (codes " mark ") (sixteen_digits summary.mark))
    (c.write.ensures.writes plain ok))
