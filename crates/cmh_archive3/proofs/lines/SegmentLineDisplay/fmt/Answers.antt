use Rattle.std.proofs.Common.{List, ℕ, ◌++◌, codes, subst₂}
use Rattle.std.proofs.Output.{has_written_of_eq}
use Rattle.std.specs.Fmt.{HasWritten}
use Rattle.cmh_archive3.specs.Lines.{state_text, summary_text}
use Rattle.cmh_archive3.specs.declared.lines.SegmentLine.{SegmentLine}
use Rattle.cmh_archive3.proofs.Lists.{joined_six}
use Rattle.cmh_archive3.proofs.lines.SegmentLineDisplay.fmt.Goals as goal

-- the text of a line, with these words
abbrev told : SegmentLine → List ℕ → List ℕ → List ℕ
told line audited archive = summary_text line.segment.summary ++ codes " " ++ state_text line.state ++ audited ++ archive ++ codes "\n"

pub returns-clause-writes : goal.returns-clause-writes
returns-clause-writes g c = λ plain ok.
    let line = c.args.self.now in
    subst₂ (λ (audited archive : List ℕ). HasWritten g.W.Write.write_str_gives c.args.f.now (told line audited archive) c.write.new.self)
    c.word_if-audited.ensures c.word_if-archive.ensures
    (has_written_of_eq _ _ _ _ _
    (joined_six (summary_text line.segment.summary) (codes " ") (state_text line.state) c.word_if-audited.result.now c.word_if-archive.result.now (codes "\n"))
    (c.write.ensures.writes plain ok))
