use Rattle.std.proofs.Common.{◌≡◌, ◌≢◌, ℕ, List, MatchBool, subst}
use Rattle.std.specs.Cmp.Lexicographic.{told_text}
use Rattle.cmh_archive3.proofs.Lists.{file_is}
use Rattle.cmh_archive3.proofs.records.is_file.Goals as goal

pub returns-in-Ok-read_up_to : goal.returns-in-Ok-read_up_to
returns-in-Ok-read_up_to g c = λ stored told.
    let bytes = c.args.bytes.now in
    let opened = c.in-Ok.ensures.opened stored told in
    let reads = c.in-Ok-read_up_to.ensures.read opened.bytes opened.left_is in
    file_is _ opened.bytes bytes c.read_up_to.new.bytes.items c.new-read.result.items c.eq.result opened.held_is c.new-read.ensures.items reads.read
    (subst (λ (read : List ℕ). MatchBool c.eq.result (read ≡ bytes) (read ≢ bytes)) c.as_slice.ensures.value (told_text c.as_slice.result.now bytes c.eq.result c.eq.ensures))

pub returns-in-Err-Refused-read_up_to : goal.returns-in-Err-Refused-read_up_to
returns-in-Err-Refused-read_up_to g c = λ stored told held.
    let opened = c.in-Ok.ensures.opened stored told in
    let none = c.in-Err-Refused-read_up_to.ensures.refused c.in-Err-Refused-read_up_to.field-0-is in
    cc (none, opened.left_is)
