use Rattle.std.proofs.Common.{List, ℕ, subst}
use Rattle.std.proofs.lemmas.Option.{IfSome_then}
use Rattle.cmh_restore3.specs.Reading.{BeginsWith}
use Rattle.cmh_restore3.proofs.Fronts.{begins_file, read_twice}
use Rattle.cmh_restore3.proofs.reading.read_head_of.Goals as goal

pub returns-clause-begins : goal.returns-clause-begins
returns-clause-begins g c =
    let left = g.F.InputFile.left in
    IfSome_then c.in_ok-head.head c.in_ok-head.ensures.begins (λ head begins file is_left.
    begins_file file c.read_up_to-2.new.bytes.items _ head
    (read_twice file c.new-bytes.result.items c.read_up_to.new.bytes.items c.read_up_to-2.new.bytes.items _ _ (left c.args.file.now) (left c.read_up_to.new.self) (left c.read_up_to-2.new.self)
    c.new-bytes.ensures.items is_left c.in_ok-read_up_to.ensures.read c.in_ok-read_up_to-2.ensures.read)
    (subst (λ (bytes : List ℕ). BeginsWith bytes head) c.deref-2.ensures.value begins))
