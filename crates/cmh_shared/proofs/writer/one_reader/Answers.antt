use Rattle.std.proofs.Common.{rules}
use Rattle.cmh_shared.proofs.Sight.{admits, forks, merges}
use Rattle.cmh_shared.proofs.writer.one_reader.Goals as goal

pub reader-requires : goal.reader-requires
reader-requires c = admits

pub tell-note-requires : goal.tell-note-requires
tell-note-requires c = forks _ _

pub learn-requires : goal.learn-requires
learn-requires c = record { own = search rules; rule = merges _ _ _ _ }
