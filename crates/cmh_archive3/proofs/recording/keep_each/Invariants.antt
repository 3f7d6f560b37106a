use Rattle.std.proofs.Common.{map, take}
use Rattle.cmh_archive3.specs.Recording.{KeepsEach}
use Rattle.cmh_archive3.proofs.recording.keep_each.Given as goal

abbrev pub invariant-loop-i : goal.invariant-loop-i
invariant-loop-i g l =
    KeepsEach g.K.RecordKeeper.keeps l.newest (map (λ path. path.now) (take l.i l.paths)) (map (λ segments. segments.items) (take l.i l.journals)) l.initial.keeper l.keeper
