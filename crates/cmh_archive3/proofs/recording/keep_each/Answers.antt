use Rattle.std.proofs.Common.{ℕ, ◌<◌, List, [], length, Bor, Vec, arith}
use Rattle.std.proofs.lemmas.List.{get_or-map}
use Rattle.std.specs.Global.{Global}
use Rattle.cmh_archive3.specs.declared.summary.Summary.{Summary}
use Rattle.cmh_archive3.proofs.Keeping.{each_more}
use Rattle.cmh_archive3.proofs.recording.keep_each.Goals as goal

pub loop-i-preserved : goal.loop-i-preserved
loop-i-preserved g c =
    let test = c.loop-i-test.true in
    let count = c.requires in
    let inside : c.loop-i.i < length c.args.paths.now = omega (arith, test, count) in
    each_more g.K.RecordKeeper.keeps c.args.newest.now (λ (path : Bor (List ℕ)). path.now) (λ (segments : Vec Summary Global). segments.items)
    c.args.paths.now c.args.journals.now c.loop-i.i _ c.index-journals-i.result c.deref.result.now c.args.keeper.now c.loop-i.keeper c.keep_journal.new.keeper
    inside test (get_or-map (λ (path : Bor (List ℕ)). path.now) c.args.paths.now c.loop-i.i _ [] inside) c.index-journals-i.is c.deref.ensures.value
    c.loop-i.invariant c.in_ok-keep_journal.ensures
