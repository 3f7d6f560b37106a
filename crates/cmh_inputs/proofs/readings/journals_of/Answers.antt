use Rattle.std.proofs.Common.{ℕ, List, [], map, Bor, Vec, arith}
use Rattle.std.proofs.lemmas.List.{get_or-map, length-map}
use Rattle.std.proofs.lemmas.Result.{err_from_is_err_and}
use Rattle.std.specs.Global.{Global}
use Rattle.cmh_inputs.proofs.JournalLemmas.{unread_at}
use Rattle.cmh_inputs.proofs.readings.journals_of.Goals as goal

pub returns-in_err-read_journal-clause-unread : goal.returns-in_err-read_journal-clause-unread
returns-in_err-read_journal-clause-unread g c =
    let p = err_from_is_err_and c.from_residual.result c.from_residual.ensures.1 in
    let texts = map (λ (path : Bor (List ℕ)). path.now) c.args.paths.now in
    let count = length-map c.args.paths.now (λ (path : Bor (List ℕ)). path.now) in
    let test = c.loop-i-test.true in
    rw (p.1, p.2)
    (unread_at (g.N.Inputs.holds c.args.inputs.now) texts c.loop-i.i _ _ (omega (arith, count, test))
    (get_or-map (λ (path : Bor (List ℕ)). path.now) c.args.paths.now c.loop-i.i _ [] (omega (arith, test)))
    c.in_err-read_journal.ensures.fault c.in_err-read_journal.ensures.unread)

pub returns-clause-named : goal.returns-clause-named
returns-clause-named g c = λ stored told.
    let files = length-map c.loop-i.journals.items (λ (file : Vec ℕ Global). file.items) in
    let paths = length-map c.args.paths.now (λ (path : Bor (List ℕ)). path.now) in
    let n = c.loop-i.invariant.count in
    let test = c.loop-i-test.false in
    let end = c.loop-i.auto.i-end in
    record {
      count = omega (arith, files, paths, n, test, end);
      each = λ k inside. c.loop-i.invariant.read stored told k (omega (arith, inside, paths, test, end));
    }
