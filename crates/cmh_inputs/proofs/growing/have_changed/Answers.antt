use Rattle.std.proofs.Common.{ℕ, ◌<◌, List, [], length, Bor, Vec, sym, ap, subst, subst₂, ◌∙◌, arith}
use Rattle.std.proofs.lemmas.List.{get_or-map, length-map}
use Rattle.std.specs.Global.{Global}
use Rattle.cmh_inputs.specs.Inner.Faulty.{AreNoJournal}
use Rattle.cmh_inputs.specs.Reading.{IsReadAt}
use Rattle.cmh_inputs.proofs.growing.have_changed.Goals as goal

pub returns-then-changed : goal.returns-then-changed
returns-then-changed g c = λ changed stored told named.
    let i = c.loop-i.i in
    let test = c.loop-i-test.true in
    let each = c.requires in
    let in_read : i < length c.args.read.now = omega (arith, test) in
    let in_paths : i < length c.args.paths.now = omega (arith, test, each) in
    let files = length-map c.args.read.now (λ (file : Vec ℕ Global). file.items) in
    let texts = length-map c.args.paths.now (λ (path : Bor (List ℕ)). path.now) in
    let file_is = get_or-map (λ (file : Vec ℕ Global). file.items) c.args.read.now i c.index-read-i.result [] in_read
    ∙ ap (λ (file : Vec ℕ Global). file.items) (sym c.index-read-i.is) ∙ sym c.deref.ensures.value in
    let has = c.in_ok-changed.ensures c.if-changed.true stored told
    (subst₂ (IsReadAt stored) (get_or-map (λ (path : Bor (List ℕ)). path.now) c.args.paths.now i _ [] in_paths) file_is
    (named.each i (omega (arith, in_paths, texts)))) in
    record {
      place = i;
      inside = omega (arith, in_read, files);
      none = subst AreNoJournal (sym file_is) has;
    }
