use Rattle.std.proofs.Common.{not, length, true≢false, sym, ap, ◌∙◌}
use Rattle.std.proofs.lemmas.Bool.{eq-eqb}
use Rattle.cmh_inputs.proofs.JournalLemmas.{changed_is_faulty}
use Rattle.cmh_inputs.proofs.growing.has_changed.Goals as goal

pub returns-in-Some : goal.returns-in-Some
returns-in-Some g c = λ changed stored told read.
    changed_is_faulty stored c.args.path.now c.args.read.now c.in-Some.length read
    (c.in_ok-length.ensures c.in-Some.length c.in-Some.is stored told)
    (λ e. true≢false (sym changed ∙ ap not (eq-eqb c.in-Some.length (length c.args.read.now) e)))
