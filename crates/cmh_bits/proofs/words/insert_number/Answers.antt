use Rattle.std.proofs.Common.{◌/◌, get_or}
use Rattle.std.proofs.lemmas.List.{get_or_default}
use Rattle.cmh_bits.proofs.WordLemmas.{inserted}
use Rattle.cmh_bits.proofs.words.insert_number.Goals as goal

pub returns-clause-numbers : goal.returns-clause-numbers
returns-clause-numbers c = λ k.
    let ws = c.args.words.now in
    let at = c.args.number / 64 in
    inserted ws c.args.number (get_or ws at 0) c.with_bit.result k c.requires (get_or_default ws at 0 (get_or ws at 0) c.requires) c.with_bit.ensures
