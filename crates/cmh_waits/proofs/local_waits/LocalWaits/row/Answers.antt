use Rattle.std.proofs.Common.{ℕ, List, ◌∙◌, ap}
use Rattle.cmh_waits.specs.Held.{Held}
use Rattle.cmh_bits.specs.Bits.{is_set}
use Rattle.cmh_waits.specs.Rows.{bit_of, joins}
use Rattle.cmh_waits.proofs.RowLemmas.{row_bits}
use Rattle.cmh_waits.proofs.local_waits.LocalWaits.row.Goals as goal

pub returns-in-Some : goal.returns-in-Some
returns-in-Some c = λ k.
    let w = c.self.inside in
    let place = c.args.place in
    ap (λ n. is_set n k) (c.in-Some.ensures.lookup.3.1 0) ∙ ap (λ (xs : List ℕ). bit_of xs place k) c.deref.ensures.value
    ∙ row_bits w.members w.waits.items w.remote_waits.items c.self.invariant.2.ascending c.self.invariant.0 place k
    ∙ ap (λ (v : Held). joins v.members v.waits place k) c.self.view_is
