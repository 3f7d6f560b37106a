use Rattle.std.proofs.Common.{◌+◌, ◌∙◌, ◌||◌, ◌==◌, not, get_or, sym, ap}
use Rattle.std.proofs.lemmas.Bool.{eq-eqb, ne_eqb, or_left, or_right}
use Rattle.cmh_bits.specs.Bits.{has_number}
use Rattle.cmh_cycles.proofs.RowLemmas.{leading_kept, leading_dropped}
use Rattle.cmh_cycles.proofs.unions.leading.Goals as goal
use Rattle.cmh_cycles.proofs.unions.leading.Goals.{else-twin-start-via-then-twin-start+else-contains, else-twin-start-via-else-twin-start}

pub loop-left-preserved-then-contains : goal.loop-left-preserved-then-contains
loop-left-preserved-then-contains c =
    let place = c.args.start + c.lowest-place.result in
    let twin = get_or c.args.twins.now place 0 in
    leading_dropped c.args.row.now c.args.twins.now c.args.start c.args.word c.loop-left.leading c.loop-left.left c.without_bit-left.result c.lowest-place.result c.loop-left.invariant c.lowest-place.ensures.set c.without_bit-left.ensures.bits
    c.without_bit-leading.result c.without_bit-leading.ensures.bits
    (ap (λ b. b || not (has_number c.args.row.now twin)) (ne_eqb twin place c.if-twin-start.true) ∙ ap not (sym c.contains.ensures ∙ c.if-contains.true))

pub loop-left-preserved : goal.loop-left-preserved
loop-left-preserved c =
    let place = c.args.start + c.lowest-place.result in
    let twin = get_or c.args.twins.now place 0 in
    let kept = leading_kept c.args.row.now c.args.twins.now c.args.start c.args.word c.loop-left.leading c.loop-left.left c.without_bit-left.result c.lowest-place.result c.loop-left.invariant c.lowest-place.ensures.set c.without_bit-left.ensures.bits in
    elim c.else-twin-start.branch [
      | else-twin-start-via-then-twin-start+else-contains w ↦ kept (or_right (twin == place) (not (has_number c.args.row.now twin)) (ap not (sym w.contains.ensures ∙ w.if-contains.false)))
      | else-twin-start-via-else-twin-start w ↦ kept (or_left (twin == place) (not (has_number c.args.row.now twin)) (eq-eqb twin place w.if-twin-start.false))
    ]
