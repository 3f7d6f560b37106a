use Rattle.std.proofs.Common.{◌∙◌, ◌&&◌, not, ◌==◌, sym, ap, length, take, ◌<◌, arith}
use Rattle.std.proofs.lemmas.List.{get_or_default, length-set}
use Rattle.cmh_bits.specs.Bits.{is_set}
use Rattle.cmh_waits.specs.Rows.{bit_of, is_at_in}
use Rattle.cmh_waits.proofs.RowLemmas.{bit_of-without, next_member, next_other, one_less_owes}
use Rattle.cmh_waits.proofs.local_waits.owe_no_more.Goals as goal
use Rattle.cmh_waits.proofs.local_waits.owe_no_more.Goals.{in-Some, in_default}

pub loop-target-preserved : goal.loop-target-preserved
loop-target-preserved c =
    let ms = c.args.members.now in
    let targets = c.args.targets.now in
    let i = c.loop-target.target-index in
    let rows = c.loop-target.owed.items in
    let place = c.args.place in
    elim c.match-place_of.branch [
      | in-Some w ↦
          let at = w.in-Some.ensures in
          let p = w.in-Some.holder in
          let below : p < length rows = omega (arith, at.0, c.loop-target.invariant.len, c.requires.len) in
          let row = w.index.ensures ∙ get_or_default rows p w.index.result.now 0 below in
          record {
            len = ap (λ v. length v.items) w.owed-is ∙ length-set rows p w.without_bit.result ∙ c.loop-target.invariant.len;
            bits = λ a b.
                ap (λ v. bit_of v.items a b) w.owed-is
                ∙ bit_of-without rows p place w.without_bit.result below (λ k. w.without_bit.ensures.bits k ∙ ap (λ n. not (k == place) && is_set n k) row) a b
                ∙ ap (λ t. not ((a == p) && (b == place)) && t) (c.loop-target.invariant.bits a b)
                ∙ one_less_owes (a == p) (b == place) (is_at_in ms (take i targets) a) (bit_of c.args.owed.now.items a b)
                ∙ ap (λ t. not ((b == place) && t) && bit_of c.args.owed.now.items a b) (sym (next_member ms targets c.requires.ascending i p c.target-item.result a c.loop-target-test.true c.target-item.is at.0 at.1));
          }
      | in_default w ↦ record {
        len = ap (λ v. length v.items) w.owed-is ∙ c.loop-target.invariant.len;
        bits = λ a b.
            ap (λ v. bit_of v.items a b) w.owed-is ∙ c.loop-target.invariant.bits a b
            ∙ ap (λ t. not ((b == place) && t) && bit_of c.args.owed.now.items a b) (sym (next_other ms targets i c.target-item.result a c.loop-target-test.true c.target-item.is w.in_default.ensures));
      }
    ]
