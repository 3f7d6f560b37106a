use Rattle.std.proofs.Common.{◌≡◌, ◌-◌, ◌<◌, ◌||◌, ◌==◌, length, get_or, sym, ap, subst, ◌∙◌, rules}
use Rattle.cmh_bits.specs.Bits.{has_number}
use Rattle.cmh_frames.specs.Rows.{Row}
use Rattle.cmh_frames.proofs.Repeats.{named_twice, named_once, one_named}
use Rattle.cmh_frames.proofs.rows.names_twice.Goals as goal

pub returns-then-has_number : goal.returns-then-has_number
returns-then-has_number c =
    let rows = c.args.rows.now in
    let row : Row = (c.row.inside.site, c.row.inside.processes.items) in
    let row_is : row ≡ get_or rows (length rows - 1 - c.loop-later.later) row = subst (λ (r : Row). r ≡ get_or rows (length rows - 1 - c.loop-later.later) r) (sym c.row.view_is) c.index-rows-rows.is in
    let len : c.len.result ≡ length row.1 = search rules in
    let p = c.index-process.result.now in
    let p_is : p ≡ get_or row.1 (length row.1 - 1 - c.loop-behind.behind) p = c.index-process.ensures ∙ ap (λ n. get_or row.1 (n - 1 - c.loop-behind.behind) p) len in
    sym (named_twice rows c.loop-later.later row c.loop-behind.behind p c.loop-later-test.true row_is (search rules) p_is
    (sym (c.loop-behind.invariant.marked p) ∙ ap (has_number c.loop-behind.named) (sym c.from-number.ensures) ∙ sym c.has_number.ensures ∙ c.if-has_number.true))

pub loop-behind-preserved : goal.loop-behind-preserved
loop-behind-preserved c =
    let rows = c.args.rows.now in
    let row : Row = (c.row.inside.site, c.row.inside.processes.items) in
    let row_is : row ≡ get_or rows (length rows - 1 - c.loop-later.later) row = subst (λ (r : Row). r ≡ get_or rows (length rows - 1 - c.loop-later.later) r) (sym c.row.view_is) c.index-rows-rows.is in
    let len : c.len.result ≡ length row.1 = search rules in
    let p = c.index-process.result.now in
    let p_is : p ≡ get_or row.1 (length row.1 - 1 - c.loop-behind.behind) p = c.index-process.ensures ∙ ap (λ n. get_or row.1 (n - 1 - c.loop-behind.behind) p) len in
    let inside : c.loop-behind.behind < length row.1 = search rules in
    record {
      all = search rules;
      marked = one_named rows c.loop-later.later row c.loop-behind.behind p c.loop-later-test.true row_is inside p_is (has_number c.loop-behind.named) (has_number c.insert_number.new.words) c.loop-behind.invariant.marked (λ k. c.insert_number.ensures.numbers k ∙ ap (λ n. (k == n) || has_number c.loop-behind.named k) c.from-number.ensures);
      once = named_once rows c.loop-later.later row c.loop-behind.behind p c.loop-later-test.true row_is inside p_is (sym (c.loop-behind.invariant.marked p) ∙ ap (has_number c.loop-behind.named) (sym c.from-number.ensures) ∙ sym c.has_number.ensures ∙ c.if-has_number.false) c.loop-behind.invariant.once;
    }
