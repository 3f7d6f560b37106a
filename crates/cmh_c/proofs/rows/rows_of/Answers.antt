use Rattle.std.proofs.Common.{◌≡◌, ◌++◌, List, get_or, length, sym, ap, ◌∙◌}
use Rattle.cmh_frames.specs.Rows.{Row}
use Rattle.cmh_c.specs.Opening.{words_of}
use Rattle.cmh_c.proofs.Files.{some_left}
use Rattle.cmh_c.proofs.Lists.{cut_after, no_row, two_words, words_on}
use Rattle.cmh_c.proofs.rows.rows_of.Goals as goal

pub loop-rest-preserved : goal.loop-rest-preserved
loop-rest-preserved c =
    let rest = c.loop-rest.rest.now in
    let ps = c.in_ok-to_vec.field-0.items in
    let after = c.split_at.result.1.now in
    let same : ps ≡ c.split_at.result.0.now = c.in_ok-to_vec.ensures.items_if_clones_equal (λ a b e. e) in
    ap (λ (rows : List Row). words_of rows ++ after) c.in_ok-push.ensures.items
    ∙ words_on c.loop-rest.rows.items (get_or rest 0 0) (get_or rest 1 0) ps after c.args.words.now rest c.loop-rest.invariant
    (two_words rest ps after c.from-count.result c.in-len2-up.len_at_least (same ∙ c.split_at.ensures.front) c.split_at.ensures.back)
    (sym (ap length same ∙ c.split_at.ensures.front_len ∙ c.from-count.ensures))

pub returns-then-after-count : goal.returns-then-after-count
returns-then-after-count c =
    cut_after c.loop-rest.rows.items c.loop-rest.rest.now c.args.words.now c.from-count.result c.loop-rest.invariant c.in-len2-up.len_at_least c.from-count.ensures c.if-after-count.true

pub returns-else-is_empty : goal.returns-else-is_empty
returns-else-is_empty c =
    no_row c.loop-rest.rows.items c.loop-rest.rest.now c.args.words.now c.loop-rest.invariant
    (some_left c.loop-rest.rest.now (sym c.is_empty.ensures ∙ c.if-is_empty.false)) c.in_default.len_below
