use Rattle.std.proofs.Common.{◌≡◌, ◌∙◌, ◌<◌, ◌==◌, ◌&&◌, not, ℕ, List, [], length, get_or, ap, arith}
use Rattle.std.proofs.Math.ListN.{set}
use Rattle.std.proofs.lemmas.List.{get_or_default}
use Rattle.cmh_model3.specs.Lists.{in_list}
use Rattle.cmh_waits.proofs.ListLemmas.{in_less}
use Rattle.cmh_report3.specs.Inner.Pairs.{has_pair}
use Rattle.cmh_report3.proofs.PairRows.{has_less}
use Rattle.cmh_report3.proofs.pairs.PairSet.remove.Goals as goal

pub returns-then-at-len : goal.returns-then-at-len
returns-then-at-len c = λ j k.
    let rows = c.self.inside.rows.items in
    let place : c.get-at.result ≡ c.args.first = c.get-at.ensures.value in
    let inside : c.args.first < length rows = (let test = c.if-at-len.true in let len = c.len.ensures in omega (arith, test, len, place)) in
    let was : c.index_mut.result.now ≡ get_or rows c.args.first [] =
    c.index_mut.ensures.value ∙ get_or_default rows c.get-at.result c.index_mut.result.now [] (omega (arith, inside, place)) ∙ ap (λ n. get_or rows n []) place in
    ap (λ n. has_pair (set rows n c.remove.new.self) j k) place
    ∙ has_less rows c.args.first c.remove.new.self inside c.args.second (λ b.
    ap (λ (xs : List ℕ). in_list xs b) c.remove.ensures ∙ in_less c.index_mut.result.now c.args.second b ∙ ap (λ (xs : List ℕ). not (b == c.args.second) && in_list xs b) was) j k
    ∙ ap (λ (r : List (List ℕ)). not ((c.args.first == j) && (c.args.second == k)) && has_pair r j k) c.self.view_is
