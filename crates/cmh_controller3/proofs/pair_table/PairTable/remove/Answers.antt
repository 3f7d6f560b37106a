use Rattle.std.proofs.Common.{◌≡◌, ◌∙◌, ◌<◌, ◌&&◌, ◌==◌, ℕ, List, [], length, get_or, not, false, sym, ap, subst, arith}
use Rattle.std.proofs.Math.ListN.{set}
use Rattle.std.proofs.lemmas.List.{get_or_default}
use Rattle.cmh_model3.specs.Lists.{in_list, set_pair}
use Rattle.cmh_waits.proofs.ListLemmas.{in_less}
use Rattle.cmh_controller3.specs.Tables.{pairs_of}
use Rattle.cmh_controller3.proofs.Tables.{pairs_less}
use Rattle.cmh_controller3.proofs.pair_table.PairTable.remove.Goals as goal

pub returns-clause-pairs : goal.returns-clause-pairs
returns-clause-pairs c =
    let rows = c.self.inside.rows.items in
    let inside : c.args.first < length rows = subst (λ (r : List (List ℕ)). c.args.first < length r) (sym c.self.view_is) c.requires in
    let place : c.get.result ≡ c.args.first = c.get.ensures.value in
    let was : c.index_mut.result.now ≡ get_or rows c.args.first [] =
    c.index_mut.ensures.value ∙ get_or_default rows c.get.result c.index_mut.result.now [] (omega (arith, inside, place)) ∙ ap (λ n. get_or rows n []) place in
    ap (λ n. pairs_of (set rows n c.remove.new.self)) place
    ∙ pairs_less rows c.args.first c.remove.new.self inside c.args.second (λ b.
    ap (λ (xs : List ℕ). in_list xs b) c.remove.ensures ∙ in_less c.index_mut.result.now c.args.second b ∙ ap (λ (xs : List ℕ). not (b == c.args.second) && in_list xs b) was)
    ∙ ap (λ (r : List (List ℕ)). set_pair (pairs_of r) c.args.first c.args.second false) c.self.view_is
