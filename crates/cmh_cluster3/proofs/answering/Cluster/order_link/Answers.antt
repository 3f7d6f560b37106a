use Rattle.std.proofs.Common.{◌≡◌, ◌≢◌, arith, inl, inr, refl, rules}
use Rattle.std.proofs.lemmas.Bool.Decides.{nat_tests}
use Rattle.cmh_cluster3.proofs.Going.{all_same}
use Rattle.cmh_cluster3.proofs.answering.Cluster.order_link.Goals as goal

pub returns-in_default-clause-orders : goal.returns-in_default-clause-orders
returns-in_default-clause-orders g c = (all_same _ _ _ _ refl, inr (refl, inl c.in_default.ensures))

pub returns-in_default-place_in-clause-orders : goal.returns-in_default-place_in-clause-orders
returns-in_default-place_in-clause-orders g c = (all_same _ _ _ _ refl, inr (refl, inr (inl c.in_default-place_in.ensures)))

pub returns-then-eq-clause-orders : goal.returns-then-eq-clause-orders
returns-then-eq-clause-orders g c =
    let same : c.args.from ≡ c.args.to = first_of (search rules, grind (arith, nat_tests)) in
    (all_same _ _ _ _ refl, inr (refl, inr (inr same)))

pub returns-clause-orders : goal.returns-clause-orders
returns-clause-orders g c =
    let other : c.args.from ≢ c.args.to = first_of (search rules, grind (arith, nat_tests)) in
    (c.set_link.ensures.goes_on, inl (refl, other))
