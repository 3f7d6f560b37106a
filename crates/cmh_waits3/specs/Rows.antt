-- The waits of one process, as a list in which each target stands once, in ascending order.
use Rattle.std.specs.Prelude.{ℕ, ◌==◌, not, if◌then◌else◌, List, [], ◌∷◌, map, filter}
use Rattle.cmh_model3.specs.Lists.{in_list}
use Rattle.cmh_waits3.specs.declared.wait.Wait.{Wait}

-- those that are waited for
abbrev pub targets_of : List Wait → List ℕ
targets_of ws = map (λ (w : Wait). w.target) ws

-- the stamp of the wait for k, and 0 where there is none
abbrev pub since_in : List Wait → ℕ → ℕ
since_in [] k = 0
since_in (w ∷ ws) k = if w.target == k then w.since else since_in ws k

-- the waits for others than these
abbrev pub others_than : List ℕ → List Wait → List Wait
others_than ks ws = filter (λ (w : Wait). not (in_list ks w.target)) ws
