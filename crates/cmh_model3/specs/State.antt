-- What a controller keeps of the processes of its site.
use Rattle.std.specs.Prelude.{ℕ, Bool, false, not, ◌&&◌, List, [], if◌then◌else◌}
use Rattle.std.specs.List.{list_any}
use Rattle.cmh_model3.specs.Lists.{in_list, is_nonempty, is_before, set_at}

pub record State : Type 0 where
  pub waits : ℕ → List ℕ  -- those that a process waits for, ascending
  pub since : ℕ → ℕ → ℕ  -- of a wait, the stamp of the ask that began it, and else 0
  pub leaving : ℕ → ℕ → Bool  -- (j, k): j gave up its wait for k, and k's site has not answered yet
  pub owed : ℕ → ℕ → Bool  -- (k, j): k has the request of j, and has not answered it
  pub marks : ℕ → ℕ → ℕ  -- of (k, i): the greatest stamp of a probe of i that went on at k, and 0 if there was none
  pub declared : ℕ → Bool  -- the processes declared deadlocked here that have not asked since
  pub clock : ℕ  -- the greatest stamp that the site has heard of
  pub stamp : ℕ → ℕ  -- of a process, the stamp of its newest ask

-- the state in which every controller begins
abbrev pub empty_state : State
empty_state = record {
  waits = λ j. [];
  since = λ j k. 0;
  leaving = λ j k. false;
  owed = λ k j. false;
  marks = λ k i. 0;
  declared = λ i. false;
  clock = 0;
  stamp = λ j. 0;
}

-- a process is blocked where it waits for some process, and else active
abbrev pub is_blocked : State → ℕ → Bool
is_blocked v p = is_nonempty (v.waits p)

abbrev pub waits_for : State → ℕ → ℕ → Bool
waits_for v j k = in_list (v.waits j) k

-- The wait of j for k counts for the ask of i with stamp n: it is not younger than that ask. Of two asks with the same
-- stamp that of the greater process is the younger.
abbrev pub counts : State → ℕ → ℕ → ℕ → ℕ → Bool
counts v n i j k = waits_for v j k && not (is_before n i (v.since j k) j)

-- k passes the probes of that ask on: some wait of it counts
abbrev pub passes : State → ℕ → ℕ → ℕ → Bool
passes v n i k = list_any (λ q. not (is_before n i (v.since k q) k)) (v.waits k)

-- p has these waits left, each since when it was. Where it becomes active, its marks and its declaration are forgotten.
abbrev pub with_waits : State → ℕ → List ℕ → State
with_waits v p ks =
    record v {
      waits = set_at v.waits p ks;
      since = set_at v.since p (λ k. if in_list ks k then v.since p k else 0);
      marks = (if is_nonempty ks then v.marks else set_at v.marks p (λ i. 0));
      declared = (if is_nonempty ks then v.declared else set_at v.declared p false);
    }
