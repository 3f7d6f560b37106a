-- What a site sends is fit.
use Rattle.std.proofs.Common.{◌≡◌, ℕ, not, ◌&&◌, List, [], ◌∷◌, ◌++◌, sym, ap, ◌∙◌, subst}
use Rattle.std.specs.List.{AllByRecursion}
use Rattle.cmh_model3.specs.declared.frame.Message.{Message}
use Rattle.cmh_model3.specs.Lists.{in_list, is_before}
use Rattle.cmh_model3.specs.State.{counts, State}
use Rattle.cmh_model3.specs.Paths.{IsPath, IsLocalPath}
use Rattle.cmh_model3.proofs.Invariants.{IsSettled, FrameFits, OutcomesFit, DeclaredOnSettledCycle}
use Rattle.cmh_model3.proofs.Probes.{local_paths_settled, counts_since}
use Rattle.cmh_model3.proofs.Sent.{IsProbe, each_probe}

pub path_join : (W : ℕ → ℕ → Type 0) (i : ℕ) (xs : List ℕ) (p : ℕ) (ys : List ℕ) (j : ℕ) → IsPath W i xs p → IsPath W p ys j → IsPath W i (xs ++ ys) j
path_join W i [] p ys j h g = subst (λ z. IsPath W z ys j) (sym h) g
path_join W i (x ∷ xs) p ys j h g = (h.0, path_join W x xs p ys j h.1 g)

-- what counts depends on waits and their stamps alone
pub counts_same : (v u : State) (m i x y : ℕ) → v.waits ≡ u.waits → v.since ≡ u.since → counts v m i x y ≡ counts u m i x y
counts_same v u m i x y e f = ap (λ r. in_list (r x) y && not (is_before m i (v.since x y) x)) e ∙ ap (λ r. in_list (u.waits x) y && not (is_before m i (r x y) x)) f

pub path_same : (home : ℕ → ℕ) (s : ℕ) (v u : State) (m i p : ℕ) (xs : List ℕ) (q : ℕ) → v.waits ≡ u.waits → v.since ≡ u.since → IsLocalPath home s v m i p xs q → IsLocalPath home s u m i p xs q
path_same home s v u m i p [] q e f h = h
path_same home s v u m i p (x ∷ xs) q e f h = (sym (counts_same v u m i p x e f) ∙ h.0, h.1, path_same home s v u m i x xs q e f h.2)

pub outcomes_fit : OutcomesFit
outcomes_fit home n agree fit s v c i m p sent e f in_clock clock low at path h = go sent (each_probe home s v c i m p sent h).each
  where
    one : (x : ℕ × Message) → IsProbe home s v c i m p x → FrameFits home n s x.0 x.1.clock x.1.frame
    one x g =
        let local = local_paths_settled home n agree fit s m i p g.5.0 g.0 clock at (path_same home s v (n.value s) m i p g.5.0 g.0 e f g.5.1) in
        let edge = counts_since (n.value s) m i g.0 g.1 (sym (counts_same v (n.value s) m i g.0 g.1 e f) ∙ g.4) in
        subst (λ (z : Message). FrameFits home n s x.0 z.clock z.frame) (sym g.6)
        (sym g.2, g.3, in_clock, low, local.1, (path.0 ++ g.5.0, path_join (IsSettled home n m) i path.0 p g.5.0 g.0 path.1 local.0), edge.1, edge.0, clock)

    go : (xs : List (ℕ × Message)) → AllByRecursion (IsProbe home s v c i m p) xs → AllByRecursion (λ (x : ℕ × Message). FrameFits home n s x.0 x.1.clock x.1.frame) xs
    go [] g = tt
    go (x ∷ xs) g = (one x g.0, go xs g.1)

pub declared_on_settled_cycle : DeclaredOnSettledCycle
declared_on_settled_cycle home n agree fit s i m p clock at members path onward reach =
    let local = local_paths_settled home n agree fit s m i p onward i clock at reach in
    path_join (IsSettled home n m) i members p onward i path local.0
