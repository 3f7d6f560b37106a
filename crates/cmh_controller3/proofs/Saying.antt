-- What a step sends and declares is what the rules say.
use Rattle.std.proofs.Common.{◌≡◌, ℕ, ◌+◌, max, Bool, true, false, not, ◌&&◌, List, [], ◌++◌, if◌then◌else◌, Option, None, Some, MatchBool, refl, sym, ap, ◌∙◌, subst, inl, inr}
use Rattle.std.proofs.lemmas.Bool.{eq-eqb}
use Rattle.std.proofs.lemmas.List.{append-nil}
use Rattle.cmh_model3.specs.declared.frame.Frame.TheVariants.{Probe}
use Rattle.cmh_model3.specs.declared.frame.Message.{Message}
use Rattle.cmh_model3.specs.declared.event.Event.TheVariants.{Ask, Got}
use Rattle.cmh_model3.specs.State.{State, passes}
use Rattle.cmh_model3.specs.Paths.{DependsOnItself, ReachesLocally}
use Rattle.cmh_model3.specs.Rules.{AreProbes, DeclaresOrProbes, Sends, changed, probe_acts, requests}
use Rattle.cmh_controller3.specs.Inner.Looks.{Sees}
use Rattle.cmh_controller3.specs.Steps.{process_in}
use Rattle.cmh_controller3.specs.declared.outcome.Declaration.{Declaration}

-- the declaration of a process, if it is declared
abbrev pub declaration_of : Bool → ℕ → ℕ → Option Declaration
declaration_of b i n = if b then Some (record { process = i; stop = n }) else None

pub process_of : (b : Bool) (i n : ℕ) → process_in (declaration_of b i n) ≡ (if b then Some i else None)
process_of true i n = refl
process_of false i n = refl

pub stop_is : (b : Bool) (i n m : ℕ) (o : Option Declaration) → o ≡ declaration_of b i n → n ≡ m → (d : Declaration) → o ≡ Some d → d.stop ≡ m
stop_is true i n m o is same d h = ap (λ (r : Declaration). r.stop) (same_some d (record { process = i; stop = n }) (sym h ∙ is)) ∙ same
  where
    same_some : (x y : Declaration) → Some x ≡ Some y → x ≡ y
    same_some x y e = cc
stop_is false i n m o is same d h = absurd (none_some d (sym is ∙ h))
  where
    none_some : (x : Declaration) → None ≡ Some x → ⊥
    none_some x e = cc

module _ (home : ℕ → ℕ) (s : ℕ) (v : State) where
  -- an ask that sees this
  pub ask_says : (j : ℕ) (ks : List ℕ) (first sent : List (ℕ × Message)) (deadlocked : Bool) → first ≡ requests home s (v.clock + 1) j ks
      → Sees home s (changed home s v (Ask j ks)) (DependsOnItself home s (changed home s v (Ask j ks)) (v.clock + 1) j) (v.clock + 1) j (v.clock + 1) j first deadlocked sent
      → Sends home s v (Ask j ks) sent (if deadlocked then Some j else None)
  ask_says j ks first sent true is sees =
      ([], sees.1 ∙ is ∙ sym (append-nil (requests home s (v.clock + 1) j ks)), inl (sees.0, refl, sym (ap (λ (z : Bool). if (if z then false else v.declared j) then None else Some j) (eq-eqb j j refl))))
  ask_says j ks first sent false is sees =
      (sees.1, sees.2 ∙ ap (λ ms. ms ++ sees.1) is, inr (sees.0, sees.3, refl))

  -- a probe that acts, and sees this
  pub probe_says : (a c i n j k : ℕ) (sent : List (ℕ × Message)) (deadlocked new : Bool) → probe_acts v i n j k ≡ true → new ≡ (deadlocked && not (v.declared i))
      → Sees home s v (ReachesLocally home s v n i k i × (passes v n i i ≡ true)) (max v.clock c) i n k [] deadlocked sent
      → Sends home s v (Got a c (Probe i n j k)) sent (if new then Some i else None)
  probe_says a c i n j k sent deadlocked new acts is sees =
      subst (λ z. MatchBool z (DeclaresOrProbes home (ReachesLocally home s v n i k i × (passes v n i i ≡ true)) s v (max v.clock c) i n k sent (if new then Some i else None))
      ((sent ≡ []) × ((if new then Some i else None) ≡ None))) (sym acts) (go deadlocked is sees)
    where
      newly_is : (b : Bool) → (if not b then Some i else None) ≡ (if b then None else Some i)
      newly_is true = refl
      newly_is false = refl

      go : (b : Bool) → new ≡ (b && not (v.declared i)) → Sees home s v (ReachesLocally home s v n i k i × (passes v n i i ≡ true)) (max v.clock c) i n k [] b sent
          → DeclaresOrProbes home (ReachesLocally home s v n i k i × (passes v n i i ≡ true)) s v (max v.clock c) i n k sent (if new then Some i else None)
      go true e sees = inl (sees.0, sees.1, ap (λ (z : Bool). if z then Some i else None) e ∙ newly_is (v.declared i))
      go false e sees = inr (sees.0, subst (λ ms. AreProbes home s v (max v.clock c) i n k ms) (sym sees.2) sees.3, ap (λ (z : Bool). if z then Some i else None) e)

  -- one that does not act
  pub ignored_says : (a c i n j k : ℕ) (sent : List (ℕ × Message)) (d : Option ℕ) → probe_acts v i n j k ≡ false → sent ≡ [] → d ≡ None → Sends home s v (Got a c (Probe i n j k)) sent d
  ignored_says a c i n j k sent d ignored none nobody =
      subst (λ z. MatchBool z (DeclaresOrProbes home (ReachesLocally home s v n i k i × (passes v n i i ≡ true)) s v (max v.clock c) i n k sent d) ((sent ≡ []) × (d ≡ None))) (sym ignored) (none, nobody)
