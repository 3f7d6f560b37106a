-- The ends of epochs that are judged each by itself, while they are taken one after the other.
use Rattle.std.proofs.Common.{◌≡◌, ℕ, ◌+◌, ◌<◌, Option, List, ◌∷◌, [], arith, drop, get_or, suc, length, refl, sym, ap, ◌∙◌, subst, map}
use Rattle.std.specs.Prelude.{Contains, Err, IfOk, MatchResult, Ok, Some, Vec, slice_get, take}
use Rattle.std.specs.List.{AllZip}
use Rattle.std.specs.declared.result.Result.{Result}
use Rattle.std.proofs.Math.Seq.{drop-cons}
use Rattle.cmh_topology3.specs.Topology.{Topology}
use Rattle.cmh_segment3.specs.declared.segment.Segment.{Segment}
use Rattle.cmh_history3.specs.Chains.{AreOneRun}
use Rattle.cmh_history3.specs.Inner.Ends.{AreEndsOf, EndsAs}
use Rattle.cmh_history3.specs.declared.chain.End.{End}
use Rattle.cmh_history3.proofs.Leading.{LeadsOn}

-- The epochs before this place are one run, and with what the one at this place goes on to they are another. Its end and those
-- of all that follow are left.
pub record AreJudged (t : Topology) (epochs more : List (List Segment)) (place : ℕ) (ends : List (Option End)) (left : ℕ) : Type 0 where
  pub first : List Segment
  pub split : epochs ≡ first ∷ more
  pub segments : List Segment
  pub there : slice_get epochs place ≡ Some segments
  pub before : AreOneRun t (take place epochs)
  pub leads : LeadsOn t first (take place more) segments
  pub judged : AreEndsOf t (segments ∷ drop place more) ends left

-- those of all epochs, before the first is taken
pub all_left : (t : Topology) (epochs : List (List Segment)) (first : List Segment) (more : List (List Segment))
    → {ends left_ends : List (Option End)} {left : ℕ}
    → epochs ≡ first ∷ more → left_ends ≡ ends → left ≡ length ends
    → AllZip (EndsAs t) epochs ends → AreEndsOf t (first ∷ more) left_ends left
all_left t epochs first more {ends} {left_ends} {left} split rest count zipped = record {
  each = subst (AllZip (EndsAs t) (first ∷ more)) (sym rest) (subst (λ l. AllZip (EndsAs t) l ends) split zipped);
  count = count ∙ ap length (sym rest);
}

-- those of the epochs from the next one on
pub next_left : (t : Topology) (next : List Segment) (more : List (List Segment)) (place : ℕ)
    → place < length more → next ≡ get_or more place next
    → {ends : List (Option End)} {left : ℕ}
    → AreEndsOf t (drop place more) ends left → AreEndsOf t (next ∷ drop (place + 1) more) ends left
next_left t next more place lt is {ends} {left} h =
    let further : suc place ≡ place + 1 = omega arith in
    let step = drop-cons more place next lt ∙ ap (λ k. get_or more place next ∷ drop k more) further ∙ ap (λ g. g ∷ drop (place + 1) more) (sym is) in
    record { each = subst (λ l. AllZip (EndsAs t) l ends) step h.each; count = h.count }

-- ---- judged in many threads

pub ends_found : (E : Type 0) (t : Topology) (epochs : List (List Segment)) (ends : List (Option End))
    → AllZip (λ segments (r : Result (Option End) E). IfOk r (EndsAs t segments)) epochs (map Ok ends)
    → AllZip (EndsAs t) epochs ends
ends_found E t [] [] h = tt
ends_found E t [] (end ∷ ends) h = absurd h
ends_found E t (g ∷ epochs) [] h = absurd h
ends_found E t (g ∷ epochs) (end ∷ ends) h = (h.0, ends_found E t epochs ends h.1)

-- what is made of the answers of all threads: each end, where each has answered one
pub all_found : (t : Topology) (epochs : List (List Segment)) {E Z : Type 0} (answers : List (Result (Option End) E))
    (all : Result (Vec (Option End) Z) E)
    → AllZip (λ segments answer. IfOk answer (EndsAs t segments)) epochs answers
    → MatchResult all (λ ends. (found : List (Option End)) × (answers ≡ map Ok found) × (ends.items ≡ found)) (λ e. Contains answers (Err e))
    → IfOk all (λ ends. AllZip (EndsAs t) epochs ends.items)
all_found t epochs answers (Ok ends) zipped (found, are, items) =
    subst (AllZip (EndsAs t) epochs) (sym items)
    (ends_found _ t epochs found (subst (AllZip (λ segments answer. IfOk answer (EndsAs t segments)) epochs) are zipped))
all_found t epochs answers (Err e) zipped h = tt
