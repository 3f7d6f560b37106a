-- From the lists of a report to what it says of every run.
use Rattle.std.proofs.Common.{◌≡◌, ◌≢◌, ℕ, zero, suc, ◌+◌, ◌<◌, ◌≤◌, ◌↔◌, true, false, Bool, cond, ◌==◌, List, [], ◌∷◌, ◌++◌, length, take, drop, get_or, Option, None, Some, ⊎_elim, sym, ap, subst, refl, ◌∙◌, if◌then◌else◌, arith, length-append}
use Rattle.std.specs.Prelude.{Contains, MatchOption, option_map}
use Rattle.std.specs.List.{find, zip}
use Rattle.std.proofs.lemmas.Bool.{cases_eq, eq-eqb, ne_eqb}
use Rattle.std.specs.List.Sorted.{IsStrictlyIncreasing}
use Rattle.std.proofs.lemmas.List.{take_more}
use Rattle.std.proofs.lemmas.List.Kept.{AllPairs-from_increasing}
use Rattle.std.proofs.Math.Seq.{drop-append_seam}
use Rattle.cmh_frames.specs.Topology.{Topology, sites_of}
use Rattle.cmh_frames.specs.Entries.{WorldEvent}
use Rattle.cmh_frames.specs.Journals.{sendings_of, receipts_of}
use Rattle.cmh_frames.specs.Runs.{IsRun, ComesFrom, under_way, receipts}
use Rattle.cmh_frames.specs.Waits.{Waits, IsCycle, IsDeclared}
use Rattle.cmh_frames.proofs.Members.{increasing_tail}
use Rattle.cmh_frames.proofs.PathLemmas.{path_map}
use Rattle.cmh_frames.specs.Laws.{DarkPath, AsksAndReplies}
use Rattle.cmh_journal.specs.Journal.{Journal}
use Rattle.cmh_audit.specs.Declarations.{declares}
use Rattle.cmh_audit.specs.Journals.{journal_of}
use Rattle.cmh_audit.specs.Inner.Places.{OneEach}
use Rattle.cmh_world.specs.Links.{Links, waiting}
use Rattle.cmh_audit.specs.Sums.{in_journals}
use Rattle.cmh_audit.specs.Turns.{turned, turns}
use Rattle.cmh_cycles.specs.FoundCycles.{WaitsIn, IsCycleIn}
use Rattle.cmh_audit.specs.Inner.Reporting.{beside}
use Rattle.cmh_audit.specs.Inner.FoundCycles.{AreFirstCycles, AreFoundCycles, AreOnCycles, IsFoundCycle}
use Rattle.cmh_cycles.proofs.Members.{contains_rest}
use Rattle.cmh_audit.proofs.CountingLemmas.{in_transit, sum_over, sum_same}
use Rattle.cmh_audit.proofs.DeclarationLemmas.{declared_at_end}
use Rattle.cmh_audit.proofs.TurnLemmas.{waits_at_end}
use Rattle.cmh_cycles.specs.Cycles.{IsFirstCycleOf}

later : (i d : ℕ) (is : List ℕ) → Contains is i → Contains (d ∷ is) i
later i d is c = (suc c.0, let l = c.1 in omega (arith, l), c.2)

-- what is beside i in rows of which the first is at i, or not
abbrev beside_if : ℕ → List ℕ → List ℕ → List (List ℕ) → ℕ → Bool → Option (List ℕ)
beside_if d c ds cs i here =
    option_map (λ (row : ℕ × List ℕ). row.1) (cond here (Some (d, c)) (find (λ (row : ℕ × List ℕ). row.0 == i) (zip ds cs)))

pub beside_none : (ds : List ℕ) (cs : List (List ℕ)) (i : ℕ) → (Contains ds i → ⊥) → beside ds cs i ≡ None
beside_none [] cs i none = refl
beside_none (d ∷ ds) [] i none = refl
beside_none (d ∷ ds) (c ∷ cs) i none = ap (beside_if d c ds cs i) (ne_eqb d i (λ e. none (0, omega arith, e))) ∙ beside_none ds cs i (λ h. none (later i d ds h))

pub beside_here : (ds : List ℕ) (cs : List (List ℕ)) (i k : ℕ) (c : List ℕ) → IsStrictlyIncreasing ds → length cs ≡ length ds → k < length ds → get_or ds k 0 ≡ i → c ≡ get_or cs k c → beside ds cs i ≡ Some c
beside_here [] cs i k c up long l is there = absurd (omega arith)
beside_here (x ∷ ds) [] i k c up long l is there = absurd (omega arith)
beside_here (x ∷ ds) (y ∷ cs) i zero c up long l is there = ap (beside_if x y ds cs i) (eq-eqb x i is) ∙ ap (λ z. Some z) (sym there)
beside_here (x ∷ ds) (y ∷ cs) i (suc k) c up long l is there =
    let less : x < get_or ds k 0 = AllPairs-from_increasing (x ∷ ds) up 0 (suc k) 0 (omega arith) l in
    ap (beside_if x y ds cs i) (ne_eqb x i (λ e. absurd (omega (arith, less, e, is)))) ∙ beside_here ds cs i k c (increasing_tail x ds up) (omega arith) (omega arith) is there

-- ---- the cycles

found_push : (waits : List (ℕ × ℕ)) (is : List ℕ) (cs : List (List ℕ)) (i : ℕ) (c : List ℕ) → AreFoundCycles waits is cs → IsFoundCycle waits i c → AreFoundCycles waits (is ++ i ∷ []) (cs ++ c ∷ [])
found_push waits [] [] i c are found = (found, tt)
found_push waits [] (d ∷ cs) i c are found = absurd are
found_push waits (j ∷ is) [] i c are found = absurd are
found_push waits (j ∷ is) (d ∷ cs) i c are found = (are.0, found_push waits is cs i c are.1 found)

pub found_more : (waits : List (ℕ × ℕ)) (is : List ℕ) (cs : List (List ℕ)) (k i : ℕ) (c : List ℕ) → k < length is → i ≡ get_or is k i → AreFoundCycles waits (take k is) cs → IsFoundCycle waits i c → AreFoundCycles waits (take (k + 1) is) (cs ++ c ∷ [])
found_more waits is cs k i c l here are found =
    subst (λ js. AreFoundCycles waits js (cs ++ c ∷ [])) (sym (take_more is k i l ∙ ap (λ z. take k is ++ z ∷ []) (sym here))) (found_push waits (take k is) cs i c are found)

pub found-length : (waits : List (ℕ × ℕ)) (is : List ℕ) (cs : List (List ℕ)) → AreFoundCycles waits is cs → length cs ≡ length is
found-length waits [] [] are = refl
found-length waits [] (c ∷ cs) are = absurd are
found-length waits (i ∷ is) [] are = absurd are
found-length waits (i ∷ is) (c ∷ cs) are = ap suc (found-length waits is cs are.1)

-- where each process is on a cycle, what was found are cycles
pub firsts_found : (waits : List (ℕ × ℕ)) (is : List ℕ) (cs : List (List ℕ)) → AreFoundCycles waits is cs → AreOnCycles waits is → AreFirstCycles waits is cs
firsts_found waits [] [] are on = tt
firsts_found waits [] (c ∷ cs) are on = absurd are
firsts_found waits (i ∷ is) [] are on = absurd are
firsts_found waits (i ∷ is) (c ∷ cs) are on =
    let here = on i (0, omega arith, refl) in
    (are.0 here.0 here.1, firsts_found waits is cs are.1 (λ j h. on j (later j i is h)))

-- what is beside a process is its first cycle, and a process without one isn't in the list
pub beside_is : (waits : List (ℕ × ℕ)) (is : List ℕ) (cs : List (List ℕ)) (i : ℕ) → AreFirstCycles waits is cs → MatchOption (beside is cs i) (Contains is i → ⊥) (λ c. Contains is i × IsFirstCycleOf (λ j k. WaitsIn waits j k) i c)
beside_is waits [] cs i are = λ c. let l = c.1 in absurd (omega (arith, l))
beside_is waits (d ∷ is) [] i are = absurd are
beside_is waits (d ∷ is) (m ∷ cs) i are =
    let M : Option (List ℕ) → Type 0 = λ o. MatchOption o (Contains (d ∷ is) i → ⊥) (λ c. Contains (d ∷ is) i × IsFirstCycleOf (λ j k. WaitsIn waits j k) i c) in
    ⊎_elim
    (λ (e : d ≡ i). subst M (sym (ap (beside_if d m is cs i) (eq-eqb d i e))) ((0, omega arith, e), subst (λ x. IsFirstCycleOf (λ j k. WaitsIn waits j k) x m) e are.0))
    (λ (ne : d ≢ i). subst M (sym (ap (beside_if d m is cs i) (ne_eqb d i ne))) (wider (beside is cs i) ne (beside_is waits is cs i are.1)))
    (cases_eq d i)
  where
    wider : (o : Option (List ℕ)) → d ≢ i → MatchOption o (Contains is i → ⊥) (λ c. Contains is i × IsFirstCycleOf (λ j k. WaitsIn waits j k) i c) → MatchOption o (Contains (d ∷ is) i → ⊥) (λ c. Contains (d ∷ is) i × IsFirstCycleOf (λ j k. WaitsIn waits j k) i c)
    wider None ne h = λ c. h (contains_rest i d is ne c)
    wider (Some c) ne h = (later i d is h.0, h.1)

-- ---- the waits of the list are those at the end of the run

module _ (waits : List (ℕ × ℕ)) (run : List WorldEvent) (same : (j k : ℕ) → WaitsIn waits j k ↔ Waits run j k) where
  pub cycle_to : (i : ℕ) (members : List ℕ) → IsCycleIn waits i members → IsCycle run i members
  cycle_to i [] h = h
  cycle_to i (x ∷ []) h = h
  cycle_to i (x ∷ y ∷ others) h = (h.0, path_map (WaitsIn waits) (Waits run) (λ p q w. (same p q).0 w) x (y ∷ others) i h.1)

  pub cycle_from : (i : ℕ) (members : List ℕ) → IsCycle run i members → IsCycleIn waits i members
  cycle_from i [] h = h
  cycle_from i (x ∷ []) h = h
  cycle_from i (x ∷ y ∷ others) h = (h.0, path_map (Waits run) (WaitsIn waits) (λ p q w. (same p q).1 w) x (y ∷ others) i h.1)

  pub first_to : (i : ℕ) (members : List ℕ) → IsFirstCycleOf (λ j k. WaitsIn waits j k) i members → IsFirstCycleOf (Waits run) i members
  first_to i members h = record {
    cycle = cycle_to i members h.cycle;
    first = λ other c. h.first other (cycle_from i other c);
  }

  pub cycles_to : (o : Option (List ℕ)) (i : ℕ) (In : Type 0) → In ↔ IsDeclared run i → MatchOption o (In → ⊥) (λ c. In × IsFirstCycleOf (λ j k. WaitsIn waits j k) i c) → MatchOption o (IsDeclared run i → ⊥) (λ c. IsDeclared run i × IsFirstCycleOf (Waits run) i c)
  cycles_to None i In is h = λ d. h (is.1 d)
  cycles_to (Some c) i In is h = (is.0 h.0, first_to i c h.1)

-- ---- what the parts of a report come to, of every run from which the journals come

module _ (t : Topology) (js : List Journal) (run : List WorldEvent) (one : OneEach js) (is_run : IsRun t run) (come : ComesFrom (journal_of js) run) where
  pub waits_same : AsksAndReplies run → (waits : List (ℕ × ℕ)) → ((j k : ℕ) → Contains waits (j, k) ↔ (turned (in_journals (turns j k) js) false ≡ true)) → (j k : ℕ) → WaitsIn waits j k ↔ Waits run j k
  waits_same take_turns waits are j k =
      let end = waits_at_end t js run one is_run come take_turns j k in
      (λ c. sym end ∙ (are j k).0 c, λ w. (are j k).1 (end ∙ w))

  pub declared_same : (declared : List ℕ) → ((i : ℕ) → Contains declared i ↔ (0 < in_journals (declares i) js)) → (i : ℕ) → Contains declared i ↔ IsDeclared run i
  declared_same declared are i =
      let end = declared_at_end js run one come i in
      (λ c. end.0 ((are i).0 c), λ d. (are i).1 (end.1 d))

  -- by the dark path law each declared process is on a cycle
  pub on_cycles : DarkPath t run → (waits : List (ℕ × ℕ)) (declared : List ℕ) → ((j k : ℕ) → WaitsIn waits j k ↔ Waits run j k) → ((i : ℕ) → Contains declared i ↔ IsDeclared run i) → AreOnCycles waits declared
  on_cycles dark_path waits declared same are i c =
      let found = dark_path.declared i ((are i).0 c) in
      (found.0, cycle_from waits run same i found.0 found.1)

  -- what is left on the links is what is under way at the end
  pub under_way_left : (links : Links) → ((a b : ℕ) → receipts_of a (journal_of js b) ++ waiting links a b ≡ sendings_of b (journal_of js a)) → (a b : ℕ) → length (waiting links a b) ≡ length (under_way a b run)
  under_way_left links left a b =
      ap length (sym (drop-append_seam (receipts_of a (journal_of js b)) (waiting links a b)))
      ∙ ap (λ fs. length (drop (length (receipts_of a (journal_of js b))) fs)) (left a b)
      ∙ ap (λ es. length (drop (length (receipts_of a es)) (sendings_of b (journal_of js a)))) (sym (come b))
      ∙ ap (λ es. length (drop (length (receipts a b run)) (sendings_of b es))) (sym (come a))

  pub in_transit_is : (links : Links) → ((a b : ℕ) → receipts_of a (journal_of js b) ++ waiting links a b ≡ sendings_of b (journal_of js a)) →
      sum_over (λ a. sum_over (λ b. length (waiting links a b)) (sites_of t)) (sites_of t) ≡ in_transit t run
  in_transit_is links left =
      sum_same (λ a. sum_over (λ b. length (waiting links a b)) (sites_of t)) (λ a. sum_over (λ b. length (under_way a b run)) (sites_of t)) (sites_of t)
      (λ a. sum_same (λ b. length (waiting links a b)) (λ b. length (under_way a b run)) (sites_of t) (λ b. under_way_left links left a b))

-- what is left is within what was sent
pub left_within : (js : List Journal) (links : Links) → ((a b : ℕ) → receipts_of a (journal_of js b) ++ waiting links a b ≡ sendings_of b (journal_of js a)) → (a b : ℕ) → length (waiting links a b) ≤ length (sendings_of b (journal_of js a))
left_within js links left a b =
    let e = ap length (left a b) in let n = length-append (receipts_of a (journal_of js b)) (waiting links a b) in omega (arith, e, n)
