-- Turns of waits, and what they come to at the end of a run.
use Rattle.std.proofs.Common.{◌≡◌, ℕ, zero, suc, ◌+◌, ◌<◌, ◌==◌, ◌&&◌, not, Bool, true, false, List, [], ◌∷◌, ◌++◌, length, take, get_or, sym, ap, refl, ◌∙◌, if◌then◌else◌, arith}
use Rattle.std.specs.List.{list_any, AllByRecursion}
use Rattle.std.proofs.lemmas.Bool.{ne_eqb}
use Rattle.std.proofs.lemmas.List.{take_more}
use Rattle.cmh_frames.proofs.Sent.{count_ascending}
use Rattle.cmh_frames.specs.Topology.{Topology}
use Rattle.cmh_frames.specs.declared.event.Event.{Event}
use Rattle.cmh_frames.specs.declared.event.Event.TheVariants.{Ask, Reply, Start, Got}
use Rattle.cmh_frames.specs.Entries.{Entry, WorldEvent}
use Rattle.cmh_frames.specs.State.{State, empty_state}
use Rattle.cmh_frames.specs.Rules.{Accepts, after}
use Rattle.cmh_frames.specs.Journals.{LawfulFrom}
use Rattle.cmh_frames.specs.Runs.{IsRun, ComesFrom, entries_of}
use Rattle.cmh_frames.specs.Waits.{asks_for, grants, wait_after}
use Rattle.cmh_frames.specs.Laws.{bit, count_of, AsksAndReplies}
use Rattle.cmh_journal.specs.Journal.{Journal}
use Rattle.cmh_audit.specs.Journals.{journal_of}
use Rattle.cmh_audit.specs.Inner.Places.{OneEach}
use Rattle.cmh_audit.specs.Sums.{in_entries, in_journals}
use Rattle.cmh_audit.specs.Inner.AllSums.{in_run}
use Rattle.cmh_audit.specs.Turns.{turned, turns_of, turns, is_open, Turns}
use Rattle.cmh_audit.specs.Inner.Turns.{one_at}
use Rattle.cmh_audit.proofs.Sums.{in_run-in_journals}

-- ---- turns

pub turned-plus : (m n : ℕ) (b : Bool) → turned (m + n) b ≡ turned n (turned m b)
turned-plus m zero b = ap (λ k. turned k b) (zero_right m)
  where
    zero_right : (m : ℕ) → m + zero ≡ m
    zero_right m = omega arith
turned-plus m (suc n) b = ap (λ k. turned k b) (suc_right m n) ∙ ap not (turned-plus m n b)
  where
    suc_right : (m n : ℕ) → m + suc n ≡ suc (m + n)
    suc_right m n = omega arith

-- two steps
pub turns_more : (a b c : List (List ℕ)) (f g h : ℕ → ℕ → ℕ) → Turns a b f → Turns b c g → ((j k : ℕ) → h j k ≡ f j k + g j k) → Turns a c h
turns_more a b c f g h p q e j k =
    q j k ∙ ap (turned (g j k)) (p j k) ∙ sym (turned-plus (f j k) (g j k) (is_open a j k)) ∙ ap (λ n. turned n (is_open a j k)) (sym (e j k))

-- ---- targets

count-append : (k : ℕ) (xs ys : List ℕ) → count_of (λ q. q == k) (xs ++ ys) ≡ count_of (λ q. q == k) xs + count_of (λ q. q == k) ys
count-append k [] ys = omega arith
count-append k (x ∷ xs) ys = let h = count-append k xs ys in omega (arith, h)

pub targets_more : (asker : ℕ) (xs : List ℕ) (i x : ℕ) → i < length xs → x ≡ get_or xs i x → (j k : ℕ) →
    (if asker == j then count_of (λ q. q == k) (take (i + 1) xs) else 0) ≡ (if asker == j then count_of (λ q. q == k) (take i xs) else 0) + one_at asker x j k
targets_more asker xs i x l here j k = go (asker == j) (x == k) refl
  where
    more : count_of (λ q. q == k) (take (i + 1) xs) ≡ count_of (λ q. q == k) (take i xs) + count_of (λ q. q == k) (x ∷ [])
    more = ap (count_of (λ q. q == k)) (take_more xs i x l ∙ ap (λ y. take i xs ++ y ∷ []) (sym here)) ∙ count-append k (take i xs) (x ∷ [])

    go : (s t : Bool) → (x == k) ≡ t → (if s then count_of (λ q. q == k) (take (i + 1) xs) else 0) ≡ (if s then count_of (λ q. q == k) (take i xs) else 0) + bit (t && s)
    go true true e = let m = more in let b = ap bit e in omega (arith, m, b)
    go true false e = let m = more in let b = ap bit e in omega (arith, m, b)
    go false true e = omega arith
    go false false e = omega arith

-- ---- what the events of a lawful journal turn

above_none : (x k : ℕ) (xs : List ℕ) → AllByRecursion (λ y. x < y) xs → x ≡ k → count_of (λ q. q == k) xs ≡ 0
above_none x k [] above e = refl
above_none x k (y ∷ ys) above e =
    let h = above_none x k ys above.1 e in
    let l = above.0 in
    let n : y ≡ k → ⊥ = omega (arith, l, e) in
    let b = ap bit (ne_eqb y k n) in
    omega (arith, h, b)

-- an ask or a reply of the two
abbrev pub speaks : ℕ → ℕ → Entry → ℕ
speaks j k e = bit (asks_for j k e.event) + bit (grants k j e.event)

turns_once : (t : Topology) (s : ℕ) (v : State) (j k : ℕ) (event : Event) → Accepts t s v event → turns_of j k event ≡ bit (asks_for j k event) + bit (grants k j event)
turns_once t s v j k (Ask asker targets) accepted = go (asker == j)
  where
    go : (t : Bool) → (if t then count_of (λ q. q == k) targets else 0) ≡ bit (t && list_any (λ q. q == k) targets) + bit false
    go true = let h = count_ascending k targets accepted.2.ascending in omega (arith, h)
    go false = omega arith
turns_once t s v j k (Reply holder asker) accepted = omega arith
turns_once t s v j k (Start i) accepted = omega arith
turns_once t s v j k (Got from frame) accepted = omega arith

turns_lawful : (t : Topology) (s : ℕ) (v : State) (j k : ℕ) (es : List Entry) → LawfulFrom t s v es → in_entries (turns j k) es ≡ in_entries (speaks j k) es
turns_lawful t s v j k [] lawful = refl
turns_lawful t s v j k (e ∷ es) lawful =
    let one = turns_once t s v j k e.event lawful.0 in
    let more = turns_lawful t s (after t s v e.event e.declared) j k es lawful.2 in
    omega (arith, one, more)

in_run-speaks : (j k : ℕ) (run : List WorldEvent) → in_run (speaks j k) run ≡ count_of (λ (e : WorldEvent). asks_for j k e.entry.event) run + count_of (λ (e : WorldEvent). grants k j e.entry.event) run
in_run-speaks j k [] = omega arith
in_run-speaks j k (e ∷ run) = let h = in_run-speaks j k run in omega (arith, h)

-- an even number of turns, and one more where there is a wait
even_turns : (n : ℕ) (b : Bool) → turned (n + n) b ≡ b
even_turns zero b = refl
even_turns (suc n) b = ap (λ k. turned k b) (twice n) ∙ twice_not (turned (n + n) b) ∙ even_turns n b
  where
    twice : (n : ℕ) → suc n + suc n ≡ suc (suc (n + n))
    twice n = omega arith

    twice_not : (b : Bool) → not (not b) ≡ b
    twice_not true = refl
    twice_not false = refl

turned-bit : (w : Bool) → turned (bit w) false ≡ w
turned-bit true = refl
turned-bit false = refl

-- the journals' turns tell who waits at the end of every run that they come from
pub waits_at_end : (t : Topology) (js : List Journal) (run : List WorldEvent) → OneEach js → IsRun t run → ComesFrom (journal_of js) run → AsksAndReplies run → (j k : ℕ) → turned (in_journals (turns j k) js) false ≡ wait_after false j k run
waits_at_end t js run one is_run come take_turns j k =
    let sum = in_run-in_journals (speaks j k) (turns j k) js run one come (λ site. turns_lawful t site empty_state j k (entries_of site run) (is_run.lawful site)) in
    let split = in_run-speaks j k run in
    let law = take_turns j k in
    let replies : ℕ = count_of (λ (e : WorldEvent). grants k j e.entry.event) run in
    let total : in_journals (turns j k) js ≡ (count_of (λ (e : WorldEvent). grants k j e.entry.event) run + count_of (λ (e : WorldEvent). grants k j e.entry.event) run) + bit (wait_after false j k run) = omega (arith, sum, split, law) in
    ap (λ n. turned n false) total
    ∙ turned-plus (count_of (λ (e : WorldEvent). grants k j e.entry.event) run + count_of (λ (e : WorldEvent). grants k j e.entry.event) run) (bit (wait_after false j k run)) false
    ∙ ap (turned (bit (wait_after false j k run))) (even_turns (count_of (λ (e : WorldEvent). grants k j e.entry.event) run) false)
    ∙ turned-bit (wait_after false j k run)
