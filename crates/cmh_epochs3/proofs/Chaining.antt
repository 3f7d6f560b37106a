-- A chain of epochs is a run.
use Rattle.std.proofs.Common.{◌≡◌, ℕ, List, [], ◌∷◌, ◌++◌, sym, ap, ◌∙◌, subst, append_assoc, append-nil}
use Rattle.std.proofs.lemmas.List.{append_cancel_left}
use Rattle.cmh_runs.specs.declared.entry.Entry.{Entry}
use Rattle.cmh_runs.specs.declared.entry.WorldEvent.{WorldEvent}
use Rattle.cmh_runs.specs.Rules.{Rules}
use Rattle.cmh_runs.specs.Journals.{LawfulFrom, receipts_of, sendings_of, state_after}
use Rattle.cmh_runs.specs.Runs.{ComesFrom, IsBeginningOf, entries_of, receipts, sendings}
use Rattle.cmh_runs.proofs.Journals.{entries_of-append, receipts_of-append, sendings_of-append, state_after-append}
use Rattle.cmh_epochs3.specs.Worlds.{IsRunFrom, LeadsTo, World}
use Rattle.cmh_epochs3.specs.Chains.{Chain, Epoch, IsEpoch, joined}
use Rattle.cmh_model3.specs.Journals.{message_from, rules_of}
use Rattle.cmh_epochs3.specs.Laws.{ChainsAreRuns, ChainsFromFirstAreRuns, IsOneWorld, RunsBeginAtFirst, first_world}
use Rattle.cmh_epochs3.proofs.Fronts.{Fronts, Past, Within, front}

-- what is got past the base, after what was got before it
across : {Frame : Type 0} (re r q se s qn rest : List Frame) → re ++ qn ≡ q ++ se → r ++ rest ≡ qn ++ s
    → (re ++ r) ++ rest ≡ q ++ (se ++ s)
across re r q se s qn rest h g =
    append_assoc re r rest ∙ ap (λ l. re ++ l) g ∙ sym (append_assoc re qn s) ∙ ap (λ l. l ++ s) h ∙ append_assoc q se s

module _ {State Event Frame : Type 0} where
  lawful-append : (rules : Rules State Event Frame) (v : State) (xs ys : List (Entry Event Frame))
      → LawfulFrom rules v xs → LawfulFrom rules (state_after rules v xs) ys → LawfulFrom rules v (xs ++ ys)
  lawful-append rules v [] ys h g = g
  lawful-append rules v (x ∷ xs) ys h g = (h.0, h.1, lawful-append rules (rules.after v x.event x.declared) xs ys h.2 g)

module _ {State Event Frame : Type 0} (got : ℕ → Event → List Frame) (rules : ℕ → Rules State Event Frame) where
  receipts-join : (a b : ℕ) (xs ys : List (WorldEvent Event Frame))
      → receipts got a b (xs ++ ys) ≡ receipts got a b xs ++ receipts got a b ys
  receipts-join a b xs ys = ap (receipts_of got a) (entries_of-append b xs ys) ∙ receipts_of-append got a (entries_of b xs) (entries_of b ys)

  sendings-join : (a b : ℕ) (xs ys : List (WorldEvent Event Frame)) → sendings a b (xs ++ ys) ≡ sendings a b xs ++ sendings a b ys
  sendings-join a b xs ys = ap (sendings_of b) (entries_of-append a xs ys) ∙ sendings_of-append b (entries_of a xs) (entries_of a ys)

  pub join_two : (w m : World State Frame) (xs ys : List (WorldEvent Event Frame)) → IsEpoch got rules w xs m → IsRunFrom got rules m ys
      → IsRunFrom got rules w (xs ++ ys)
  join_two w m xs ys one two = record {
    lawful = λ s. subst (LawfulFrom (rules s) (w.state s)) (sym (entries_of-append s xs ys))
        (lawful-append (rules s) (w.state s) (entries_of s xs) (entries_of s ys) (one.run.lawful s)
        (subst (λ v. LawfulFrom (rules s) v (entries_of s ys)) (one.leads.states s) (two.lawful s)));
    in_order = λ so_far b x y. go so_far x y (front so_far xs ys b.0 b.1);
  }
    where
      go : (so_far : List (WorldEvent Event Frame)) (x y : ℕ) → Fronts so_far xs ys
          → IsBeginningOf (receipts got x y so_far) (w.under_way x y ++ sendings x y so_far)
      go so_far x y (Within rest h) = one.run.in_order so_far (rest, h) x y
      go so_far x y (Past more rest h g) =
          let t = two.in_order more (rest, g) x y in
          let all : (receipts got x y xs ++ receipts got x y more) ++ t.0 ≡ w.under_way x y ++ (sendings x y xs ++ sendings x y more) =
          across (receipts got x y xs) (receipts got x y more) (w.under_way x y) (sendings x y xs) (sendings x y more) (m.under_way x y) t.0
          (one.leads.under_way x y) t.1 in (
            t.0,
            ap (λ l. receipts got x y l ++ t.0) (sym h) ∙ ap (λ l. l ++ t.0) (receipts-join x y xs more) ∙ all
                ∙ ap (λ l. w.under_way x y ++ l) (sym (sendings-join x y xs more)) ∙ ap (λ l. w.under_way x y ++ sendings x y l) h,
          )

  lead_on : (w m n : World State Frame) (xs ys : List (WorldEvent Event Frame)) → LeadsTo got rules w xs m → LeadsTo got rules m ys n
      → LeadsTo got rules w (xs ++ ys) n
  lead_on w m n xs ys one two = record {
    states = λ s. two.states s ∙ ap (λ v. state_after (rules s) v (entries_of s ys)) (one.states s)
        ∙ sym (state_after-append (rules s) (w.state s) (entries_of s xs) (entries_of s ys))
        ∙ ap (state_after (rules s) (w.state s)) (sym (entries_of-append s xs ys));
    under_way = λ a b. ap (λ l. l ++ n.under_way a b) (receipts-join a b xs ys)
        ∙ across (receipts got a b xs) (receipts got a b ys) (w.under_way a b) (sendings a b xs) (sendings a b ys) (m.under_way a b)
        (n.under_way a b) (one.under_way a b) (two.under_way a b)
        ∙ ap (λ l. w.under_way a b ++ l) (sym (sendings-join a b xs ys));
  }

  nothing : (w n : World State Frame) → w ≡ n → IsEpoch got rules w [] n
  nothing w n h = record {
    run = record { lawful = λ s. tt; in_order = λ so_far b x y. none so_far b x y };
    leads = record {
      states = λ s. ap (λ (z : World State Frame). z.state s) (sym h);
      under_way = λ a b. ap (λ (z : World State Frame). z.under_way a b) (sym h) ∙ sym (append-nil (w.under_way a b));
    };
  }
    where
      none : (so_far : List (WorldEvent Event Frame)) → IsBeginningOf so_far [] → (x y : ℕ)
          → IsBeginningOf (receipts got x y so_far) (w.under_way x y ++ sendings x y so_far)
      none [] b x y = (w.under_way x y, sym (append-nil (w.under_way x y)))
      none (z ∷ zs) b x y = absurd (cc b.1)

  chained : (w n : World State Frame) (epochs : List (Epoch State Event Frame)) → Chain got rules w epochs n
      → IsEpoch got rules w (joined epochs) n
  chained w n [] h = nothing w n h
  chained w n (x ∷ xs) h =
      let more = chained x.next n xs h.1 in record {
        run = join_two w x.next x.events (joined xs) h.0 more.run;
        leads = lead_on w x.next n x.events (joined xs) h.0.leads more.leads;
      }

  same_world : (w b c : World State Frame) (j : ℕ → List (Entry Event Frame)) (one two : List (WorldEvent Event Frame))
      → ComesFrom j one → ComesFrom j two → LeadsTo got rules w one b → LeadsTo got rules w two c
      → ((s : ℕ) → b.state s ≡ c.state s) × ((x y : ℕ) → b.under_way x y ≡ c.under_way x y)
  same_world w b c j one two f g lb lc = (
    (λ s. lb.states s ∙ ap (state_after (rules s) (w.state s)) (f s ∙ sym (g s)) ∙ sym (lc.states s)),
    (λ x y. append_cancel_left (receipts_of got x (j y)) (b.under_way x y) (c.under_way x y)
        (ap (λ l. receipts_of got x l ++ b.under_way x y) (sym (f y)) ∙ lb.under_way x y
        ∙ ap (λ l. w.under_way x y ++ sendings_of y l) (f x ∙ sym (g x))
        ∙ sym (lc.under_way x y) ∙ ap (λ l. receipts_of got x l ++ c.under_way x y) (g y))),
  )

pub chain_proof : ChainsAreRuns
chain_proof home world next epochs h =
    let all = chained message_from (rules_of home) world next epochs h in (all.run, all.leads)

pub first_proof : RunsBeginAtFirst
first_proof home events = record {
  from_first = λ run. record { lawful = run.lawful; in_order = run.in_order };
  is_run = λ run. record { lawful = run.lawful; in_order = run.in_order };
}

pub from_first_proof : ChainsFromFirstAreRuns
from_first_proof home next epochs h =
    (first_proof home (joined epochs)).is_run (chain_proof home (first_world home) next epochs h).0

pub one_proof : IsOneWorld
one_proof home world one two journals first second f g lb lc =
    let same = same_world message_from (rules_of home) world one two journals first second f g lb lc in
    record { states = same.0; under_way = same.1 }
