-- The way back from an event that was prepared.
use Rattle.std.proofs.Common.{inl, inr, ◌≡◌, ℕ, Bool, true, false, true≢false, not, ◌&&◌, ◌||◌, ◌==◌, if◌then◌else◌, List, Option, None, nat_cmp, refl, sym, ap, ◌∙◌, subst}
use Rattle.std.specs.FinSet as set
use Rattle.std.specs.Ordering.{eq_by_cmp}
use Rattle.std.specs.Cmp.{nat_cmp_total, unsigned_tied}
use Rattle.std.specs.List.{list_any, filter}
use Rattle.std.proofs.lemmas.Bool.{and_parts, cases_Bool, eqb-true, not-true, or_cases}
use Rattle.cmh_frames.specs.declared.frame.Frame.TheVariants.{Request, Reply as Reply_frame, Probe}
use Rattle.cmh_frames.specs.Topology.{Topology, At, is_at}
use Rattle.cmh_frames.specs.declared.event.Event.{Event}
use Rattle.cmh_frames.specs.declared.event.Event.TheVariants.{Ask, Reply, Got}
use Rattle.cmh_frames.specs.Relation.{Relation, Numbers, has, has_some, only_firsts, with_each, with_pair, without_pair}
use Rattle.cmh_frames.specs.Rules.{declared_after, owed_after_ask, probe_acts}
use Rattle.cmh_frames.specs.State.{State, is_blocked}
use Rattle.cmh_frames.proofs.Pairs.{has-none, has-with, has-with_each, has-without, same_relation}
use Rattle.cmh_frames.proofs.Places.{is_at-no}
use Rattle.cmh_waits.specs.Held.{Held, asked, before_ask, got_request, owed_before_ask}
use Rattle.cmh_waits.specs.Rows.{is_in}
use Rattle.cmh_waits.proofs.ListLemmas.{in_less}
use Rattle.cmh_controller.specs.Controller.{Controller, IsOfSite, state_of}
use Rattle.cmh_controller.specs.Steps.{Prepares, Steps, CanTake, prepared_state, taken_back, undeclared, without_event}
use Rattle.cmh_controller.specs.declared.prepared.Prepared.{Prepared}
use Rattle.cmh_frames.specs.Rules.{after}

-- ---- declarations

-- a number that was not there before is put in and taken out
pub remove_insert : (known : Numbers) (p : ℕ) → set.contains known p ≡ false → set.remove (set.insert known p) p ≡ known
remove_insert known p new = set.same_set nat_cmp_total set.nat_cmp-IsAntisymmetric _ _ (λ q. set.contains-remove nat_cmp_total (set.insert known p) p q ∙ ap (λ b. not (eq_by_cmp nat_cmp q p) && b) (set.contains-insert nat_cmp_total known p q) ∙ same q)
  where
    same : (q : ℕ) → (not (eq_by_cmp nat_cmp q p) && (eq_by_cmp nat_cmp q p || set.contains known q)) ≡ set.contains known q
    same q = elim (cases_Bool (eq_by_cmp nat_cmp q p)) [
      | inl e ↦ ap (λ t. not t && (t || set.contains known q)) e ∙ sym (ap (set.contains known) (eqb-true q p (sym (unsigned_tied q p) ∙ e)) ∙ new)
      | inr e ↦ ap (λ t. not t && (t || set.contains known q)) e
    ]

-- a list without a number
pub from_list_removed : (xs : List ℕ) (p : ℕ) → set.from_list {R = nat_cmp} (filter (λ q. not (q == p)) xs) ≡ set.remove (set.from_list xs) p
from_list_removed xs p = set.same_set nat_cmp_total set.nat_cmp-IsAntisymmetric _ _ (λ q.
    set.contains-from_list_nat (filter (λ y. not (y == p)) xs) q ∙ in_less xs p q
    ∙ ap (λ t. not t && is_in xs q) (sym (unsigned_tied q p))
    ∙ sym (set.contains-remove nat_cmp_total (set.from_list xs) p q ∙ ap (λ b. not (eq_by_cmp nat_cmp q p) && b) (set.contains-from_list_nat xs q)))

-- ---- pairs

-- a pair that was not there before is put in and taken out
pub put_and_taken : (r : Relation) (a b : ℕ) → has r a b ≡ false → without_pair (with_pair r a b) a b ≡ r
put_and_taken r a b new = same_relation _ _ (λ x y. has-without (with_pair r a b) a b x y ∙ ap (λ h. not ((x == a) && (y == b)) && h) (has-with r a b x y) ∙ same x y)
  where
    same : (x y : ℕ) → (not ((x == a) && (y == b)) && (((x == a) && (y == b)) || has r x y)) ≡ has r x y
    same x y = elim (cases_Bool ((x == a) && (y == b))) [
      | inl e ↦
          let both = and_parts (x == a) (y == b) e in
          let none : has r x y ≡ false = subst (λ p. has r p y ≡ false) (sym (eqb-true x a both.0)) (subst (λ q. has r a q ≡ false) (sym (eqb-true y b both.1)) new) in
          ap (λ t. not t && (t || has r x y)) e ∙ sym none
      | inr e ↦ ap (λ t. not t && (t || has r x y)) e
    ]

-- one that was active waits for its targets alone
pub only_targets : (r : Relation) (asker : ℕ) (targets : List ℕ) (k : ℕ) → has_some r asker ≡ false → has (with_each r asker targets) asker k ≡ true → list_any (λ q. q == k) targets ≡ true
only_targets r asker targets k active waits = elim (or_cases (list_any (λ q. q == k) targets) (has r asker k) (sym (has-with_each r asker targets k) ∙ waits)) [
  | inl e ↦ e
  | inr e ↦ absurd (true≢false (sym e ∙ has-none r asker k active))
]

-- ---- states

same_state : (w w' o o' d d' : Relation) (known known' : Numbers) → w ≡ w' → o ≡ o' → d ≡ d' → known ≡ known' → ◌≡◌ {A = State} (record { waits = w; owed = o; dependents = d; declared = known }) (record { waits = w'; owed = o'; dependents = d'; declared = known' })
same_state w w' o o' d d' known known' p q r e = λ i. record { waits = p i; owed = q i; dependents = r i; declared = e i }

-- what was prepared leads back to the state of the controller
abbrev pub IsBack : Controller → Event → Bool → Option ℕ → Type 0
IsBack c e acted d = taken_back c.topology c.site (prepared_state c.topology c.site c.state e d) e acted d ≡ c.state

-- an ask
pub ask_stands : (t : Topology) (s : ℕ) (held left : Held) (deps : Relation) (known known' : Numbers) (old : Controller) (asker : ℕ) (targets : List ℕ) (d : Option ℕ)
    → ◌≡◌ {A = Controller} (record { topology = t; site = s; state = state_of held deps known }) old → IsOfSite t s held → left ≡ asked held asker targets → known' ≡ declared_after known d
    → ◌≡◌ {A = Controller} (record { topology = t; site = s; state = state_of left deps known' }) (record { topology = old.topology; site = old.site; state = after old.topology old.site old.state (Ask asker targets) d })
ask_stands t s held left deps known known' old asker targets d view site is declares =
    let same = same_state left.waits (with_each held.waits asker targets) left.owed (owed_after_ask (λ p. is_at t p s) held.owed asker targets) deps deps known' (declared_after known d)
    (ap (λ (h : Held). h.waits) is) (ap (λ (h : Held). h.owed) is ∙ (λ i. owed_after_ask (λ p. site.members p i) held.owed asker targets)) refl declares in
    subst (λ (c : Controller). ◌≡◌ {A = Controller} (record { topology = t; site = s; state = state_of left deps known' }) (record { topology = c.topology; site = c.site; state = after c.topology c.site c.state (Ask asker targets) d })) view
    (λ i. record { topology = t; site = s; state = same i })

pub ask_back : (t : Topology) (s : ℕ) (held : Held) (deps : Relation) (known : Numbers) (asker : ℕ) (targets : List ℕ) (declared : Option ℕ) → IsOfSite t s held
    → before_ask (asked held asker targets) asker targets ≡ held → undeclared (declared_after known declared) declared ≡ known
    → taken_back t s (prepared_state t s (state_of held deps known) (Ask asker targets) declared) (Ask asker targets) false declared ≡ state_of held deps known
ask_back t s held deps known asker targets declared site undone back = same_state _ _ _ _ _ _ _ _ (ap (λ (h : Held). h.waits) undone)
    (sym (λ i. owed_before_ask (λ p. site.members p i) (owed_after_ask (λ p. site.members p i) held.owed asker targets) asker targets) ∙ ap (λ (h : Held). h.owed) undone)
    refl back

-- a request that came
pub request_stands : (t : Topology) (s : ℕ) (held left : Held) (deps : Relation) (known : Numbers) (old : Controller) (sender asker holder : ℕ) (d : Option ℕ)
    → ◌≡◌ {A = Controller} (record { topology = t; site = s; state = state_of held deps known }) old → left ≡ got_request held holder asker
    → ◌≡◌ {A = Controller} (record { topology = t; site = s; state = state_of left deps known }) (record { topology = old.topology; site = old.site; state = after old.topology old.site old.state (Got sender (Request (asker, holder))) d })
request_stands t s held left deps known old sender asker holder d view is =
    ap (λ (h : Held). let stands : Controller = record { topology = t; site = s; state = state_of h deps known } in stands) is
    ∙ ap (λ (c : Controller). let moved : Controller = record { topology = c.topology; site = c.site; state = after c.topology c.site c.state (Got sender (Request (asker, holder))) d } in moved) view

pub request_back : (t : Topology) (s : ℕ) (v : State) (sender asker holder : ℕ) (acted : Bool) (d : Option ℕ) → has v.owed holder asker ≡ false → d ≡ None
    → taken_back t s (prepared_state t s v (Got sender (Request (asker, holder))) d) (Got sender (Request (asker, holder))) acted d ≡ v
request_back t s v sender asker holder acted d new none =
    same_state v.waits v.waits (without_pair (with_pair v.owed holder asker) holder asker) v.owed v.dependents v.dependents (undeclared v.declared d) v.declared
    refl (put_and_taken v.owed holder asker new) refl (ap (undeclared v.declared) none)

-- a probe that acted
pub probe_stands : (t : Topology) (s : ℕ) (held : Held) (deps deps' : Relation) (known known' : Numbers) (old : Controller) (a origin from to : ℕ) (d : Option ℕ)
    → ◌≡◌ {A = Controller} (record { topology = t; site = s; state = state_of held deps known }) old
    → probe_acts (state_of held deps known) origin from to ≡ true → deps' ≡ with_pair deps to origin → known' ≡ declared_after known d
    → ◌≡◌ {A = Controller} (record { topology = t; site = s; state = state_of held deps' known' }) (record { topology = old.topology; site = old.site; state = after old.topology old.site old.state (Got a (Probe (origin, from, to))) d })
probe_stands t s held deps deps' known known' old a origin from to d view act added declares =
    let v : State = state_of held deps known in
    let there : State = record v { dependents = with_pair deps to origin; declared = declared_after known d } in
    let same = same_state held.waits held.waits held.owed held.owed deps' (with_pair deps to origin) known' (declared_after known d) refl refl added declares
    ∙ sym (ap (λ (b : Bool). if b then there else v) act) in
    subst (λ (c : Controller). ◌≡◌ {A = Controller} (record { topology = t; site = s; state = state_of held deps' known' }) (record { topology = c.topology; site = c.site; state = after c.topology c.site c.state (Got a (Probe (origin, from, to))) d })) view
    (λ i. record { topology = t; site = s; state = same i })

pub probe_back : (t : Topology) (s : ℕ) (v : State) (a origin from to : ℕ) (d : Option ℕ) → probe_acts v origin from to ≡ true → undeclared (declared_after v.declared d) d ≡ v.declared
    → taken_back t s (prepared_state t s v (Got a (Probe (origin, from, to))) d) (Got a (Probe (origin, from, to))) true d ≡ v
probe_back t s v a origin from to d act back =
    let parts = and_parts (is_blocked v to) (not (has v.dependents to origin) && has v.owed to from) act in
    let new = not-true (has v.dependents to origin) (and_parts (not (has v.dependents to origin)) (has v.owed to from) parts.1).0 in
    let there : State = record v { dependents = with_pair v.dependents to origin; declared = declared_after v.declared d } in
    ap (λ (b : Bool). let w : State = if b then there else v in let left : State = record w { dependents = without_pair w.dependents to origin; declared = undeclared w.declared d } in left) act
    ∙ same_state v.waits v.waits v.owed v.owed (without_pair (with_pair v.dependents to origin) to origin) v.dependents (undeclared (declared_after v.declared d) d) v.declared
    refl refl (put_and_taken v.dependents to origin new) back

-- the state without an ask
pub without_ask : (t : Topology) (s : ℕ) (held left : Held) (deps : Relation) (known : Numbers) (old : Controller) (asker : ℕ) (targets : List ℕ)
    → ◌≡◌ {A = Controller} (record { topology = t; site = s; state = state_of held deps known }) old → IsOfSite t s held → left ≡ before_ask held asker targets
    → ◌≡◌ {A = Controller} (record { topology = t; site = s; state = state_of left deps known }) (record { topology = old.topology; site = old.site; state = without_event old.topology old.site old.state (Ask asker targets) false })
without_ask t s held left deps known old asker targets view site is =
    let same = same_state left.waits (only_firsts held.waits (λ p. not (p == asker))) left.owed (owed_before_ask (λ p. is_at t p s) held.owed asker targets) deps deps known known
    (ap (λ (h : Held). h.waits) is) (ap (λ (h : Held). h.owed) is ∙ (λ i. owed_before_ask (λ p. site.members p i) held.owed asker targets)) refl refl in
    subst (λ (c : Controller). ◌≡◌ {A = Controller} (record { topology = t; site = s; state = state_of left deps known }) (record { topology = c.topology; site = c.site; state = without_event c.topology c.site c.state (Ask asker targets) false })) view
    (λ i. record { topology = t; site = s; state = same i })

-- ---- what a prepared event left

pub ask_here : (old now : Controller) (e : Event) (prepared : Prepared) (asker : ℕ) (targets : List ℕ) → e ≡ Ask asker targets → Prepares old e prepared now → At now.topology asker now.site
ask_here old now e prepared asker targets is p =
    let q = subst (λ (f : Event). Prepares old f prepared now) is p in
    subst (λ (c : Controller). At c.topology asker c.site) (sym q.stands) q.accepted.0

pub ask_waits : (old now : Controller) (e : Event) (prepared : Prepared) (asker : ℕ) (targets ts : List ℕ) → e ≡ Ask asker targets → ts ≡ targets → Prepares old e prepared now
    → (k : ℕ) → has now.state.waits asker k ≡ true → list_any (λ q. q == k) ts ≡ true
ask_waits old now e prepared asker targets ts is same p k waits =
    let q = subst (λ (f : Event). Prepares old f prepared now) is p in
    subst (λ (xs : List ℕ). list_any (λ r. r == k) xs ≡ true) (sym same) (only_targets old.state.waits asker targets k q.accepted.1 (subst (λ (c : Controller). has c.state.waits asker k ≡ true) q.stands waits))

pub request_here : (old now : Controller) (e : Event) (prepared : Prepared) (sender asker holder : ℕ) → e ≡ Got sender (Request (asker, holder)) → Prepares old e prepared now → At now.topology holder now.site × (is_at now.topology asker now.site ≡ false)
request_here old now e prepared sender asker holder is p =
    let q = subst (λ (f : Event). Prepares old f prepared now) is p in
    subst (λ (c : Controller). At c.topology holder c.site × (is_at c.topology asker c.site ≡ false)) (sym q.stands)
    (q.accepted.2, is_at-no old.topology asker sender old.site q.accepted.1 q.accepted.0)

pub reply_can : (old now : Controller) (e : Event) (prepared : Prepared) (holder asker : ℕ) → e ≡ Reply holder asker → Prepares old e prepared now → CanTake now (Reply holder asker)
reply_can old now e prepared holder asker is p =
    let q = subst (λ (f : Event). Prepares old f prepared now) is p in
    subst (λ (c : Controller). CanTake c (Reply holder asker)) (sym q.stands) q.accepted

pub got_reply_can : (old now : Controller) (e : Event) (prepared : Prepared) (sender holder asker : ℕ) → e ≡ Got sender (Reply_frame (holder, asker)) → Prepares old e prepared now → CanTake now (Got sender (Reply_frame (holder, asker)))
got_reply_can old now e prepared sender holder asker is p =
    let q = subst (λ (f : Event). Prepares old f prepared now) is p in
    subst (λ (c : Controller). CanTake c (Got sender (Reply_frame (holder, asker)))) (sym q.stands) q.accepted

-- ---- carried out

-- where nothing was left to do
pub done : (old now : Controller) (e f : Event) (prepared : Prepared) → e ≡ f
    → ((c : Controller) (d : Option ℕ) → prepared_state c.topology c.site c.state f d ≡ after c.topology c.site c.state f d)
    → Prepares old e prepared now → Steps old e prepared.outcome.sent prepared.outcome.declared now
done old now e f prepared is same p = record {
  accepted = p.accepted;
  sends = p.sends;
  stands = p.stands ∙ ap (λ (v : State). let moved : Controller = record { topology = old.topology; site = old.site; state = v } in moved) (subst (λ (g : Event). prepared_state old.topology old.site old.state g prepared.outcome.declared ≡ after old.topology old.site old.state g prepared.outcome.declared) (sym is) (same old prepared.outcome.declared));
}

pub reply_done : (old now new : Controller) (e : Event) (prepared : Prepared) (holder asker : ℕ) → e ≡ Reply holder asker
    → new ≡ record { topology = now.topology; site = now.site; state = after now.topology now.site now.state (Reply holder asker) None }
    → Prepares old e prepared now → Steps old e prepared.outcome.sent prepared.outcome.declared new
reply_done old now new e prepared holder asker is there p =
    let q = subst (λ (f : Event). Prepares old f prepared now) is p in
    subst (λ (f : Event). Steps old f prepared.outcome.sent prepared.outcome.declared new) (sym is) (record {
      accepted = q.accepted;
      sends = q.sends;
      stands = there ∙ ap (λ (c : Controller). let moved : Controller = record { topology = c.topology; site = c.site; state = after c.topology c.site c.state (Reply holder asker) None } in moved) q.stands;
    })

pub got_reply_done : (old now new : Controller) (e : Event) (prepared : Prepared) (sender holder asker : ℕ) → e ≡ Got sender (Reply_frame (holder, asker))
    → new ≡ record { topology = now.topology; site = now.site; state = after now.topology now.site now.state (Got sender (Reply_frame (holder, asker))) None }
    → Prepares old e prepared now → Steps old e prepared.outcome.sent prepared.outcome.declared new
got_reply_done old now new e prepared sender holder asker is there p =
    let q = subst (λ (f : Event). Prepares old f prepared now) is p in
    subst (λ (f : Event). Steps old f prepared.outcome.sent prepared.outcome.declared new) (sym is) (record {
      accepted = q.accepted;
      sends = q.sends;
      stands = there ∙ ap (λ (c : Controller). let moved : Controller = record { topology = c.topology; site = c.site; state = after c.topology c.site c.state (Got sender (Reply_frame (holder, asker))) None } in moved) q.stands;
    })

-- ---- taken back

pub is_back : (old now new : Controller) (e : Event) (prepared : Prepared)
    → new ≡ record { topology = now.topology; site = now.site; state = taken_back now.topology now.site now.state e prepared.acted prepared.outcome.declared }
    → Prepares old e prepared now → new ≡ old
is_back old now new e prepared there p =
    there ∙ ap (λ (c : Controller). let moved : Controller = record { topology = c.topology; site = c.site; state = taken_back c.topology c.site c.state e prepared.acted prepared.outcome.declared } in moved) p.stands
    ∙ ap (λ (v : State). let moved : Controller = record { topology = old.topology; site = old.site; state = v } in moved) p.back
