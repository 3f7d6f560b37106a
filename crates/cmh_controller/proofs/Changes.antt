-- A controller after each kind of event, from what its parts have become.
use Rattle.std.proofs.Common.{◌≡◌, ℕ, Bool, true, false, cond, if◌then◌else◌, not, ◌&&◌, ◌==◌, Option, refl, sym, ap, ◌∙◌, subst}
use Rattle.cmh_frames.specs.Topology.{Topology, is_at}
use Rattle.cmh_frames.specs.declared.event.Event.TheVariants.{Reply}
use Rattle.cmh_frames.specs.Relation.{Relation, Numbers, has_some, without_pair, only_firsts}
use Rattle.cmh_frames.specs.State.{State}
use Rattle.cmh_frames.specs.Rules.{after, with_fewer_waits}
use Rattle.cmh_waits.specs.Held.{Held, is_member, replied, got_reply, wakes}
use Rattle.cmh_controller.specs.Controller.{Controller, state_of, IsOfSite}
use Rattle.cmh_controller.proofs.Fewer.{keeps, forgets, remembers}

-- the dependents without those of a process that woke
abbrev pub forgotten : Bool → Relation → ℕ → Relation
forgotten woke dependents process = if woke then only_firsts dependents (λ p. not (p == process)) else dependents

forgotten_is : (deps waits : Relation) (a h : ℕ) (woke : Bool) → woke ≡ (has_some waits a && not (has_some (without_pair waits a h) a)) → forgotten woke deps a ≡ only_firsts deps (keeps waits a h)
forgotten_is deps waits a h true e = forgets deps waits a h (sym e)
forgotten_is deps waits a h false e = remembers deps waits a h (sym e)

never_wakes : (b : Bool) → (b && not b) ≡ false
never_wakes true = refl
never_wakes false = refl

state_like : (w w' o o' d d' : Relation) (known : Numbers) → w ≡ w' → o ≡ o' → d ≡ d' → ◌≡◌ {A = State} (record { waits = w; owed = o; dependents = d; declared = known }) (record { waits = w'; owed = o'; dependents = d'; declared = known })
state_like w w' o o' d d' known p q r = λ i. record { waits = p i; owed = q i; dependents = r i; declared = known }

pub after_got_reply : (t : Topology) (s : ℕ) (held left : Held) (deps deps' : Relation) (known : Numbers) (old : Controller) (asker holder : ℕ) (woke : Bool)
    → ◌≡◌ {A = Controller} (record { topology = t; site = s; state = state_of held deps known }) old
    → left ≡ got_reply held asker holder → woke ≡ wakes held left asker → deps' ≡ forgotten woke deps asker
    → ◌≡◌ {A = Controller} (record { topology = t; site = s; state = state_of left deps' known }) (record { topology = old.topology; site = old.site; state = with_fewer_waits old.state (without_pair old.state.waits asker holder) })
after_got_reply t s held left deps deps' known old asker holder woke view is woken d =
    let woken_there = woken ∙ ap (λ (h : Held). wakes held h asker) is in
    let same = state_like left.waits (without_pair held.waits asker holder) left.owed held.owed deps' (only_firsts deps (keeps held.waits asker holder)) known
    (ap (λ (h : Held). h.waits) is) (ap (λ (h : Held). h.owed) is) (d ∙ forgotten_is deps held.waits asker holder woke woken_there) in
    subst (λ (c : Controller). ◌≡◌ {A = Controller} (record { topology = t; site = s; state = state_of left deps' known }) (record { topology = c.topology; site = c.site; state = with_fewer_waits c.state (without_pair c.state.waits asker holder) })) view
    (λ i. record { topology = t; site = s; state = same i })

-- the state after a reply, by whether the asker is of the site
replied_state : (held left : Held) (deps deps' : Relation) (known : Numbers) (asker holder : ℕ) (woke here : Bool)
    → left ≡ replied held holder asker → woke ≡ wakes held left asker → deps' ≡ forgotten woke deps asker → is_member held asker ≡ here
    → state_of left deps' known ≡ (let answered : State = record { waits = held.waits; owed = without_pair held.owed holder asker; dependents = deps; declared = known } in
    if here then with_fewer_waits answered (without_pair held.waits asker holder) else answered)
replied_state held left deps deps' known asker holder woke true is woken d m =
    let waits = ap (λ (h : Held). h.waits) is ∙ ap (λ b. cond b (without_pair held.waits asker holder) held.waits) m in
    let woken_there = woken ∙ ap (λ r. has_some held.waits asker && not (has_some r asker)) waits in
    state_like left.waits (without_pair held.waits asker holder) left.owed (without_pair held.owed holder asker) deps' (only_firsts deps (keeps held.waits asker holder)) known
    waits (ap (λ (h : Held). h.owed) is) (d ∙ forgotten_is deps held.waits asker holder woke woken_there)
replied_state held left deps deps' known asker holder woke false is woken d m =
    let waits = ap (λ (h : Held). h.waits) is ∙ ap (λ b. cond b (without_pair held.waits asker holder) held.waits) m in
    let asleep : woke ≡ false = woken ∙ ap (λ r. has_some held.waits asker && not (has_some r asker)) waits ∙ never_wakes (has_some held.waits asker) in
    state_like left.waits held.waits left.owed (without_pair held.owed holder asker) deps' deps known
    waits (ap (λ (h : Held). h.owed) is) (d ∙ ap (λ b. forgotten b deps asker) asleep)

pub after_reply : (t : Topology) (s : ℕ) (held left : Held) (deps deps' : Relation) (known : Numbers) (old : Controller) (asker holder : ℕ) (woke : Bool) (declared : Option ℕ)
    → ◌≡◌ {A = Controller} (record { topology = t; site = s; state = state_of held deps known }) old
    → IsOfSite t s held → left ≡ replied held holder asker → woke ≡ wakes held left asker → deps' ≡ forgotten woke deps asker
    → ◌≡◌ {A = Controller} (record { topology = t; site = s; state = state_of left deps' known }) (record { topology = old.topology; site = old.site; state = after old.topology old.site old.state (Reply holder asker) declared })
after_reply t s held left deps deps' known old asker holder woke declared view site is woken d =
    let same = replied_state held left deps deps' known asker holder woke (is_at t asker s) is woken d (site.members asker) in
    subst (λ (c : Controller). ◌≡◌ {A = Controller} (record { topology = t; site = s; state = state_of left deps' known }) (record { topology = c.topology; site = c.site; state = after c.topology c.site c.state (Reply holder asker) declared })) view
    (λ i. record { topology = t; site = s; state = same i })
