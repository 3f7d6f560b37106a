-- Events of the site's own processes.
use Rattle.std.proofs.Common.{◌≡◌, false, true≢false, List, [], ◌∷◌, ◌++◌, refl}
use Rattle.std.specs.List.{AllByRecursion, list_any}
use Rattle.cmh_model3.specs.declared.event.Event.{Event}
use Rattle.cmh_model3.specs.declared.event.Event.TheVariants.{Ask, Reply, Withdraw, Got, Turn}
use Rattle.cmh_node3.specs.Steps.{IsOwn}
use Rattle.cmh_clients3.specs.Events.{is_got}

pub are_own : (events : List Event) → list_any is_got events ≡ false → AllByRecursion IsOwn events
are_own [] none = tt
are_own (Ask asker targets ∷ events) none = (tt, are_own events none)
are_own (Reply holder asker ∷ events) none = (tt, are_own events none)
are_own (Withdraw asker targets ∷ events) none = (tt, are_own events none)
are_own (Turn epoch ∷ events) none = (tt, are_own events none)
are_own (Got from clock frame ∷ events) none = absurd (true≢false none)

pub none_more : (events : List Event) (event : Event) → list_any is_got events ≡ false → is_got event ≡ false
    → list_any is_got (events ++ event ∷ []) ≡ false
none_more [] (Ask asker targets) none now = refl
none_more [] (Reply holder asker) none now = refl
none_more [] (Withdraw asker targets) none now = refl
none_more [] (Turn epoch) none now = refl
none_more [] (Got from clock frame) none now = absurd (true≢false now)
none_more (Ask asker targets ∷ events) event none now = none_more events event none now
none_more (Reply holder asker ∷ events) event none now = none_more events event none now
none_more (Withdraw asker targets ∷ events) event none now = none_more events event none now
none_more (Turn epoch ∷ events) event none now = none_more events event none now
none_more (Got from clock frame ∷ events) event none now = absurd (true≢false none)
