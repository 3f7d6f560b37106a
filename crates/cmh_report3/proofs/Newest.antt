-- The newest declaration of a process.
use Rattle.std.proofs.Common.{◌≡◌, ◌≢◌, ◌⊎◌, ℕ, Bool, true, false, List, [], ◌∷◌, ◌++◌, ◌==◌, if◌then◌else◌, Option, None, Some, refl, sym, ap, ◌∙◌, inl, inr, true≢false}
use Rattle.std.specs.List.{AllByRecursion}
use Rattle.std.proofs.lemmas.Bool.{cases_Bool, cases_eq, eq-eqb, eqb-true, false_from_ne_true, ne_eqb}
use Rattle.cmh_model3.specs.declared.event.Event.{Event}
use Rattle.cmh_model3.specs.declared.event.Event.TheVariants.{Ask, Reply, Withdraw, Got, Turn}
use Rattle.cmh_model3.specs.declared.frame.Frame.TheVariants.{Request, Reply as Reply_frame, Withdraw as Withdraw_frame, Probe}
use Rattle.cmh_model3.specs.Entries.{Entry, WorldEvent}
use Rattle.cmh_model3.specs.Journals.{state_after}
use Rattle.cmh_model3.specs.Lists.{is_nonempty, set_at, set_pair, without, without_all}
use Rattle.cmh_model3.specs.Rules.{after, changed, clock_after, declared_after, probe_acts}
use Rattle.cmh_model3.specs.Runs.{IsDeclared, entries_of}
use Rattle.cmh_model3.specs.State.{State, empty_state, waits_for, with_waits}
use Rattle.cmh_model3.specs.Stops.{declared_at}
use Rattle.cmh_model3.proofs.Runs.{clocks_after, clocks_are}
use Rattle.cmh_report3.specs.Declarations.{is_process, newest_stop}
use Rattle.cmh_report3.specs.Laws.{DeclaresLast}

-- ---- an event declares nobody by itself

set_false : (f : ℕ → Bool) (j i : ℕ) → f i ≡ false → set_at f j false i ≡ false
set_false f j i h = elim (cases_Bool (i == j)) [
  | inl same ↦ ap (λ z. if z then false else f i) same
  | inr other ↦ ap (λ z. if z then false else f i) other ∙ h
]

set_fewer : (z : Bool) (f : ℕ → Bool) (p i : ℕ) → f i ≡ false → (if z then f else set_at f p false) i ≡ false
set_fewer true f p i h = h
set_fewer false f p i h = set_false f p i h

fewer : (v : State) (p : ℕ) (ks : List ℕ) (i : ℕ) → v.declared i ≡ false → (with_waits v p ks).declared i ≡ false
fewer v p ks i h = set_fewer (is_nonempty ks) v.declared p i h

either : (b : Bool) (x y : State) (i : ℕ) → x.declared i ≡ false → y.declared i ≡ false → (if b then x else y).declared i ≡ false
either true x y i h g = h
either false x y i h g = g

still : (home : ℕ → ℕ) (s : ℕ) (v : State) (i : ℕ) → v.declared i ≡ false → (event : Event) → (changed home s v event).declared i ≡ false
still home s v i none (Ask j ks) = set_false v.declared j i none
still home s v i none (Reply k j) =
    let answered : State = record v { owed = set_pair v.owed k j false } in
    either (home j == s) (with_waits answered j (without (v.waits j) k)) answered i (fewer answered j (without (v.waits j) k) i none) none
still home s v i none (Withdraw j ks) = set_fewer (is_nonempty (without_all (v.waits j) ks)) v.declared j i none
still home s v i none (Turn c) = none
still home s v i none (Got a c (Request j k)) = none
still home s v i none (Got a c (Reply_frame k j)) =
    either (waits_for v j k) (with_waits v j (without (v.waits j) k)) (record v { leaving = set_pair v.leaving j k false }) i
    (fewer v j (without (v.waits j) k) i none) none
still home s v i none (Got a c (Withdraw_frame j k)) = none
still home s v i none (Got a c (Probe origin n j k)) =
    either (probe_acts v origin n j k) (record v { marks = set_at v.marks k (set_at (v.marks k) origin n) }) v i none none

-- ---- who is in declared was declared by an entry

declared_on : (known : ℕ → Bool) (d : Option ℕ) (i : ℕ) → known i ≡ false → d ≢ Some i → declared_after known d i ≡ false
declared_on known None i h none = h
declared_on known (Some q) i h none = elim (cases_eq i q) [
  | inl same ↦ absurd (none (ap (λ p. Some p) (sym same)))
  | inr other ↦ ap (λ z. if z then true else known i) (ne_eqb i q other) ∙ h
]

abbrev AreSilent : ℕ → List Entry → Type 0
AreSilent i es = AllByRecursion (λ (e : Entry). e.declared ≢ Some i) es

abbrev IsSilent : ℕ → List WorldEvent → Type 0
IsSilent i es = AllByRecursion (λ (e : WorldEvent). e.entry.declared ≢ Some i) es

none_after : (home : ℕ → ℕ) (s : ℕ) (v : State) (i : ℕ) → v.declared i ≡ false → (es : List Entry) → AreSilent i es → (state_after home s v es).declared i ≡ false
none_after home s v i none [] all = none
none_after home s v i none (e ∷ es) all =
    none_after home s (after home s v e.event e.declared) i (declared_on (changed home s v e.event).declared e.declared i (still home s v i none e.event) all.0) es all.1

silent_at : (s i : ℕ) (es : List WorldEvent) → IsSilent i es → AreSilent i (entries_of s es)
silent_at s i [] all = tt
silent_at s i (e ∷ es) all = go (e.site == s) (silent_at s i es all.1)
  where
    go : (z : Bool) → AreSilent i (entries_of s es) → AreSilent i (if z then e.entry ∷ entries_of s es else entries_of s es)
    go true more = (all.0, more)
    go false more = more

-- ---- the last of the entries that declare a process

is_some : (o : Option ℕ) (i : ℕ) → is_process o i ≡ true → o ≡ Some i
is_some None i h = absurd (true≢false (sym h))
is_some (Some p) i h = ap (λ q. Some q) (eqb-true p i h)

not_some : (o : Option ℕ) (i : ℕ) → is_process o i ≡ false → o ≢ Some i
not_some o i h is = true≢false (sym (ap (λ q. is_process q i) is ∙ eq-eqb i i refl) ∙ h)

record LastOf (i : ℕ) (es : List WorldEvent) : Type 0 where
  before : List WorldEvent
  entry : WorldEvent
  behind : List WorldEvent
  are : es ≡ before ++ entry ∷ behind
  declares : entry.entry.declared ≡ Some i
  is_last : IsSilent i behind

last_of : (i : ℕ) (es : List WorldEvent) → IsSilent i es ⊎ LastOf i es
last_of i [] = inl tt
last_of i (e ∷ es) = elim (last_of i es) [
  | inr last ↦ inr (record {
    before = e ∷ last.before;
    entry = last.entry;
    behind = last.behind;
    are = ap (λ l. e ∷ l) last.are;
    declares = last.declares;
    is_last = last.is_last;
  })
  | inl silent ↦ elim (cases_Bool (is_process e.entry.declared i)) [
    | inl it ↦ inr (record { before = []; entry = e; behind = es; are = refl; declares = is_some e.entry.declared i it; is_last = silent })
    | inr other ↦ inl (not_some e.entry.declared i other, silent)
  ]
]

newest-append : (i n : ℕ) (clocks : ℕ → ℕ) (xs ys : List WorldEvent) → newest_stop i n clocks (xs ++ ys) ≡ newest_stop i (newest_stop i n clocks xs) (clocks_after clocks xs) ys
newest-append i n clocks [] ys = refl
newest-append i n clocks (x ∷ xs) ys =
    newest-append i (if is_process x.entry.declared i then declared_at (clocks x.site) x.entry.event else n) (set_at clocks x.site (clock_after (clocks x.site) x.entry.event)) xs ys

newest_silent : (i n : ℕ) (clocks : ℕ → ℕ) (es : List WorldEvent) → IsSilent i es → newest_stop i n clocks es ≡ n
newest_silent i n clocks [] all = refl
newest_silent i n clocks (e ∷ es) all =
    newest_silent i (if is_process e.entry.declared i then declared_at (clocks e.site) e.entry.event else n) (set_at clocks e.site (clock_after (clocks e.site) e.entry.event)) es all.1
    ∙ ap (λ z. if z then declared_at (clocks e.site) e.entry.event else n) (false_from_ne_true _ (λ h. all.0 (is_some e.entry.declared i h)))

pub newest_is_last : (home : ℕ → ℕ) (events : List WorldEvent) (i : ℕ) → IsDeclared home events i → DeclaresLast home events i (newest_stop i 0 (λ s. 0) events)
newest_is_last home events i declared = elim (last_of i events) [
  | inl silent ↦
      absurd (true≢false (sym declared ∙ none_after home (home i) empty_state i refl (entries_of (home i) events) (silent_at (home i) i events silent)))
  | inr last ↦
      let e : WorldEvent = last.entry in
      let clocks : ℕ → ℕ = clocks_after (λ s. 0) last.before in
      let next : ℕ → ℕ = set_at clocks e.site (clock_after (clocks e.site) e.entry.event) in
      record {
        before = last.before;
        entry = last.entry;
        behind = last.behind;
        events_are = last.are;
        declares = last.declares;
        is_last = last.is_last;
        stop_is =
            ap (newest_stop i 0 (λ s. 0)) last.are
            ∙ newest-append i 0 (λ s. 0) last.before (e ∷ last.behind)
            ∙ ap (λ z. newest_stop i (if z then declared_at (clocks e.site) e.entry.event else newest_stop i 0 (λ s. 0) last.before) next last.behind)
            (ap (λ q. is_process q i) last.declares ∙ eq-eqb i i refl)
            ∙ newest_silent i (declared_at (clocks e.site) e.entry.event) next last.behind last.is_last
            ∙ ap (λ c. declared_at c e.entry.event) (clocks_are home (λ s. 0) e.site empty_state last.before refl);
      }
]
