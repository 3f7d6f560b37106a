-- The first entry of a walk.
use Rattle.std.proofs.Common.{◌≡◌, ◌≢◌, ℕ, ◌==◌, Bool, true, false, List, [], ◌∷◌, map, get_or, if◌then◌else◌, Some, refl, sym, ap, ◌∙◌, subst}
use Rattle.std.specs.Prelude.{MatchBool, slice_get}
use Rattle.std.proofs.lemmas.Bool.{eq-eqb, true≢false}
use Rattle.cmh_merge.specs.Walks.{GotFrom, IsNext}
use Rattle.cmh_merge.specs.declared.walk.Next.{Next}
use Rattle.cmh_merge.specs.declared.walk.Next.TheVariants.{End, Own, Got}
use Rattle.cmh_model3.specs.declared.event.Event.{Event}
use Rattle.cmh_model3.specs.declared.event.Event.TheVariants.{Ask, Reply, Withdraw, Turn}
use Rattle.cmh_model3.specs.declared.event.Event.TheVariants.{Got as Got_event}
use Rattle.cmh_model3.specs.declared.frame.Frame.{Frame}
use Rattle.cmh_model3.specs.declared.frame.Message.{Message}
use Rattle.cmh_model3.specs.Entries as model
use Rattle.cmh_model3.specs.Journals.{message_from}
use Rattle.cmh_segment3.specs.declared.entry.Entry.{Entry}
use Rattle.cmh_segment3.specs.Entries.{step_of}
use Rattle.cmh_audit3.specs.Inner.Walks.{Tells}

first_of : (xs : List Entry) (e : Entry) → Some e ≡ slice_get xs 0 → (rest : List Entry) × (xs ≡ e ∷ rest)
first_of [] e h = absurd (cc h)
first_of (x ∷ xs) e h = (xs, (let same : e ≡ x = cc h in ap (λ y. y ∷ xs) (sym same)))

-- what is told of the first entry
pub next_told : (xs : List Entry) (e : Entry) (n : Next) → Some e ≡ slice_get xs 0 → Tells e.event n → IsNext message_from (map step_of xs) n
next_told xs e End h told = absurd told
next_told xs e Own h told = let r = first_of xs e h in (step_of e, map step_of r.0, ap (map step_of) r.1, told)
next_told xs e (Got from) h told = let r = first_of xs e h in (step_of e, map step_of r.0, told.0, ap (map step_of) r.1, told.1)

-- whether the first entry got this message
pub got_told : (xs : List Entry) (e : Entry) (answer : Bool) (from : ℕ) (message : Message) → Some e ≡ slice_get xs 0
    → ((a : ℕ) (got : Message) → GotFrom message_from e.event a got → MatchBool answer (got ≡ message) (got ≢ message))
    → (x : model.Entry) (rest : List model.Entry) (got : Message) → map step_of xs ≡ x ∷ rest → GotFrom message_from x.event from got → MatchBool answer (got ≡ message) (got ≢ message)
got_told xs e answer from message h told x rest got is came =
    let r = first_of xs e h in
    let same : step_of e ≡ x = ap (λ l. get_or l 0 x) (sym (ap (map step_of) r.1) ∙ is) in
    told from got (subst (λ (y : model.Entry). GotFrom message_from y.event from got) (sym same) came)

-- ---- what an event got

one_got : (a from : ℕ) (m got : Message) → ((s : ℕ) → (if a == s then m ∷ [] else []) ≡ (if from == s then got ∷ [] else [])) → m ≡ got
one_got a from m got h = go (from == a) (sym (ap (λ z. if z then m ∷ [] else []) (eq-eqb a a refl)) ∙ h a)
  where
    go : (z : Bool) → m ∷ [] ≡ (if z then got ∷ [] else []) → m ≡ got
    go true e = ap (λ l. get_or l 0 m) e
    go false e = absurd (cc e)

none_came : (from : ℕ) (got : Message) → ((s : ℕ) → [] ≡ (if from == s then got ∷ [] else [])) → ⊥
none_came from got h = absurd (cc (h from ∙ ap (λ z. if z then got ∷ [] else []) (eq-eqb from from refl)))

-- what came from a site is this message
pub came_this : (answer : Bool) (a : ℕ) (m message : Message) → (answer ≡ true → message ≡ m) → (message ≡ m → answer ≡ true) → (from : ℕ) (got : Message) → ((s : ℕ) → (if a == s then m ∷ [] else []) ≡ (if from == s then got ∷ [] else []))
    → MatchBool answer (got ≡ message) (got ≢ message)
came_this true a m message yes' same from got h = sym (yes' refl ∙ one_got a from m got h)
came_this false a m message yes' same from got h = λ e. true≢false (sym (same (sym e ∙ sym (one_got a from m got h))))

-- and of another event none came
pub came_none : (event : Event) → ((a c : ℕ) (f : Frame) → event ≡ Got_event a c f → ⊥) → (from : ℕ) (got : Message) → GotFrom message_from event from got → ⊥
came_none (Ask j ks) n from got came = none_came from got came
came_none (Reply k j) n from got came = none_came from got came
came_none (Withdraw j ks) n from got came = none_came from got came
came_none (Turn c) n from got came = none_came from got came
came_none (Got_event a c f) n from got came = n a c f refl
