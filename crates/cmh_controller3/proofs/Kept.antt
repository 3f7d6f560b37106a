-- What every controller keeps holds after a step, too.
use Rattle.std.proofs.Common.{◌≡◌, ◌≢◌, ℕ, ◌+◌, Bool, true, false, ◌==◌, ◌&&◌, List, length, if◌then◌else◌, Option, refl, sym, ap, ◌∙◌, subst}
use Rattle.std.proofs.lemmas.Bool.{and_parts, eqb-true, true≢false}
use Rattle.cmh_model3.specs.declared.frame.Message.{Message}
use Rattle.cmh_model3.specs.declared.event.Event.{Event}
use Rattle.cmh_model3.specs.declared.event.Event.TheVariants.{Ask, Reply, Withdraw, Got, Turn}
use Rattle.cmh_model3.specs.declared.frame.Frame.TheVariants.{Request, Reply as Reply_frame, Withdraw as Withdraw_frame, Probe}
use Rattle.cmh_model3.specs.Lists.{in_list, set_at, set_pair, without}
use Rattle.cmh_model3.specs.Rules.{Accepts, Sends, after, changed, probe_acts}
use Rattle.cmh_model3.specs.State.{State, waits_for, with_waits}
use Rattle.cmh_model3.specs.Laws.{JournalFacts}
use Rattle.cmh_model3.proofs.Facts.{facts_after}
use Rattle.cmh_controller3.specs.Controller.{Kept, state_kept}
use Rattle.cmh_controller3.specs.Inner.Kept.{HasRoom, IsKept}
use Rattle.cmh_controller3.specs.Tables.{pairs_of}

-- of the same processes, and with as much room
pub record AsLarge (old new : Kept) : Type 0 where
  pub members : new.waits.members ≡ old.waits.members
  pub leaving : length new.leaving ≡ length old.leaving
  pub owed : length new.owed ≡ length old.owed
  pub marks : length new.marks ≡ length old.marks
  pub declared : length new.declared ≡ length old.declared
  pub stamps : length new.stamps ≡ length old.stamps

-- only processes of the site have asked: where the stamp of one of them is another, and after each event
pub asked_at : (home : ℕ → ℕ) (s : ℕ) (old new : ℕ → ℕ) (j n : ℕ) → home j ≡ s → new ≡ set_at old j n → ((p : ℕ) → old p ≢ 0 → home p ≡ s) → (p : ℕ) → new p ≢ 0 → home p ≡ s
asked_at home s old new j n here is asked p some = go (p == j) refl (λ none. some (ap (λ (f : ℕ → ℕ). f p) is ∙ none))
  where
    go : (z : Bool) → (p == j) ≡ z → (if z then n else old p) ≢ 0 → home p ≡ s
    go true e some = ap home (eqb-true p j e) ∙ here
    go false e some = asked p some

module _ (home : ℕ → ℕ) (s : ℕ) (v : State) (asked : (p : ℕ) → v.stamp p ≢ 0 → home p ≡ s) where
  asked_after : (event : Event) → Accepts home s v event → (p : ℕ) → (changed home s v event).stamp p ≢ 0 → home p ≡ s
  asked_after (Ask j ks) accepted p some = asked_at home s v.stamp (set_at v.stamp j (v.clock + 1)) j (v.clock + 1) accepted.0 refl asked p some
  asked_after (Reply k j) accepted p some = go (home j == s) some
    where
      go : (z : Bool) → (if z then with_waits (record v { owed = set_pair v.owed k j false }) j (without (v.waits j) k) else record v { owed = set_pair v.owed k j false }).stamp p ≢ 0 → home p ≡ s
      go true some = asked p some
      go false some = asked p some
  asked_after (Withdraw j ks) accepted p some = asked p some
  asked_after (Got a c (Request j k)) accepted p some = asked p some
  asked_after (Got a c (Reply_frame k j)) accepted p some = go (waits_for v j k) some
    where
      go : (z : Bool) → (if z then with_waits v j (without (v.waits j) k) else record v { leaving = set_pair v.leaving j k false }).stamp p ≢ 0 → home p ≡ s
      go true some = asked p some
      go false some = asked p some
  asked_after (Got a c (Withdraw_frame j k)) accepted p some = asked p some
  asked_after (Got a c (Probe i n j k)) accepted p some = go (probe_acts v i n j k) some
    where
      go : (z : Bool) → (if z then record v { marks = set_at v.marks k (set_at (v.marks k) i n) } else v).stamp p ≢ 0 → home p ≡ s
      go true some = asked p some
      go false some = asked p some
  asked_after (Turn c) accepted p some = asked p some

pub still_kept : (home : ℕ → ℕ) (s : ℕ) (old new : Kept) (event : Event) (sent : List (ℕ × Message)) (d : Option ℕ) → IsKept home s old
    → Accepts home s (state_kept home s old) event → Sends home s (state_kept home s old) event sent d → state_kept home s new ≡ after home s (state_kept home s old) event d
    → AsLarge old new → ((k j : ℕ) → pairs_of new.owed k j ≡ true → (home j ≢ 0) × (home j ≢ s)) → IsKept home s new
still_kept home s old new event sent d kept accepted sends is large askers = record {
  site = kept.site;
  facts = subst (JournalFacts home s) (sym is) (facts_after home s (state_kept home s old) event sent d kept.facts accepted sends);
  members = λ p. kept.members p ∙ ap (λ ms. in_list ms p) (sym large.members);
  askers = askers;
  asked = λ p some. asked_after home s (state_kept home s old) kept.asked event accepted p (λ none. some (ap (λ (w : State). w.stamp p) is ∙ none));
  leaving_room = subst (HasRoom home s) (sym large.leaving) kept.leaving_room;
  owed_room = subst (HasRoom home s) (sym large.owed) kept.owed_room;
  marks_room = subst (HasRoom home s) (sym large.marks) kept.marks_room;
  declared_room = subst (HasRoom home s) (sym large.declared) kept.declared_room;
  stamps_room = subst (HasRoom home s) (sym large.stamps) kept.stamps_room;
}

-- who is in the table of the owed is known and of another site: with one pair more, and with one less
module _ (home : ℕ → ℕ) (s : ℕ) (old new : List (List ℕ)) (k j : ℕ) (known : (x y : ℕ) → pairs_of old x y ≡ true → (home y ≢ 0) × (home y ≢ s)) where
  pub askers_more : home j ≢ 0 → home j ≢ s → pairs_of new ≡ set_pair (pairs_of old) k j true → (x y : ℕ) → pairs_of new x y ≡ true → (home y ≢ 0) × (home y ≢ s)
  askers_more here away is x y h = go ((x == k) && (y == j)) refl (sym (ap (λ (f : ℕ → ℕ → Bool). f x y) is) ∙ h)
    where
      go : (z : Bool) → ((x == k) && (y == j)) ≡ z → (if z then true else pairs_of old x y) ≡ true → (home y ≢ 0) × (home y ≢ s)
      go true e g =
          let same = ap home (sym (eqb-true y j (and_parts (x == k) (y == j) e).1)) in
          (λ none. here (same ∙ none), λ at. away (same ∙ at))
      go false e g = known x y g

  pub askers_less : pairs_of new ≡ set_pair (pairs_of old) k j false → (x y : ℕ) → pairs_of new x y ≡ true → (home y ≢ 0) × (home y ≢ s)
  askers_less is x y h = go ((x == k) && (y == j)) (sym (ap (λ (f : ℕ → ℕ → Bool). f x y) is) ∙ h)
    where
      go : (z : Bool) → (if z then false else pairs_of old x y) ≡ true → (home y ≢ 0) × (home y ≢ s)
      go true g = absurd (true≢false (sym g))
      go false g = known x y g
