-- A controller that has taken no step.
use Rattle.std.proofs.Common.{◌≡◌, ℕ, ◌<◌, ◌≤◌, Bool, true, false, ◌&&◌, List, [], ◌∷◌, length, get_or, ◌==◌, if◌then◌else◌, refl, sym, ap, ◌∙◌, subst, inl, inr}
use Rattle.std.specs.Prelude.{replicate}
use Rattle.std.proofs.Math.Path.{fun_ext}
use Rattle.std.proofs.lemmas.Bool.{cases_lt, eq-eqb, true≢false}
use Rattle.std.proofs.lemmas.List.{get_or-replicate, get_or_past, length-replicate}
use Rattle.cmh_model3.specs.Lists.{in_list}
use Rattle.cmh_model3.specs.State.{empty_state}
use Rattle.cmh_model3.specs.Laws.{JournalFacts}
use Rattle.cmh_model3.proofs.Facts.{lawful_states}
use Rattle.cmh_waits3.specs.Held.{Held, is_member, nothing_held, row_in, since_of, waits_of}
use Rattle.cmh_waits3.specs.Rows.{since_in, targets_of}
use Rattle.cmh_waits3.specs.declared.wait.Wait.{Wait}
use Rattle.cmh_controller3.specs.Controller.{Kept, owed_of, state_kept}
use Rattle.cmh_controller3.specs.Inner.Kept.{HasRoom, IsKept}
use Rattle.cmh_controller3.specs.Tables.{flags_of, marks_of, pairs_of, stamps_of}
use Rattle.cmh_controller3.proofs.After.{kept_is}

-- all rows of a list are the same
pub all_same : {X : Type 0} (n i : ℕ) (a : X) → get_or (replicate n a) i a ≡ a
all_same n i a = elim (cases_lt i n) [
  | inl below ↦ get_or-replicate n i a a below
  | inr past ↦ get_or_past (replicate n a) i a (subst (λ m. m ≤ i) (sym (length-replicate n a)) past)
]

row_none : (ms : List ℕ) (p : ℕ) → row_in ms (replicate (length ms) []) p ≡ []
row_none [] p = refl
row_none (m ∷ ms) p = either (m == p) (row_in ms (replicate (length ms) []) p) (row_none ms p)
  where
    either : (z : Bool) (row : List Wait) → row ≡ [] → (if z then [] else row) ≡ []
    either true row none = refl
    either false row none = none

module _ (home : ℕ → ℕ) (s : ℕ) (ms : List ℕ) (kept : Kept) (room : ℕ) (waits : kept.waits ≡ nothing_held ms)
    (leaving : pairs_of kept.leaving ≡ (λ a b. false)) (owed : pairs_of kept.owed ≡ (λ a b. false)) (marks : marks_of kept.marks ≡ (λ k i. 0))
    (declared : kept.declared ≡ replicate room false) (stamps : kept.stamps ≡ replicate room 0) (clock : kept.clock ≡ 0) where
  none_waits : waits_of kept.waits ≡ (λ j. [])
  none_waits = ap waits_of waits ∙ fun_ext (λ p. ap targets_of (row_none ms p))

  none_since : since_of kept.waits ≡ (λ j k. 0)
  none_since = ap since_of waits ∙ fun_ext (λ p. fun_ext λ k. ap (λ (ws : List Wait). since_in ws k) (row_none ms p))

  none_owed : owed_of home s kept.waits kept.owed ≡ (λ k j. false)
  none_owed = fun_ext λ k. fun_ext λ j.
      ap (λ (f : ℕ → List ℕ). if home j == s then (home k == s) && in_list (f j) k else pairs_of kept.owed k j) none_waits
      ∙ ap (λ (f : ℕ → ℕ → Bool). if home j == s then (home k == s) && false else f k j) owed ∙ neither (home j == s) (home k == s)
    where
      neither : (x y : Bool) → (if x then y && false else false) ≡ false
      neither true true = refl
      neither true false = refl
      neither false y = refl

  pub is_empty : state_kept home s kept ≡ empty_state
  is_empty = kept_is home s kept empty_state none_waits none_since leaving none_owed marks
      (ap flags_of declared ∙ fun_ext (λ p. all_same room p false)) clock (ap stamps_of stamps ∙ fun_ext (λ p. all_same room p 0))

  pub kept_at_first : 0 < s → ((p : ℕ) → in_list ms p ≡ (home p == s)) → ((p : ℕ) → in_list ms p ≡ true → p < room) → length kept.leaving ≡ room → length kept.owed ≡ room → length kept.marks ≡ room
      → IsKept home s kept
  kept_at_first site here below leaving_length owed_length marks_length =
      let has_room : HasRoom home s room = λ p at. below p (here p ∙ eq-eqb (home p) s at) in
      record {
        site = site;
        facts = subst (JournalFacts home s) (sym is_empty) (lawful_states home s [] tt);
        members = λ p. sym (here p) ∙ ap (λ (w : Held). is_member w p) (sym waits);
        askers = λ k j h. absurd (true≢false (sym h ∙ ap (λ (f : ℕ → ℕ → Bool). f k j) owed));
        asked = λ p some. absurd (some (ap (λ (l : List ℕ). stamps_of l p) stamps ∙ all_same room p 0));
        leaving_room = subst (HasRoom home s) (sym leaving_length) has_room;
        owed_room = subst (HasRoom home s) (sym owed_length) has_room;
        marks_room = subst (HasRoom home s) (sym marks_length) has_room;
        declared_room = subst (HasRoom home s) (sym (ap length declared ∙ length-replicate room false)) has_room;
        stamps_room = subst (HasRoom home s) (sym (ap length stamps ∙ length-replicate room 0)) has_room;
      }
