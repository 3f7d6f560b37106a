-- Whom a controller keeps as declared.
use Rattle.std.proofs.Common.{◌≡◌, ◌⊎◌, ◌↔◌, ℕ, true, ◌||◌, List, [], ◌∷◌, if◌then◌else◌, Option, None, Some, is_some, inl, inr, sym, ap, ◌∙◌, ◌==◌, refl, true≢false, nat_cmp}
use Rattle.std.specs.FinSet as set
use Rattle.std.specs.Cmp.{nat_cmp_total, unsigned_tied}
use Rattle.std.proofs.lemmas.Bool.{eq-eqb, or_left, or_right, cases_Bool, MatchBool-at_false}
use Rattle.cmh_frames.proofs.Choices.{if_same}
use Rattle.cmh_frames.specs.declared.frame.Frame.{Frame}
use Rattle.cmh_frames.specs.declared.frame.Frame.TheVariants.{Request, Reply as Reply_frame, Probe}
use Rattle.cmh_frames.specs.Topology.{Topology, is_at}
use Rattle.cmh_frames.specs.declared.event.Event.{Event}
use Rattle.cmh_frames.specs.declared.event.Event.TheVariants.{Ask, Reply, Start, Got}
use Rattle.cmh_frames.specs.Entries.{Entry}
use Rattle.cmh_frames.specs.Relation.{Numbers}
use Rattle.cmh_frames.specs.State.{State, empty_state}
use Rattle.cmh_frames.specs.Rules.{Sends, after, declared_after, probe_acts}
use Rattle.cmh_frames.specs.Journals.{LawfulFrom, state_after, IsLawful, value}
use Rattle.cmh_frames.specs.Declarations.{Declares}
use Rattle.cmh_frames.proofs.Declaring.{enters, stays}
use Rattle.cmh_frames.proofs.AfterEvents.{declared_means}

-- from a state on
declared_on : (t : Topology) (s : ℕ) (v : State) (journal : List Entry) (i : ℕ) → LawfulFrom t s v journal → (set.contains (state_after t s v journal).declared i ≡ true) ↔ ((set.contains v.declared i ≡ true) ⊎ Declares journal i)
declared_on t s v [] i lawful = (λ h. inl h, λ h. elim h [ inl old ↦ old | inr none ↦ absurd none ])
declared_on t s v (e ∷ es) i lawful =
    let more = declared_on t s (after t s v e.event e.declared) es i lawful.2 in (
      λ h. elim (more.0 h) [
        | inl after_it ↦ elim (declared_means t s v e.event e.declared i after_it) [ inl old ↦ inl old | inr now ↦ inr (inl now) ]
        | inr later ↦ inr (inr later)
      ],
      λ h. elim h [
        | inl old ↦ more.1 (inl (stays t s v e.event e.declared i old))
        | inr some ↦ elim some [
          | inl now ↦ more.1 (inl (enters t s v e.event e.sent e.declared i lawful.1 now))
          | inr later ↦ more.1 (inr later)
        ]
      ],
    )

-- at first nobody is declared
pub declared_by_entries : (t : Topology) (s : ℕ) (journal : List Entry) → IsLawful t s journal → (i : ℕ) → (set.contains (value t s journal).declared i ≡ true) ↔ Declares journal i
declared_by_entries t s journal lawful i =
    let both = declared_on t s empty_state journal i lawful in (
      λ h. elim (both.0 h) [
        | inl first ↦ absurd (true≢false (sym first ∙ set.contains-empty nat_cmp i))
        | inr some ↦ some
      ],
      λ some. both.1 (inr some),
    )
