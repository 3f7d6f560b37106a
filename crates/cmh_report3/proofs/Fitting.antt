-- The clocks of a run leave room for the ticks of its asks.
use Rattle.std.proofs.Common.{◌≡◌, ℕ, List, [], ◌∷◌, if◌then◌else◌, refl, sym, ap, subst, ◌∙◌, inl, inr}
use Rattle.std.proofs.Math.Path.{fun_ext}
use Rattle.std.proofs.lemmas.Bool.{cases_eq, eq-eqb, ne_eqb}
use Rattle.cmh_model3.specs.declared.event.Event.{Event}
use Rattle.cmh_model3.specs.declared.event.Event.TheVariants.{Ask, Reply, Withdraw, Got, Turn}
use Rattle.cmh_model3.specs.Entries.{WorldEvent}
use Rattle.cmh_model3.specs.Journals.{LawfulFrom}
use Rattle.cmh_model3.specs.Lists.{set_at}
use Rattle.cmh_model3.specs.Rules.{Accepts, after, clock_after}
use Rattle.cmh_model3.specs.Runs.{IsRun, entries_of}
use Rattle.cmh_model3.specs.State.{State, empty_state}
use Rattle.cmh_model3.proofs.Clocks.{clock_of-after}
use Rattle.cmh_report3.specs.Inner.ClockTables.{FitClocks, HasRoom}

has_room : (home : ℕ → ℕ) (s : ℕ) (v : State) (event : Event) → Accepts home s v event → HasRoom v.clock event
has_room home s v (Ask j ks) accepts = accepts.4
has_room home s v (Reply k j) accepts = tt
has_room home s v (Withdraw j ks) accepts = tt
has_room home s v (Got a c frame) accepts = tt
has_room home s v (Turn c) accepts = tt

module _ (home : ℕ → ℕ) where
  abbrev next : (ℕ → State) → WorldEvent → ℕ → State
  next vs e = set_at vs e.site (after home e.site (vs e.site) e.entry.event e.entry.declared)

  clocks_next : (vs : ℕ → State) (e : WorldEvent) (s : ℕ)
      → (next vs e s).clock ≡ set_at (λ q. (vs q).clock) e.site (clock_after (vs e.site).clock e.entry.event) s
  clocks_next vs e s = elim (cases_eq s e.site) [
    | inl same ↦
        ap (λ b. (if b then after home e.site (vs e.site) e.entry.event e.entry.declared else vs s).clock) (eq-eqb s e.site same)
        ∙ clock_of-after home e.site (vs e.site) e.entry.event e.entry.declared
        ∙ sym (ap (λ b. if b then clock_after (vs e.site).clock e.entry.event else (vs s).clock) (eq-eqb s e.site same))
    | inr other ↦
        ap (λ b. (if b then after home e.site (vs e.site) e.entry.event e.entry.declared else vs s).clock) (ne_eqb s e.site other)
        ∙ sym (ap (λ b. if b then clock_after (vs e.site).clock e.entry.event else (vs s).clock) (ne_eqb s e.site other))
  ]

  fits_from : (vs : ℕ → State) (events : List WorldEvent) → ((s : ℕ) → LawfulFrom home s (vs s) (entries_of s events)) → FitClocks (λ s. (vs s).clock) events
  fits_from vs [] lawful = tt
  fits_from vs (e ∷ es) lawful = (
    has_room home e.site (vs e.site) e.entry.event here.0,
    subst (λ cs. FitClocks cs es) (fun_ext (clocks_next vs e)) (fits_from (next vs e) es later),
  )
    where
      here : LawfulFrom home e.site (vs e.site) (e.entry ∷ entries_of e.site es)
      here = subst (LawfulFrom home e.site (vs e.site)) (ap (λ b. if b then e.entry ∷ entries_of e.site es else entries_of e.site es) (eq-eqb e.site e.site refl)) (lawful e.site)

      later : (s : ℕ) → LawfulFrom home s (next vs e s) (entries_of s es)
      later s = elim (cases_eq s e.site) [
        | inl same ↦
            subst (λ q. LawfulFrom home q (next vs e q) (entries_of q es)) (sym same)
            (subst (λ v. LawfulFrom home e.site v (entries_of e.site es))
            (sym (ap (λ b. if b then after home e.site (vs e.site) e.entry.event e.entry.declared else vs e.site) (eq-eqb e.site e.site refl))) here.2)
        | inr other ↦
            subst (λ v. LawfulFrom home s v (entries_of s es))
            (sym (ap (λ b. if b then after home e.site (vs e.site) e.entry.event e.entry.declared else vs s) (ne_eqb s e.site other)))
            (subst (LawfulFrom home s (vs s)) (ap (λ b. if b then e.entry ∷ entries_of s es else entries_of s es) (ne_eqb e.site s (λ eq. other (sym eq)))) (lawful s))
      ]

pub run_fits : (home : ℕ → ℕ) (events : List WorldEvent) → IsRun home events → FitClocks (λ s. 0) events
run_fits home events run = fits_from home (λ s. empty_state) events run.lawful
