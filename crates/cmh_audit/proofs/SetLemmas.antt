-- The tests of a set of journals, and what they test.
use Rattle.std.proofs.Common.{◌≡◌, ◌↔◌, ℕ, ◌==◌, ◌||◌, not, Bool, true, false, true≢false, if◌then◌else◌, List, [], ◌∷◌, map, Option, None, Some, sym, ap, refl, ◌∙◌}
use Rattle.std.specs.Prelude.{Contains, All}
use Rattle.std.specs.List.{list_any, AllByRecursion}
use Rattle.std.proofs.lemmas.Bool.{eq-eqb, ne_eqb, eqb-true, or_parts, or_from}
use Rattle.std.proofs.lemmas.List.Elements.{All-from_recursion, recursion_from_All}
use Rattle.cmh_frames.specs.declared.edition.Edition.{Edition}
use Rattle.cmh_frames.specs.Edition.{number_of}
use Rattle.cmh_frames.specs.Topology.{Topology, sites_of, is_site}
use Rattle.cmh_frames.proofs.Members.{found_at, found_from}
use Rattle.cmh_journal.specs.Journal.{Journal}
use Rattle.cmh_audit.specs.Journals.{NoneAt}
use Rattle.cmh_audit.specs.Inner.Places.{OneEach}
use Rattle.cmh_audit.specs.Set.{IsSet, fault_of, repeats_site}
use Rattle.cmh_audit.specs.Inner.Faults.{is_stranger, is_of_other_edition, lacks_site, has_journal}
use Rattle.cmh_journal.specs.declared.set_fault.SetFault.{SetFault}
use Rattle.cmh_journal.specs.declared.set_fault.SetFault.TheVariants.{UnknownSite, OtherEdition, RepeatedSite, MissingSite}
use Rattle.cmh_journal.proofs.Readings.{same_edition}

-- ---- tests of lists

not_false : (a : Bool) → not a ≡ false → a ≡ true
not_false true h = refl
not_false false h = absurd (true≢false h)

none_any : {X : Type 0} (p : X → Bool) (P : X → Type 0) (xs : List X) → ((x : X) → p x ≡ false → P x) → list_any p xs ≡ false → AllByRecursion P xs
none_any p P [] f h = tt
none_any p P (x ∷ xs) f h = let both = or_parts (p x) (list_any p xs) h in (f x both.0, none_any p P xs f both.1)

any_none : {X : Type 0} (p : X → Bool) (P : X → Type 0) (xs : List X) → ((x : X) → P x → p x ≡ false) → AllByRecursion P xs → list_any p xs ≡ false
any_none p P [] f h = refl
any_none p P (x ∷ xs) f h = or_from (p x) (list_any p xs) (f x h.0) (any_none p P xs f h.1)

-- ---- the four tests

pub known_iff : (t : Topology) (js : List Journal) → (list_any (is_stranger t) js ≡ false) ↔ All (λ (j : Journal). Contains (sites_of t) j.site) js
known_iff t js =
    let P : Journal → Type 0 = λ j. Contains (sites_of t) j.site in (
      λ h. All-from_recursion (λ (j : Journal). Contains (sites_of t) j.site) js (none_any (is_stranger t) (λ (j : Journal). Contains (sites_of t) j.site) js (λ j n. found_at (sites_of t) j.site (not_false (is_site t j.site) n)) h),
      λ all. any_none (is_stranger t) (λ (j : Journal). Contains (sites_of t) j.site) js (λ j c. ap not (found_from (sites_of t) j.site c)) (recursion_from_All (λ (j : Journal). Contains (sites_of t) j.site) js all),
    )

pub edition_iff : (e : Edition) (js : List Journal) → (list_any (is_of_other_edition e) js ≡ false) ↔ All (λ (j : Journal). j.edition ≡ e) js
edition_iff e js = (
  λ h. All-from_recursion (λ (j : Journal). j.edition ≡ e) js (none_any (is_of_other_edition e) (λ (j : Journal). j.edition ≡ e) js (λ j n. same_edition j.edition e (eqb-true (number_of j.edition) (number_of e) (not_false (number_of j.edition == number_of e) n))) h),
  λ all. any_none (is_of_other_edition e) (λ (j : Journal). j.edition ≡ e) js (λ j is. ap not (eq-eqb (number_of j.edition) (number_of e) (ap number_of is))) (recursion_from_All (λ (j : Journal). j.edition ≡ e) js all),
)

none_at : (s : ℕ) (js : List Journal) → has_journal js s ≡ false → NoneAt s js
none_at s [] h = tt
none_at s (j ∷ js) h = let both = or_parts (j.site == s) (has_journal js s) h in ((λ e. true≢false (sym (eq-eqb j.site s e) ∙ both.0)), none_at s js both.1)

at_none : (s : ℕ) (js : List Journal) → NoneAt s js → has_journal js s ≡ false
at_none s [] h = refl
at_none s (j ∷ js) h = or_from (j.site == s) (has_journal js s) (ne_eqb j.site s h.0) (at_none s js h.1)

pub once_iff : (js : List Journal) → (repeats_site js ≡ false) ↔ OneEach js
once_iff [] = (λ h. tt, λ h. refl)
once_iff (j ∷ js) =
    let more = once_iff js in (
      λ h. let both = or_parts (has_journal js j.site) (repeats_site js) h in (none_at j.site js both.0, more.0 both.1),
      λ one. or_from (has_journal js j.site) (repeats_site js) (at_none j.site js one.0) (more.1 one.1),
    )

has_in : (s : ℕ) (js : List Journal) → has_journal js s ≡ list_any (λ q. q == s) (map (λ (j : Journal). j.site) js)
has_in s [] = refl
has_in s (j ∷ js) = ap (λ t. (j.site == s) || t) (has_in s js)

pub present_iff : (sites : List ℕ) (js : List Journal) → (lacks_site sites js ≡ false) ↔ All (λ s. Contains (map (λ (j : Journal). j.site) js) s) sites
present_iff sites js = (
  λ h. All-from_recursion (λ s. Contains (map (λ (j : Journal). j.site) js) s) sites (none_any (λ s. not (has_journal js s)) (λ s. Contains (map (λ (j : Journal). j.site) js) s) sites
      (λ s n. found_at (map (λ (j : Journal). j.site) js) s (sym (has_in s js) ∙ not_false (has_journal js s) n)) h),
  λ all. any_none (λ s. not (has_journal js s)) (λ s. Contains (map (λ (j : Journal). j.site) js) s) sites
      (λ s c. ap not (has_in s js ∙ found_from (map (λ (j : Journal). j.site) js) s c)) (recursion_from_All (λ s. Contains (map (λ (j : Journal). j.site) js) s) sites all),
)

-- ---- the set

-- each journal is of a site of the topology and of its edition, and each site has just one
pub record SetParts (t : Topology) (journals : List Journal) : Type 0 where
  pub known : All (λ (j : Journal). Contains (sites_of t) j.site) journals
  pub edition : All (λ (j : Journal). j.edition ≡ t.edition) journals
  pub once : OneEach journals
  pub present : All (λ site. Contains (map (λ (j : Journal). j.site) journals) site) (sites_of t)

-- no test holds
pub record NoFault (t : Topology) (js : List Journal) : Type 0 where
  pub stranger : list_any (is_stranger t) js ≡ false
  pub edition : list_any (is_of_other_edition t.edition) js ≡ false
  pub twice : repeats_site js ≡ false
  pub lacking : lacks_site (sites_of t) js ≡ false

abbrev first_of_four : Bool → Bool → Bool → Bool → Option SetFault
first_of_four a b c d =
    if a then Some UnknownSite else (if b then Some OtherEdition else (if c then Some RepeatedSite else (if d then Some MissingSite else None)))

none_first : (a b c d : Bool) → first_of_four a b c d ≡ None → (a ≡ false) × (b ≡ false) × (c ≡ false) × (d ≡ false)
none_first true b c d h = absurd (cc)
none_first false true c d h = absurd (cc)
none_first false false true d h = absurd (cc)
none_first false false false true h = absurd (cc)
none_first false false false false h = (refl, refl, refl, refl)

none_at_all : (a b c d : Bool) → a ≡ false → b ≡ false → c ≡ false → d ≡ false → first_of_four a b c d ≡ None
none_at_all a b c d no_a no_b no_c no_d = rw no_a (rw no_b (rw no_c (rw no_d refl)))

pub no_fault : (t : Topology) (js : List Journal) → IsSet t js → NoFault t js
no_fault t js set =
    let all = none_first (list_any (is_stranger t) js) (list_any (is_of_other_edition t.edition) js) (repeats_site js) (lacks_site (sites_of t) js) set in
    record { stranger = all.0; edition = all.1; twice = all.2; lacking = all.3 }

pub without_fault : (t : Topology) (js : List Journal) → NoFault t js → IsSet t js
without_fault t js clear =
    none_at_all (list_any (is_stranger t) js) (list_any (is_of_other_edition t.edition) js) (repeats_site js) (lacks_site (sites_of t) js) clear.stranger clear.edition clear.twice clear.lacking

pub set_parts : (t : Topology) (js : List Journal) → IsSet t js → SetParts t js
set_parts t js set =
    let clear = no_fault t js set in
    record {
      known = (known_iff t js).0 clear.stranger;
      edition = (edition_iff t.edition js).0 clear.edition;
      once = (once_iff js).0 clear.twice;
      present = (present_iff (sites_of t) js).0 clear.lacking;
    }

pub set_from : (t : Topology) (js : List Journal) → SetParts t js → IsSet t js
set_from t js parts = without_fault t js (record {
  stranger = (known_iff t js).1 parts.known;
  edition = (edition_iff t.edition js).1 parts.edition;
  twice = (once_iff js).1 parts.once;
  lacking = (present_iff (sites_of t) js).1 parts.present;
})
