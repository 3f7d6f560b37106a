-- What a controller keeps is what a look along its waits needs.
use Rattle.std.proofs.Common.{◌≡◌, ℕ, ◌+◌, true, ◌&&◌, List, ◌==◌, if◌then◌else◌, refl, sym, ap, ◌∙◌, inl, inr}
use Rattle.std.proofs.lemmas.Bool.{cases_eq, eq-eqb, ne_eqb, or_cases}
use Rattle.cmh_model3.specs.declared.event.Event.TheVariants.{Ask}
use Rattle.cmh_model3.specs.Lists.{in_list, set_at, with_each}
use Rattle.cmh_model3.specs.Rules.{changed}
use Rattle.cmh_model3.specs.State.{passes}
use Rattle.cmh_model3.proofs.Counts.{in_with}
use Rattle.cmh_model3.proofs.Marks.{passes_in}
use Rattle.cmh_waits3.specs.Held.{AreWaitsOf, Held, since_of, waits_of}
use Rattle.cmh_controller3.specs.Controller.{Controller, home_of, state_of}
use Rattle.cmh_controller3.specs.Inner.Kept.{IsKept}
use Rattle.cmh_controller3.specs.Inner.Looks.{AreOfSite}
use Rattle.cmh_controller3.specs.Steps.{CanTake}

module _ (c : Controller) (kept : IsKept (home_of c) c.site c.kept) where
  pub of_site : AreOfSite c.topology c.site c.kept.waits
  of_site = record { members = kept.members; known = λ j k h. (kept.facts.waits_home j k h).1 }

  pub are_waits : AreWaitsOf (home_of c) c.site (state_of c) c.kept.waits
  are_waits = record { members = kept.members; waits = refl; since = refl }

  -- with the waits that an ask begins
  pub of_site_begun : (j : ℕ) (ks : List ℕ) (waits : Held) → CanTake c (Ask j ks) → waits.members ≡ c.kept.waits.members
      → waits_of waits ≡ set_at (waits_of c.kept.waits) j (with_each (waits_of c.kept.waits j) ks) → AreOfSite c.topology c.site waits
  of_site_begun j ks waits accepted members set = record {
    members = λ p. kept.members p ∙ ap (λ ms. in_list ms p) (sym members);
    known = λ x y h. elim (cases_eq x j) [
      | inl e ↦ elim (or_cases (in_list (waits_of c.kept.waits j) y) (in_list ks y)
          (sym (ap (λ (f : ℕ → List ℕ). in_list (f x) y) set ∙ ap (λ z. in_list (if z then with_each (waits_of c.kept.waits j) ks else waits_of c.kept.waits x) y) (eq-eqb x j e) ∙ in_with (waits_of c.kept.waits j) ks y) ∙ h)) [
            | inl old ↦ (kept.facts.waits_home j y old).1
            | inr new ↦ (accepted.2.1 y new).3
          ]
      | inr n ↦ (kept.facts.waits_home x y (sym (ap (λ (f : ℕ → List ℕ). in_list (f x) y) set ∙ ap (λ z. in_list (if z then with_each (waits_of c.kept.waits j) ks else waits_of c.kept.waits x) y) (ne_eqb x j n)) ∙ h)).1
    ];
  }

  pub begun : (j : ℕ) (ks : List ℕ) (stamp : ℕ) (waits : Held) → stamp ≡ c.kept.clock + 1 → waits.members ≡ c.kept.waits.members
      → waits_of waits ≡ set_at (waits_of c.kept.waits) j (with_each (waits_of c.kept.waits j) ks)
      → since_of waits ≡ (λ x y. if (x == j) && in_list ks y then stamp else since_of c.kept.waits x y)
      → AreWaitsOf (home_of c) c.site (changed (home_of c) c.site (state_of c) (Ask j ks)) waits
  begun j ks stamp waits ticks members set since = record {
    members = λ p. kept.members p ∙ ap (λ ms. in_list ms p) (sym members);
    waits = sym set;
    since = sym (since ∙ ap (λ n. (λ x y. if (x == j) && in_list ks y then n else since_of c.kept.waits x y)) ticks);
  }

  -- an origin that passes its own probes is one of the site
  pub origin_here : (n i : ℕ) → passes (state_of c) n i i ≡ true → home_of c i ≡ c.site
  origin_here n i h = let r = passes_in (state_of c) n i i h in (kept.facts.waits_home i r.0 r.1).0
