-- What a site holds is of its topology, at first and after each call.
use Rattle.std.proofs.Common.{inl, inr, ◌≡◌, ◌≢◌, ◌↔◌, ℕ, true, false, true≢false, not, ◌==◌, cond, List, [], ◌∷◌, IsSome, sym, ◌∙◌, subst}
use Rattle.std.specs.List.{AllByRecursion, list_any}
use Rattle.std.proofs.lemmas.Bool.{and_parts, cases_Bool, cases_eq, or_cases, eqb-true}
use Rattle.cmh_frames.proofs.Lawful.{without_old}
use Rattle.cmh_frames.proofs.Apart.{some_same}
use Rattle.cmh_frames.proofs.Choices.{same_bool}
use Rattle.cmh_frames.specs.Topology.{Topology, At, home, is_at}
use Rattle.cmh_frames.specs.Relation.{has, with_each, without_pair}
use Rattle.cmh_frames.specs.Rules.{AreTargets}
use Rattle.cmh_frames.proofs.Pairs.{has-empty, has-only, has-with_each, has-with_each_other}
use Rattle.cmh_frames.proofs.Places.{is_at-yes, at_from-is_at}
use Rattle.cmh_waits.specs.Held.{Held, IsMember, is_member, nothing_held, asked, before_ask, replied, got_reply}
use Rattle.cmh_controller.specs.Controller.{IsOfSite}

-- ---- members

pub member_here : (t : Topology) (s : ℕ) (held : Held) (p : ℕ) → IsOfSite t s held → At t p s → IsMember held p
member_here t s held p site here = site.members p ∙ is_at-yes t p s here

pub here_member : (t : Topology) (s : ℕ) (held : Held) (p : ℕ) → IsOfSite t s held → IsMember held p → At t p s
here_member t s held p site m = at_from-is_at t p s (sym (site.members p) ∙ m)

pub elsewhere : (t : Topology) (s a : ℕ) (held : Held) (p : ℕ) → IsOfSite t s held → At t p a → a ≢ s → is_member held p ≡ false
elsewhere t s a held p site there other = elim (cases_Bool (is_member held p)) [
  | inl e ↦ absurd (other (some_same (sym there ∙ here_member t s held p site e)))
  | inr e ↦ e
]

-- ---- the states of a site

pub empty_site : (t : Topology) (s : ℕ) (members : List ℕ) → ((p : ℕ) → (list_any (λ q. q == p) members ≡ true) ↔ At t p s) → IsOfSite t s (nothing_held members)
empty_site t s members at = record {
  members = λ p. same_bool (list_any (λ q. q == p) members) (is_at t p s) (λ m. is_at-yes t p s ((at p).0 m)) (λ h. (at p).1 (at_from-is_at t p s h));
  known = λ j k h. absurd (true≢false (sym h ∙ has-empty j k));
}

each_known : (t : Topology) (asker : ℕ) (ks : List ℕ) (k : ℕ) → AllByRecursion (λ q. IsSome (home t q) × (q ≢ asker)) ks → list_any (λ q. q == k) ks ≡ true → IsSome (home t k)
each_known t asker [] k all h = absurd (true≢false (sym h))
each_known t asker (q ∷ ks) k all h = elim (or_cases (q == k) (list_any (λ p. p == k) ks) h) [
  | inl e ↦ subst (λ p. IsSome (home t p)) (eqb-true q k e) (all.0.0)
  | inr e ↦ each_known t asker ks k all.1 e
]

pub asked_site : (t : Topology) (s : ℕ) (held : Held) (asker : ℕ) (targets : List ℕ) → IsOfSite t s held → AreTargets t asker targets → IsOfSite t s (asked held asker targets)
asked_site t s held asker targets site are = record {
  members = site.members;
  known = λ j k h. elim (cases_eq j asker) as (λ _. IsSome (home t k)) [
    | inl e ↦
        let asks = subst (λ p. has (with_each held.waits asker targets) p k ≡ true) e h in
        elim (or_cases (list_any (λ q. q == k) targets) (has held.waits asker k) (sym (has-with_each held.waits asker targets k) ∙ asks)) [
          | inl m ↦ each_known t asker targets k are.known m
          | inr m ↦ site.known asker k m
        ]
    | inr n ↦ site.known j k (sym (has-with_each_other held.waits asker targets j k n) ∙ h)
  ];
}

pub got_reply_site : (t : Topology) (s : ℕ) (held : Held) (asker holder : ℕ) → IsOfSite t s held → IsOfSite t s (got_reply held asker holder)
got_reply_site t s held asker holder site = record {
  members = site.members;
  known = λ j k h. site.known j k (without_old held.waits asker holder j k h);
}

pub replied_site : (t : Topology) (s : ℕ) (held : Held) (holder asker : ℕ) → IsOfSite t s held → IsOfSite t s (replied held holder asker)
replied_site t s held holder asker site = record {
  members = site.members;
  known = λ j k h. elim (cases_Bool (is_member held asker)) as (λ _. IsSome (home t k)) [
    | inl e ↦ site.known j k (without_old held.waits asker holder j k (subst (λ b. has (cond b (without_pair held.waits asker holder) held.waits) j k ≡ true) e h))
    | inr e ↦ site.known j k (subst (λ b. has (cond b (without_pair held.waits asker holder) held.waits) j k ≡ true) e h)
  ];
}

pub before_ask_site : (t : Topology) (s : ℕ) (held : Held) (asker : ℕ) (targets : List ℕ) → IsOfSite t s held → IsOfSite t s (before_ask held asker targets)
before_ask_site t s held asker targets site = record {
  members = site.members;
  known = λ j k h. site.known j k (and_parts (has held.waits j k) (not (j == asker)) (sym (has-only held.waits (λ p. not (p == asker)) j k) ∙ h)).0;
}
