-- The sites of a new world.
use Rattle.std.proofs.Common.{◌≡◌, ℕ, ◌+◌, ◌≤◌, ◌==◌, Bool, true, false, List, [], ◌∷◌, ◌++◌, length, map, take, get_or, ◌<◌, replicate, Some, refl, sym, ap, ◌∙◌, arith}
use Rattle.std.specs.Prelude.{if◌then◌else◌}
use Rattle.std.specs.List.Sorted.{IsStrictlyIncreasing}
use Rattle.std.proofs.lemmas.List.{map_push, take_all, take_more}
use Rattle.std.proofs.lemmas.List.Elements.{All-map}
use Rattle.cmh_frames.specs.declared.edition.Edition.{Edition}
use Rattle.cmh_frames.specs.Topology.{Topology, sites_of}
use Rattle.cmh_frames.specs.Entries.{Entry}
use Rattle.cmh_frames.specs.Journals.{IsLawful}
use Rattle.cmh_controller.specs.Controller.{new_controller}
use Rattle.cmh_journal.specs.Journal.{Journal, entry_limit}
use Rattle.cmh_audit.specs.Journals.{journal_of}
use Rattle.cmh_audit.specs.Sums.{in_journals}
use Rattle.cmh_audit.proofs.TotalLemmas.{totals_same}
use Rattle.cmh_play.specs.History.{AreBlank, blank_journal}
use Rattle.cmh_play.specs.Held.{Held, ShowsNew, step_counts}
use Rattle.cmh_play.specs.Links.{link_of}
use Rattle.cmh_play.specs.Sites.{controller_of}

-- ---- blank journals

module _ (edition : Edition) where
  blank_sites : (sites : List ℕ) → map (λ (j : Journal). j.site) (map (blank_journal edition) sites) ≡ sites
  blank_sites [] = refl
  blank_sites (s ∷ sites) = ap (λ ss. s ∷ ss) (blank_sites sites)

  blank_steps : (sites : List ℕ) → step_counts (map (blank_journal edition) sites) ≡ replicate (length sites) 0
  blank_steps [] = refl
  blank_steps (s ∷ sites) = ap (λ ns. 0 ∷ ns) (blank_steps sites)

  blank_entries : (sites : List ℕ) (q : ℕ) → journal_of (map (blank_journal edition) sites) q ≡ []
  blank_entries [] q = refl
  blank_entries (s ∷ sites) q = go (s == q) (blank_entries sites q)
    where
      go : (t : Bool) → journal_of (map (blank_journal edition) sites) q ≡ [] → (if t then [] else journal_of (map (blank_journal edition) sites) q) ≡ []
      go true more = refl
      go false more = more

  blank_sum : (f : Entry → ℕ) (sites : List ℕ) → in_journals f (map (blank_journal edition) sites) ≡ 0
  blank_sum f [] = refl
  blank_sum f (s ∷ sites) = let h = blank_sum f sites in omega (arith, h)

wrote_blank : (t : Topology) (sites : List ℕ) → map (new_controller t) sites ≡ map (controller_of t) (map (blank_journal t.edition) sites)
wrote_blank t [] = refl
wrote_blank t (s ∷ sites) = ap (λ cs. new_controller t s ∷ cs) (wrote_blank t sites)

-- ---- lists that are made site by site

pub blank_is : (edition : Edition) (s : ℕ) (j : Journal) → j.site ≡ s → j.edition ≡ edition → j.entries ≡ [] → j.reserved ≡ 0 → j ≡ blank_journal edition s
blank_is edition s j site of none no_room = λ i. record { site = site i; edition = of i; entries = none i; reserved = no_room i }

pub mapped_more : {X : Type 0} (f : ℕ → X) (made : List X) (sites : List ℕ) (k s : ℕ) (x : X) → k < length sites → s ≡ get_or sites k s → made ≡ map f (take k sites) → x ≡ f s → made ++ x ∷ [] ≡ map f (take (k + 1) sites)
mapped_more {X = X} f made sites k s x l here so_far is =
    (λ i. so_far i ++ is i ∷ []) ∙ sym (map_push f (take k sites) s)
    ∙ ap (map f) (ap (λ z. take k sites ++ z ∷ []) here ∙ sym (take_more sites k s l))

pub mapped_all : {X : Type 0} (f : ℕ → X) (made : List X) (sites all : List ℕ) (k : ℕ) → length sites ≤ k → sites ≡ all → made ≡ map f (take k sites) → made ≡ map f all
mapped_all f made sites all k end same so_far = so_far ∙ ap (map f) (take_all k sites end ∙ same)

-- ---- the world

pub shows_new : (t : Topology) (keeps : Bool) (held : Held) → held.topology ≡ t → held.controllers ≡ map (new_controller t) (sites_of t) → IsStrictlyIncreasing (sites_of t)
    → AreBlank t keeps held.history → ((a b : ℕ) → link_of held.links a b ≡ Some []) → ShowsNew t keeps held
shows_new t keeps held same controllers ascending blank links =
    let journals : List Journal = map (blank_journal t.edition) (sites_of t) in
    record {
      world = record { topology = t; journals = journals; links = link_of held.links };
      shows = record {
        topology = same;
        links = λ a b. refl;
        standing = record {
          ascending = ascending;
          placed = blank_sites t.edition (sites_of t);
          edition = All-map (λ (j : Journal). j.edition ≡ t.edition) (blank_journal t.edition) (sites_of t) (λ k d l. refl);
          lawful = All-map (λ (j : Journal). IsLawful t j.site j.entries) (blank_journal t.edition) (sites_of t) (λ k d l. tt);
          played = controllers ∙ wrote_blank t (sites_of t);
        };
        limit = All-map (λ (j : Journal). length j.entries ≤ entry_limit) (blank_journal t.edition) (sites_of t) (λ k d l. omega arith);
        steps = blank.no_steps ∙ sym (blank_steps t.edition (sites_of t));
        totals = totals_same (λ f. in_journals f []) (λ f. in_journals f journals) held.history.totals (λ f. blank_sum t.edition f (sites_of t)) blank.no_totals;
        journals = blank.no_entries;
      };
      topology = refl;
      journals = λ s. blank_entries t.edition (sites_of t) s;
      links = links;
    }
