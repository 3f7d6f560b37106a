-- What is kept of two readings comes from a run.
use Rattle.std.proofs.Common.{◌≡◌, ℕ, ◌<◌, not, ◌||◌, Bool, List, [], ◌∷◌, length, map, take, if◌then◌else◌, None, Some, refl, sym, ap, ◌∙◌, subst, subst₂, inl, inr, arith}
use Rattle.std.specs.List.{list_any}
use Rattle.std.proofs.lemmas.Bool.{cases_lt, cases_eq, eq-eqb, ne_eqb}
use Rattle.std.proofs.lemmas.List.{get_or-map, length-map, take_all, take_at}
use Rattle.cmh_frames.specs.Rows.{repeats}
use Rattle.cmh_runs.proofs.Beginnings.{length-beginning}
use Rattle.cmh_model3.specs.Entries.{WorldEvent}
use Rattle.cmh_model3.specs.Runs.{IsBeginningOf}
use Rattle.cmh_topology3.specs.Topology.{Topology, sites_of}
use Rattle.cmh_segment3.specs.declared.entry.Entry.{Entry}
use Rattle.cmh_segment3.specs.declared.segment.Segment.{Segment}
use Rattle.cmh_segment3.specs.Segment.{IsSegmentOf}
use Rattle.cmh_audit3.specs.declared.set.SetFault.TheVariants.{OtherWorld, UnknownSite, RepeatedSite, MissingSite, LaterEpoch}
use Rattle.cmh_audit3.specs.Journals.{journal_of}
use Rattle.cmh_audit3.specs.Set.{IsSet, begins_world, is_known, is_of_world, lacks_site, sites_in}
use Rattle.cmh_audit3.proofs.Ends.{each_journal}
use Rattle.cmh_audit3.proofs.Sets.{set_parts}
use Rattle.cmh_inputs.specs.Furthest.{AreOfFurthest, Keeps}
use Rattle.cmh_files.specs.Readings.{file_at}
use Rattle.cmh_inputs.specs.BetweenReads.{made_in, no_segment, segment_at}
use Rattle.cmh_inputs.specs.TwoReads.{AreOfARun, TwoReadsAreEnough}
use Rattle.cmh_inputs.proofs.Cutting.{front_writes, none_behind}
use Rattle.cmh_inputs.proofs.Places.{all_at}

-- the segment with the entries that its site makes in the run
abbrev with_made : List WorldEvent → Segment → Segment
with_made events g = record { header = g.header; base = g.base; entries = made_in events g.header.site }

-- ---- they are those of the world

module _ (f : Segment → Segment) where
  any_map : (p : Segment → Bool) → ((g : Segment) → p (f g) ≡ p g) → (gs : List Segment) → list_any p (map f gs) ≡ list_any p gs
  any_map p same [] = refl
  any_map p same (g ∷ gs) = λ i. same g i || any_map p same gs i

  sites_map : ((g : Segment) → (f g).header.site ≡ g.header.site) → (gs : List Segment) → sites_in (map f gs) ≡ sites_in gs
  sites_map same [] = refl
  sites_map same (g ∷ gs) = λ i. same g i ∷ sites_map same gs i

still_set : (t : Topology) (events : List WorldEvent) (gs : List Segment) → IsSet t gs → IsSet t (map (with_made events) gs)
still_set t events gs set =
    let f = with_made events in
    let sites = sites_map f (λ g. refl) gs in
    let world = any_map f (λ (g : Segment). not (is_of_world t.world g)) (λ g. refl) gs in
    let known = any_map f (λ (g : Segment). not (is_known t g)) (λ g. refl) gs in
    let begins = any_map f (λ (g : Segment). not (begins_world g)) (λ g. refl) gs in
    (λ i. if world i then Some OtherWorld
    else (if known i then Some UnknownSite
    else (if repeats (sites i) then Some RepeatedSite
    else (if lacks_site (sites_of t) (sites i) then Some MissingSite
    else (if begins i then Some LaterEpoch
    else None))))) ∙ set

-- ---- their journals are those of the run

begins_nothing : {X : Type 0} (xs : List X) → IsBeginningOf xs [] → xs ≡ []
begins_nothing [] b = refl
begins_nothing (x ∷ xs) b = absurd (cc (b.1))

journals_are : (events : List WorldEvent) (s : ℕ) (gs : List Segment) → IsBeginningOf (made_in events s) (journal_of gs s) → made_in events s ≡ journal_of (map (with_made events) gs) s
journals_are events s [] b = begins_nothing (made_in events s) b
journals_are events s (g ∷ gs) b = elim (cases_eq g.header.site s) [
  | inl here ↦
      ap (made_in events) (sym here)
      ∙ sym (ap (λ z. if z then made_in events g.header.site else journal_of (map (with_made events) gs) s) (eq-eqb g.header.site s here))
  | inr far ↦
      let other = ne_eqb g.header.site s far in
      journals_are events s gs (subst (λ z. IsBeginningOf (made_in events s) (if z then g.entries else journal_of gs s)) other b)
      ∙ sym (ap (λ z. if z then made_in events g.header.site else journal_of (map (with_made events) gs) s) other)
]

-- ---- the files

-- a beginning is so many of the first
front_is : {X : Type 0} (xs ys : List X) → IsBeginningOf xs ys → xs ≡ take (length xs) ys
front_is xs ys b = sym (take_at xs b.0 (length xs) refl) ∙ ap (take (length xs)) b.1

kept_file : (events : List WorldEvent) (g : Segment) (second kept : List ℕ) (left : ℕ) → IsSegmentOf g left second → IsBeginningOf (made_in events g.header.site) g.entries
    → Keeps second g (length (made_in events g.header.site)) kept → (n : ℕ) × IsSegmentOf (with_made events g) n kept
kept_file events g second kept left is b keeps = elim (cases_lt (length made) (length g.entries)) [
  | inl fewer ↦ (
    0,
    subst₂ (λ (es : List Entry) (bytes : List ℕ). IsSegmentOf (record { header = g.header; base = g.base; entries = es }) 0 bytes) (sym front) (sym (keeps.some fewer)) (record {
      tail = [];
      writes = front_writes second g left (length made) is;
      cut = record { short = omega arith; none = none_behind _ };
      left_is = refl;
    }),
  )
  | inr all ↦
      let few = length-beginning made g.entries b in (
        left,
        subst₂ (λ (es : List Entry) (bytes : List ℕ). IsSegmentOf (record { header = g.header; base = g.base; entries = es }) left bytes)
            (sym (front ∙ take_all (length made) g.entries all)) (sym (keeps.all (omega (arith, few, all)))) is,
      )
]
  where
    made : List Entry
    made = made_in events g.header.site

    front : made_in events g.header.site ≡ take (length (made_in events g.header.site)) g.entries
    front = front_is (made_in events g.header.site) g.entries b

module _ (t : Topology) (first second kept : List (List ℕ)) (o : AreOfFurthest t first second kept) where
  begins_at : (i : ℕ) → i < length o.segments → IsBeginningOf (made_in o.events (segment_at o.segments i).header.site) (segment_at o.segments i).entries
  begins_at i l =
      all_at (λ (g : Segment). IsBeginningOf (made_in o.events g.header.site) g.entries) o.segments
      (each_journal (λ s es. IsBeginningOf (made_in o.events s) es) o.segments (set_parts t o.segments o.read.set).once (λ s _. o.furthest.between.within.begins s)) i l

  pub of_a_run : AreOfARun t kept
  of_a_run = record {
    segments = map (with_made o.events) o.segments;
    each = length-map o.segments (with_made o.events) ∙ o.read.each ∙ sym o.each;
    read = λ i l.
        let e = o.each in
        let n = o.read.each in
        let in_second : i < length second = omega (arith, e, l) in
        let in_segments : i < length o.segments = omega (arith, e, n, l) in
        let twice = o.read.read i in_second in
        subst (λ (g : Segment). (left : ℕ) × IsSegmentOf g left (file_at kept i)) (sym (get_or-map (with_made o.events) o.segments i no_segment no_segment in_segments))
        (kept_file o.events (segment_at o.segments i) (file_at second i) (file_at kept i) twice.second_tail twice.second_is (begins_at i in_segments) (o.keeps i in_second));
    set = still_set t o.events o.segments o.read.set;
    comes = (o.events, o.furthest.between.within.run, λ s. journals_are o.events s o.segments (o.furthest.between.within.begins s));
  }

pub two_reads_are_enough : (t : Topology) → TwoReadsAreEnough t
two_reads_are_enough t first second kept before segments events read between (inl o) = of_a_run t first second kept o
two_reads_are_enough t first second kept before segments events read between (inr none) = absurd (none.0 before segments events read between)
