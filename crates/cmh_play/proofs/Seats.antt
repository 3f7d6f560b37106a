-- The journals of a world, one for each site, and what becomes of them where one grows.
use Rattle.std.proofs.Common.{◌≡◌, ◌≢◌, ℕ, zero, suc, ◌+◌, ◌<◌, ◌==◌, ◌||◌, true, false, true≢false, List, [], ◌∷◌, length, map, set, get_or, refl, sym, ap, subst, ◌∙◌, arith}
use Rattle.std.specs.Prelude.{All, Contains, if◌then◌else◌}
use Rattle.std.specs.List.{list_any}
use Rattle.std.specs.List.Sorted.{IsStrictlyIncreasing}
use Rattle.std.proofs.lemmas.Bool.{ne_eqb}
use Rattle.std.proofs.lemmas.List.{map-set, set-get_or, get_or-set_same, length-set, length-map, get_or-map, get_or_default}
use Rattle.std.proofs.lemmas.List.Elements.{All-set}
use Rattle.cmh_frames.proofs.Members.{increasing_tail}
use Rattle.cmh_frames.specs.Topology.{Topology, sites_of, is_site}
use Rattle.cmh_frames.specs.Journals.{IsLawful}
use Rattle.cmh_controller.specs.Controller.{Controller}
use Rattle.cmh_journal.specs.Journal.{Journal}
use Rattle.cmh_audit.specs.Journals.{journal_of, NoneAt}
use Rattle.cmh_audit.specs.Inner.Places.{OneEach}
use Rattle.cmh_audit.specs.Set.{IsSet}
use Rattle.cmh_audit.proofs.SetLemmas.{set_from}
use Rattle.cmh_audit.proofs.CountLemmas.{journal_here}
use Rattle.cmh_play.specs.Sites.{controller_of, IsStanding, ArePlaced, AreOfEdition, AreStanding}

abbrev site_in : Journal → ℕ
site_in j = j.site

none_no : (s : ℕ) (js : List Journal) → NoneAt s js → list_any (λ q. q == s) (map site_in js) ≡ false
none_no s [] none = refl
none_no s (j ∷ js) none = ap (λ t. t || list_any (λ q. q == s) (map site_in js)) (ne_eqb j.site s none.0) ∙ none_no s js none.1

-- a site of the topology has a journal
pub has_journal : (t : Topology) (s : ℕ) (js : List Journal) → ArePlaced t js → is_site t s ≡ true → NoneAt s js → ⊥
has_journal t s js placed known none =
    true≢false (sym known ∙ ap (list_any (λ q. q == s)) (sym placed) ∙ none_no s js none)

suc_more : (k : ℕ) → suc k + 1 ≡ suc (k + 1)
suc_more k = omega arith

none_after : (s : ℕ) (j : Journal) (js : List Journal) → s < j.site → IsStrictlyIncreasing (map site_in (j ∷ js)) → NoneAt s (j ∷ js)
none_after s j [] lt up = ((λ e. let same = e in omega (arith, lt, same)), tt)
none_after s j (x ∷ js) lt up =
    let next = up 0 (omega arith) in
    ((λ e. let same = e in omega (arith, lt, same)), none_after s x js (omega (arith, lt, next)) (increasing_tail j.site (map site_in (x ∷ js)) up))

pub one_each : (js : List Journal) → IsStrictlyIncreasing (map site_in js) → OneEach js
one_each [] up = tt
one_each (j ∷ []) up = (tt, tt)
one_each (j ∷ x ∷ js) up =
    let later : IsStrictlyIncreasing (map site_in (x ∷ js)) = increasing_tail j.site (map site_in (x ∷ js)) up in
    (none_after j.site x js (up 0 (omega arith)) later, one_each (x ∷ js) later)

-- the journals that a topology has are a set to audit
pub is_set : (t : Topology) (js : List Journal) → IsStrictlyIncreasing (sites_of t) → ArePlaced t js → AreOfEdition t js → IsSet t js
is_set t js up placed edition = set_from t js (record {
  known = λ k d l. (
    k,
    subst (λ (xs : List ℕ). k < length xs) placed (let n = length-map js site_in in omega (arith, l, n)),
    subst (λ (xs : List ℕ). get_or xs k (get_or js k d).site ≡ (get_or js k d).site) placed (get_or-map site_in js k d _ l),
  );
  edition = edition;
  once = one_each js (subst (λ (xs : List ℕ). IsStrictlyIncreasing xs) (sym placed) up);
  present = subst (λ (xs : List ℕ). All (λ site. Contains (map site_in js) site) xs) placed (λ k d l. (k, l, get_or_default (map site_in js) k _ d l));
})

-- ---- one of the journals grows

sites_stay : (js : List Journal) (i : ℕ) (w : Journal) → i < length js → w.site ≡ (get_or js i w).site → map site_in (set js i w) ≡ map site_in js
sites_stay js i w l same =
    map-set site_in js i w
    ∙ ap (set (map site_in js) i) (same ∙ sym (get_or-map site_in js i w 0 l))
    ∙ set-get_or (map site_in js) i 0

pub others_stay : (js : List Journal) (i : ℕ) (w : Journal) → i < length js → w.site ≡ (get_or js i w).site → (q : ℕ) → q ≢ w.site → journal_of (set js i w) q ≡ journal_of js q
others_stay [] i w l same q apart = absurd (omega arith)
others_stay (x ∷ js) zero w l same q apart =
    ap (λ t. if t then w.entries else journal_of js q) (ne_eqb w.site q (λ e. apart (sym e)))
    ∙ sym (ap (λ t. if t then x.entries else journal_of js q) (ne_eqb x.site q (λ e. apart (sym (same ∙ e)))))
others_stay (x ∷ js) (suc i) w l same q apart =
    ap (λ es. if x.site == q then x.entries else es) (others_stay js i w (omega (arith, l)) same q apart)

-- the i-th journal and its controller become others of the same site
module _ (t : Topology) (cs : List Controller) (js : List Journal) (world : AreStanding t cs js) (i : ℕ) (l : i < length js) where
  ascend : (xs : List Journal) → map site_in xs ≡ map site_in js → OneEach xs
  ascend xs same = one_each xs (subst (λ (ss : List ℕ). IsStrictlyIncreasing ss) (sym (same ∙ world.placed)) world.ascending)

  -- the entries of the journal at its place are those of its site
  pub seat_entries : (j : Journal) → j ≡ get_or js i j → journal_of js j.site ≡ j.entries
  seat_entries j here = journal_here js i j (ascend js refl) l here

  pub standing : (c : Controller) (j : Journal) → c ≡ get_or cs i c → j ≡ get_or js i j → IsStanding t c j
  standing c j c_here here = record {
    edition = ap (λ (x : Journal). x.edition) here ∙ world.edition i j l;
    lawful = subst (λ (x : Journal). IsLawful t x.site x.entries) (sym here) (world.lawful i j l);
    wrote = c_here ∙ ap (λ (xs : List Controller). get_or xs i c) world.played ∙ get_or-map (controller_of t) js i j c l ∙ ap (controller_of t) (sym here);
  }

  module _ (c : Controller) (w : Journal) (same : w.site ≡ (get_or js i w).site) (stands : IsStanding t c w) where
    pub new_entries : journal_of (set js i w) w.site ≡ w.entries
    new_entries =
        journal_here (set js i w) i w (ascend (set js i w) (sites_stay js i w l same)) (let n = length-set js i w in omega (arith, l, n)) (sym (get_or-set_same js i w w l))

    pub standing_after : AreStanding t (set cs i c) (set js i w)
    standing_after = record {
      ascending = world.ascending;
      placed = sites_stay js i w l same ∙ world.placed;
      edition = All-set (λ (j : Journal). j.edition ≡ t.edition) js i w stands.edition world.edition;
      lawful = All-set (λ (j : Journal). IsLawful t j.site j.entries) js i w stands.lawful world.lawful;
      played = ap (λ (xs : List Controller). set xs i c) world.played ∙ ap (set (map (controller_of t) js) i) stands.wrote ∙ sym (map-set (controller_of t) js i w);
    }
