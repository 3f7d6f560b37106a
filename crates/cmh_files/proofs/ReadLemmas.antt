-- Files that were read twice.
use Rattle.std.proofs.Common.{◌≡◌, ◌≢◌, ℕ, ◌+◌, ◌<◌, ◌≤◌, List, [], ◌∷◌, ◌++◌, length, take, map, get_or, Vec, refl, sym, ap, subst, subst₂, ◌∙◌, inl, inr, arith}
use Rattle.std.proofs.lemmas.Bool.{cases_lt}
use Rattle.std.proofs.lemmas.List.{get_or-map, get_or_append_left, get_or_push, take_at}
use Rattle.std.specs.Global.{Global}
use Rattle.cmh_frames.specs.Journals.{receipts_of, sendings_of}
use Rattle.cmh_frames.specs.Entries.{Entry}
use Rattle.cmh_journal.specs.File.{IsFault, IsFileOf, file_spelling}
use Rattle.cmh_journal.specs.Journal.{Journal}
use Rattle.cmh_journal.specs.declared.journal.JournalFault.{JournalFault}
use Rattle.cmh_journal.specs.declared.journal.JournalFault.TheVariants.{Memory}
use Rattle.cmh_journal.specs.declared.tail.Tail.{Tail}
use Rattle.cmh_journal.proofs.Readings.{no_fault, one_journal}
use Rattle.cmh_files.specs.Readings.{AreReadTwice, IsReadTwice, Keeps, file_at}
use Rattle.cmh_files.specs.Stops.{NoneIsConsistent, Stop, got, journal_at, kept, length_at, no_journal, sent}

-- two readings of the same bytes
record Same (a b : Journal) : Type 0 where
  pub site : a.site ≡ b.site
  pub entries : a.entries ≡ b.entries

same_file : (bytes : List ℕ) (a b : Journal) (s t : Tail) → IsFileOf a s bytes → IsFileOf b t bytes → Same a b
same_file bytes a b s t is_a is_b = let h = one_journal b.edition b.site b.entries is_b.left bytes a s is_b.writes is_a in record { site = h.1; entries = h.2 }

-- what is at fault is no file of a journal
no_file : (bytes : List ℕ) (fault : JournalFault) (journal : Journal) (tail : Tail) → IsFault bytes fault → fault ≢ Memory → IsFileOf journal tail bytes → ⊥
no_file bytes fault journal tail is other file = other (no_fault journal.edition journal.site journal.entries file.left bytes fault file.writes is)

-- ---- one file

module _ (first second : List ℕ) (before : ℕ) (journal : Journal) (r : IsReadTwice first second before journal) where
  pub faulty_first : (fault : JournalFault) → IsFault first fault → fault ≢ Memory → ⊥
  faulty_first fault is other = no_file first fault r.earlier r.first_tail is other r.first_is

  pub faulty_second : (fault : JournalFault) → IsFault second fault → fault ≢ Memory → ⊥
  faulty_second fault is other = no_file second fault journal r.second_tail is other r.second_is

  -- it has fewer entries at first
  pub fewer : (earlier later : Journal) (s t : Tail) → IsFileOf earlier s first → IsFileOf later t second → length later.entries < length earlier.entries → ⊥
  fewer earlier later s t is_first is_second more =
      let a : length earlier.entries ≡ length r.earlier.entries = ap length (same_file first earlier r.earlier s r.first_tail is_first r.first_is).entries in
      let b : length later.entries ≡ length journal.entries = ap length (same_file second later journal t r.second_tail is_second r.second_is).entries in
      let c = r.within in
      let d = r.before_is in
      omega (arith, a, b, c, d, more)

  -- it is the same however it was read
  module _ (n : ℕ) (other : Journal) (o : IsReadTwice first second n other) where
    pub same_before : before ≡ n
    same_before = r.before_is ∙ ap length (same_file first r.earlier o.earlier r.first_tail o.first_tail r.first_is o.first_is).entries ∙ sym o.before_is

    pub same_site : journal.site ≡ other.site
    same_site = (same_file second journal other r.second_tail o.second_tail r.second_is o.second_is).site

    pub same_entries : journal.entries ≡ other.entries
    same_entries = (same_file second journal other r.second_tail o.second_tail r.second_is o.second_is).entries

-- ---- files, one after the other

pub file_is : (files : List (Vec ℕ Global)) (i : ℕ) (file : Vec ℕ Global) → i < length files → file ≡ get_or files i file → file_at (map (λ (f : Vec ℕ Global). f.items) files) i ≡ file.items
file_is files i file l is = get_or-map (λ (f : Vec ℕ Global). f.items) files i file [] l ∙ ap (λ (f : Vec ℕ Global). f.items) (sym is)

pub read_more : (first second : List (List ℕ)) (n : ℕ) (before longer : List ℕ) (js more : List Journal) (b : ℕ) (j : Journal)
    → longer ≡ before ++ b ∷ [] → more ≡ js ++ j ∷ [] → length before ≡ n → length js ≡ n
    → ((k : ℕ) → k < n → IsReadTwice (file_at first k) (file_at second k) (length_at before k) (journal_at js k))
    → IsReadTwice (file_at first n) (file_at second n) b j
    → (k : ℕ) → k < n + 1 → IsReadTwice (file_at first k) (file_at second k) (length_at longer k) (journal_at more k)
read_more first second n before longer js more b j is_longer is_more lb lj all one k l = elim (cases_lt k n) [
  | inl earlier ↦
      let kb : k < length before = omega arith in
      let kj : k < length js = omega arith in
      subst₂ (λ (x : ℕ) (y : Journal). IsReadTwice (file_at first k) (file_at second k) x y)
      (sym (ap (λ (xs : List ℕ). length_at xs k) is_longer ∙ get_or_append_left before (b ∷ []) 0 k kb))
      (sym (ap (λ (xs : List Journal). journal_at xs k) is_more ∙ get_or_append_left js (j ∷ []) no_journal k kj))
      (all k earlier)
  | inr last ↦
      let here : k ≡ n = omega arith in
      let P : ℕ → Type 0 = λ i. IsReadTwice (file_at first i) (file_at second i) (length_at longer i) (journal_at more i) in
      subst P (sym here)
      (subst₂ (λ (x : ℕ) (y : Journal). IsReadTwice (file_at first n) (file_at second n) x y)
      (sym (ap (λ (xs : List ℕ). length_at xs n) is_longer ∙ get_or_push before b 0 n lb))
      (sym (ap (λ (xs : List Journal). journal_at xs n) is_more ∙ get_or_push js j no_journal n lj))
      one)
]

pub keeps_more : (first second : List (List ℕ)) (before stop : List ℕ) (js : List Journal) (n : ℕ) (lengths longer : List ℕ) (x : ℕ)
    → longer ≡ lengths ++ x ∷ [] → length lengths ≡ n
    → ((k : ℕ) → k < n → Keeps (file_at first k) (length_at before k) (length_at stop k) (journal_at js k) (take (length_at lengths k) (file_at second k)))
    → Keeps (file_at first n) (length_at before n) (length_at stop n) (journal_at js n) (take x (file_at second n))
    → (k : ℕ) → k < n + 1 → Keeps (file_at first k) (length_at before k) (length_at stop k) (journal_at js k) (take (length_at longer k) (file_at second k))
keeps_more first second before stop js n lengths longer x is long all one k l = elim (cases_lt k n) [
  | inl earlier ↦
      let kl : k < length lengths = omega arith in
      subst (λ (m : ℕ). Keeps (file_at first k) (length_at before k) (length_at stop k) (journal_at js k) (take m (file_at second k)))
      (sym (ap (λ (xs : List ℕ). length_at xs k) is ∙ get_or_append_left lengths (x ∷ []) 0 k kl))
      (all k earlier)
  | inr last ↦
      let here : k ≡ n = omega arith in
      let P : ℕ → Type 0 = λ i. Keeps (file_at first i) (length_at before i) (length_at stop i) (journal_at js i) (take (length_at longer i) (file_at second i)) in
      subst P (sym here)
      (subst (λ (m : ℕ). Keeps (file_at first n) (length_at before n) (length_at stop n) (journal_at js n) (take m (file_at second n)))
      (sym (ap (λ (xs : List ℕ). length_at xs n) is ∙ get_or_push lengths x 0 n long))
      one)
]

-- all of the first file is kept
pub keeps_first : (first second : List ℕ) (before stop x : ℕ) (j : Journal) → IsReadTwice first second before j → stop ≡ before → x ≡ length first → Keeps first before stop j (take x second)
keeps_first first second before stop x j r same is = record {
  same = λ e. ap (λ m. take m second) is ∙ ap (take (length first)) (sym r.grew.1) ∙ take_at first r.grew.0 (length first) refl;
  raised = λ more. absurd (omega (arith, same, more));
}

-- some entries are
pub keeps_entries : (first second : List ℕ) (before stop x : ℕ) (j : Journal) → (stop ≡ before → ⊥) → take x second ≡ file_spelling j.edition j.site (take stop j.entries) → Keeps first before stop j (take x second)
keeps_entries first second before stop x j other is = record {
  same = λ e. absurd (other e);
  raised = λ more. is;
}

-- ---- all files

module _ (first second : List (List ℕ)) (before : Stop) (journals : List Journal) (r : AreReadTwice first second before journals) (n : Stop) (others : List Journal) (o : AreReadTwice first second n others) where
  within_all : (i : ℕ) → i < length journals → i < length second
  within_all i l = let e = r.each in omega arith

  within_others : (i : ℕ) → i < length others → i < length second
  within_others i l = let e = o.each in omega arith

  within_journals : (i : ℕ) → i < length others → i < length journals
  within_journals i l = let e = r.each in let f = o.each in omega arith

  before_at : (i : ℕ) → i < length second → length_at before i ≡ length_at n i
  before_at i l = same_before (file_at first i) (file_at second i) (length_at before i) (journal_at journals i) (r.read i l) (length_at n i) (journal_at others i) (o.read i l)

  site_at : (i : ℕ) → i < length second → (journal_at journals i).site ≡ (journal_at others i).site
  site_at i l = same_site (file_at first i) (file_at second i) (length_at before i) (journal_at journals i) (r.read i l) (length_at n i) (journal_at others i) (o.read i l)

  entries_at : (i : ℕ) → i < length second → (journal_at journals i).entries ≡ (journal_at others i).entries
  entries_at i l = same_entries (file_at first i) (file_at second i) (length_at before i) (journal_at journals i) (r.read i l) (length_at n i) (journal_at others i) (o.read i l)

  same_got : (stop : Stop) (a b : ℕ) → a < length second → b < length second → got journals stop a b ≡ got others stop a b
  same_got stop a b la lb =
      ap (λ s. length (receipts_of s (kept journals stop b))) (site_at a la)
      ∙ ap (λ (es : List Entry). length (receipts_of (journal_at others a).site (take (length_at stop b) es))) (entries_at b lb)

  same_sent : (stop : Stop) (a b : ℕ) → a < length second → b < length second → sent journals stop a b ≡ sent others stop a b
  same_sent stop a b la lb =
      ap (λ s. length (sendings_of s (kept journals stop a))) (site_at b lb)
      ∙ ap (λ (es : List Entry). length (sendings_of (journal_at others b).site (take (length_at stop a) es))) (entries_at a la)

  -- what no stop of the one does, none of the other does
  pub none_of_both : NoneIsConsistent before journals → NoneIsConsistent n others
  none_of_both none stop within consistent = none stop
      (record {
        each = within.each ∙ o.each ∙ sym r.each;
        above = λ i l. let same = before_at i (within_all i l) in let h = within.above i (let e = r.each in let f = o.each in omega arith) in omega (arith, same, h);
        below = λ i l. subst (λ (es : List Entry). length_at stop i ≤ length es) (sym (entries_at i (within_all i l))) (within.below i (let e = r.each in let f = o.each in omega arith));
      })
      (λ a b la lb. let sa = within_all a la in let sb = within_all b lb in
      let x = same_got stop a b sa sb in let y = same_sent stop a b sa sb in
      let h = consistent a b (let e = o.each in omega arith) (let e = o.each in omega arith) in
      omega (arith, x, y, h))
