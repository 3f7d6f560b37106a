-- Totals: how they grow, and what they come to for a report.
use Rattle.std.proofs.Common.{◌≡◌, ◌≢◌, ℕ, zero, suc, ◌+◌, ◌-◌, ◌*◌, ◌^◌, ◌<◌, ◌≤◌, ◌==◌, ◌⊎◌, ◌↔◌, Bool, true, false, List, [], ◌∷◌, length, get_or, inl, inr, ⊎_elim, sym, ap, subst, refl, ◌∙◌, if◌then◌else◌, arith, length-append, mul-le-mul_left}
use Rattle.std.specs.Prelude.{Contains}
use Rattle.std.specs.List.{AllByRecursion}
use Rattle.std.specs.List.Sorted.{IsStrictlyIncreasing}
use Rattle.std.proofs.lemmas.Bool.{cases_eq, eq-eqb, ne_eqb}
use Rattle.std.proofs.lemmas.List.{get_or_default}
use Rattle.std.proofs.lemmas.List.Elements.{recursion_from_All}
use Rattle.cmh_frames.specs.declared.edition.Edition.{Edition}
use Rattle.cmh_frames.specs.declared.frame.Frame.{Frame}
use Rattle.cmh_frames.specs.declared.frame.Frame.TheVariants.{Request, Reply as Reply_frame, Probe}
use Rattle.cmh_frames.specs.Topology.{Topology, sites_of}
use Rattle.cmh_frames.specs.declared.event.Event.{Event}
use Rattle.cmh_frames.specs.declared.event.Event.TheVariants.{Ask, Reply, Start, Got}
use Rattle.cmh_frames.specs.Entries.{Entry, WorldEvent}
use Rattle.cmh_frames.specs.Laws.{AsksAndReplies, DarkPath}
use Rattle.cmh_frames.specs.State.{State, empty_state}
use Rattle.cmh_frames.specs.Rules.{Accepts, after}
use Rattle.cmh_frames.specs.Journals.{LawfulFrom, IsLawful, frames_to, frame_from, sendings_of, receipts_of}
use Rattle.cmh_frames.specs.Runs.{IsRun, ComesFrom, receipts, sendings, under_way}
use Rattle.cmh_frames.proofs.Beginnings.{beginning_refl}
use Rattle.cmh_frames.proofs.Journals.{whole}
use Rattle.cmh_frames.proofs.Members.{no_member}
use Rattle.cmh_frames.proofs.Strangers.{at_site}
use Rattle.cmh_journal.specs.Entries.{IsWhole}
use Rattle.cmh_journal.specs.Journal.{Journal, entry_limit}
use Rattle.cmh_journal.specs.WholeEntries.{EachEntryWhole}
use Rattle.cmh_audit.specs.Declarations.{declares}
use Rattle.cmh_audit.specs.Inner.Reporting.{IsReportWith, beside}
use Rattle.cmh_audit.specs.Journals.{journal_of, entry_count}
use Rattle.cmh_audit.specs.Inner.Places.{OneEach}
use Rattle.cmh_audit.specs.Reports.{Report, Reports}
use Rattle.cmh_audit.specs.Set.{IsSet}
use Rattle.cmh_audit.proofs.SetLemmas.{set_parts}
use Rattle.cmh_audit.specs.Sums.{in_entries, in_journals}
use Rattle.cmh_audit.specs.Totals.{Totals, AddsEntry, AreTotals, AreTotalsOfRun, got_by, got_count, kept}
use Rattle.cmh_audit.specs.Transit.{sent_count}
use Rattle.cmh_audit.specs.Turns.{turned, turns}
use Rattle.cmh_audit.proofs.AuditLemmas.{set_few}
use Rattle.cmh_audit.proofs.CountLemmas.{journal_here}
use Rattle.cmh_audit.proofs.CountingLemmas.{in_transit, sum_over, transit_is, Apart, ascending_apart, entries_sent, frames_sum, journals_sum, sendings_sum, sum_le, sum_over-plus, sum_same, sum_zero}
use Rattle.cmh_cycles.proofs.Members.{contains_rest}
use Rattle.cmh_audit.proofs.ReportLemmas.{waits_same, declared_same, on_cycles, firsts_found, beside_is, cycles_to}
use Rattle.cmh_audit.proofs.Sums.{journal_none}
use Rattle.cmh_audit.proofs.TransitLemmas.{drained_iff, none_sent, site_or_not}
use Rattle.cmh_audit.proofs.TurnLemmas.{turned-plus}

-- ---- one entry more

kept_more : (a b : ℕ) → kept (kept a + b) ≡ kept (a + b)
kept_more a b = omega arith

pub totals_more : (sum more : (Entry → ℕ) → ℕ) (old new : Totals) (e : Entry) → AreTotals sum old → AddsEntry old new e → ((f : Entry → ℕ) → more f ≡ sum f + f e) → AreTotals more new
totals_more sum more old new e are adds grows = record {
  waits = λ j k.
      adds.waits j k ∙ ap (turned (turns j k e)) (are.waits j k) ∙ sym (turned-plus (sum (turns j k)) (turns j k e) false)
      ∙ ap (λ n. turned n false) (sym (grows (turns j k)));
  declared = λ i.
      let g = grows (declares i) in (
        λ c. ⊎_elim (λ h. let l = (are.declared i).0 h in omega (arith, l, g)) (λ l. omega (arith, l, g)) ((adds.declared i).0 c),
        λ l. (adds.declared i).1 (split (sum (declares i)) (declares i e) (λ h. (are.declared i).1 h) (omega (arith, l, g))),
      );
  events = adds.events ∙ ap (λ n. kept (n + 1)) are.events ∙ kept_more (sum (λ e. 1)) 1 ∙ ap kept (sym (grows (λ e. 1)));
  sent = adds.sent ∙ ap (λ n. kept (n + sent_count e)) are.sent ∙ kept_more (sum sent_count) (sent_count e) ∙ ap kept (sym (grows sent_count));
  got = adds.got ∙ ap (λ n. kept (n + got_count e)) are.got ∙ kept_more (sum got_count) (got_count e) ∙ ap kept (sym (grows got_count));
}
  where
    split : {P : Type 0} (m n : ℕ) → (0 < m → P) → 0 < m + n → P ⊎ (0 < n)
    split zero n h l = inr (omega (arith, l))
    split (suc m) n h l = inl (h (omega arith))

-- the totals of entries that sum up the same
pub totals_same : (sum other : (Entry → ℕ) → ℕ) (totals : Totals) → ((f : Entry → ℕ) → other f ≡ sum f) → AreTotals sum totals → AreTotals other totals
totals_same sum other totals same are = record {
  waits = λ j k. are.waits j k ∙ ap (λ n. turned n false) (sym (same (turns j k)));
  declared = λ i. let e = same (declares i) in (λ c. let l = (are.declared i).0 c in omega (arith, l, e), λ l. (are.declared i).1 (omega (arith, l, e)));
  events = are.events ∙ ap kept (sym (same (λ e. 1)));
  sent = are.sent ∙ ap kept (sym (same sent_count));
  got = are.got ∙ ap kept (sym (same got_count));
}

-- ---- sums over sites: no less, where the sites are among them

sum_in : (x c : ℕ) (f g : ℕ → ℕ) (sites : List ℕ) → Contains sites x → ((s : ℕ) → (if x == s then c else 0) + g s ≤ f s) → c + sum_over g sites ≤ sum_over f sites
sum_in x c f g [] there h = absurd (no_member x there)
sum_in x c f g (s ∷ sites) there h = ⊎_elim
    (λ (e : x ≡ s).
    let a = h s in
    let z = ap (λ t. if t then c else 0) (eq-eqb x s e) in
    let more = sum_le g f sites (λ q. let b = h q in omega (arith, b)) in
    omega (arith, a, z, more))
    (λ (ne : x ≢ s).
    let a = h s in
    let more = sum_in x c f g sites (contains_rest x s sites (λ e. ne (sym e)) there) h in
    omega (arith, a, more))
    (cases_eq x s)

sum_swap : (h : ℕ → ℕ → ℕ) (xs ys : List ℕ) → sum_over (λ a. sum_over (λ b. h a b) ys) xs ≡ sum_over (λ b. sum_over (λ a. h a b) xs) ys
sum_swap h [] ys = sym (sum_zero ys)
sum_swap h (x ∷ xs) ys =
    ap (λ n. sum_over (λ b. h x b) ys + n) (sum_swap h xs ys) ∙ sym (sum_over-plus (λ b. h x b) (λ b. sum_over (λ a. h a b) xs) ys)

-- ---- each frame has its sites

frames_all : (sites : List ℕ) (xs : List (ℕ × Frame)) → AllByRecursion (λ (x : ℕ × Frame). Contains sites x.0) xs → length xs ≤ sum_over (λ b. length (frames_to b xs)) sites
frames_all sites [] known = omega arith
frames_all sites (x ∷ xs) known =
    let h = frames_all sites xs known.1 in
    let s = sum_in x.0 1 (λ b. length (frames_to b (x ∷ xs))) (λ b. length (frames_to b xs)) sites known.0 (λ b. one b (x.0 == b)) in
    omega (arith, h, s)
  where
    one : (b : ℕ) (t : Bool) → (if t then 1 else 0) + length (frames_to b xs) ≤ length (if t then x.1 ∷ frames_to b xs else frames_to b xs)
    one b true = omega arith
    one b false = omega arith

known_from : (sites : List ℕ) (xs : List (ℕ × Frame)) → ((s : ℕ) → Contains sites s ⊎ (Contains sites s → ⊥)) → ((b : ℕ) → (Contains sites b → ⊥) → frames_to b xs ≡ []) → AllByRecursion (λ (x : ℕ × Frame). Contains sites x.0) xs
known_from sites [] known none = tt
known_from sites (x ∷ xs) known none = (
  ⊎_elim (λ c. c)
      (λ out. absurd (let e : x.1 ∷ frames_to x.0 xs ≡ [] = sym (ap (λ t. if t then x.1 ∷ frames_to x.0 xs else frames_to x.0 xs) (eq-eqb x.0 x.0 refl)) ∙ none x.0 out in cc))
      (known x.0),
  known_from sites xs known (λ b out. rest b (x.0 == b) (none b out)),
)
  where
    rest : (b : ℕ) (t : Bool) → (if t then x.1 ∷ frames_to b xs else frames_to b xs) ≡ [] → frames_to b xs ≡ []
    rest b true h = absurd (cc)
    rest b false h = h

module _ (t : Topology) (apart : Apart (sites_of t)) where
  -- what an entry got came from a site
  got_from : (s : ℕ) (v : State) (ev : Event) → Accepts t s v ev → sum_over (λ a. length (frame_from a ev)) (sites_of t) ≡ got_by ev
  got_from s v (Ask asker targets) accepted = sum_zero (sites_of t)
  got_from s v (Reply holder asker) accepted = sum_zero (sites_of t)
  got_from s v (Start i) accepted = sum_zero (sites_of t)
  got_from s v (Got a frame) accepted =
      let few = frames_sum (sites_of t) ((a, frame) ∷ []) apart in
      let all = frames_all (sites_of t) ((a, frame) ∷ []) (site frame accepted, tt) in
      omega (arith, few, all)
    where
      site : (frame : Frame) → Accepts t s v (Got a frame) → Contains (sites_of t) a
      site (Request (asker, holder)) h = at_site t asker a h.1
      site (Reply_frame (holder, asker)) h = at_site t holder a h.1
      site (Probe (origin, from, to)) h = at_site t from a h.1

  receipts_all : (s : ℕ) (v : State) (es : List Entry) → LawfulFrom t s v es → sum_over (λ a. length (receipts_of a es)) (sites_of t) ≡ in_entries got_count es
  receipts_all s v [] lawful = sum_zero (sites_of t)
  receipts_all s v (e ∷ es) lawful =
      let more = receipts_all s (after t s v e.event e.declared) es lawful.2 in
      let one = got_from s v e.event lawful.0 in
      let same = sum_same (λ a. length (receipts_of a (e ∷ es))) (λ a. length (frame_from a e.event) + length (receipts_of a es)) (sites_of t) (λ a. length-append (frame_from a e.event) (receipts_of a es)) in
      let plus = sum_over-plus (λ a. length (frame_from a e.event)) (λ a. length (receipts_of a es)) (sites_of t) in
      omega (arith, more, one, same, plus)

  sendings_few : (s : ℕ) (v : State) (es : List Entry) → LawfulFrom t s v es → in_entries sent_count es ≤ sum_over (λ b. length (sendings_of b es)) (sites_of t)
  sendings_few s v [] lawful = omega arith
  sendings_few s v (e ∷ es) lawful =
      let more = sendings_few s (after t s v e.event e.declared) es lawful.2 in
      let one = frames_all (sites_of t) e.sent (known_from (sites_of t) e.sent (site_or_not t) (λ b out. none_sent t b out s v e lawful.0 lawful.1)) in
      let same = sum_same (λ b. length (sendings_of b (e ∷ es))) (λ b. length (frames_to b e.sent) + length (sendings_of b es)) (sites_of t) (λ b. length-append (frames_to b e.sent) (sendings_of b es)) in
      let plus = sum_over-plus (λ b. length (frames_to b e.sent)) (λ b. length (sendings_of b es)) (sites_of t) in
      omega (arith, more, one, same, plus)

  sendings_all : (s : ℕ) (es : List Entry) → IsLawful t s es → sum_over (λ b. length (sendings_of b es)) (sites_of t) ≡ in_entries sent_count es
  sendings_all s es lawful =
      let few = sendings_sum (sites_of t) es apart in
      let all = sendings_few s empty_state es lawful in
      omega (arith, few, all)

-- ---- each journal has its site

journals_few : (f : Entry → ℕ) (sites : List ℕ) (js : List Journal) → OneEach js → AllByRecursion (λ (j : Journal). Contains sites j.site) js → in_journals f js ≤ sum_over (λ a. in_entries f (journal_of js a)) sites
journals_few f sites [] one known = omega arith
journals_few f sites (j ∷ js) one known =
    let h = journals_few f sites js one.1 known.1 in
    let s = sum_in j.site (in_entries f j.entries) (λ a. in_entries f (journal_of (j ∷ js) a)) (λ a. in_entries f (journal_of js a)) sites known.0 (λ a. here a) in
    omega (arith, h, s)
  where
    here : (a : ℕ) → (if j.site == a then in_entries f j.entries else 0) + in_entries f (journal_of js a) ≤ in_entries f (journal_of (j ∷ js) a)
    here a = ⊎_elim
        (λ (e : j.site ≡ a).
        let b = ap (λ t. if t then in_entries f j.entries else 0) (eq-eqb j.site a e) in
        let m = ap (λ t. in_entries f (if t then j.entries else journal_of js a)) (eq-eqb j.site a e) in
        let z = ap (in_entries f) (ap (journal_of js) (sym e) ∙ journal_none j.site js one.0) in
        omega (arith, b, m, z))
        (λ (ne : j.site ≢ a).
        let b = ap (λ t. if t then in_entries f j.entries else 0) (ne_eqb j.site a ne) in
        let m = ap (λ t. in_entries f (if t then j.entries else journal_of js a)) (ne_eqb j.site a ne) in
        omega (arith, b, m))
        (cases_eq j.site a)

-- ---- what is sent less what is got is in transit

module _ (t : Topology) (js : List Journal) (set : IsSet t js) (apart : Apart (sites_of t)) (run : List WorldEvent) (is_run : IsRun t run) (come : ComesFrom (journal_of js) run) where
  journals_all : (f : Entry → ℕ) → sum_over (λ a. in_entries f (journal_of js a)) (sites_of t) ≡ in_journals f js
  journals_all f =
      let few = journals_sum f (sites_of t) js apart in
      let all = journals_few f (sites_of t) js (set_parts t js set).once (recursion_from_All (λ (j : Journal). Contains (sites_of t) j.site) js (set_parts t js set).known) in
      omega (arith, few, all)

  lawful_at : (s : ℕ) → IsLawful t s (journal_of js s)
  lawful_at s = subst (IsLawful t s) (come s) (is_run.lawful s)

  all_sent : sum_over (λ a. sum_over (λ b. length (sendings a b run)) (sites_of t)) (sites_of t) ≡ in_journals sent_count js
  all_sent =
      sum_same (λ a. sum_over (λ b. length (sendings a b run)) (sites_of t)) (λ a. in_entries sent_count (journal_of js a)) (sites_of t) (λ a.
      ap (λ es. sum_over (λ b. length (sendings_of b es)) (sites_of t)) (come a) ∙ sendings_all t apart a (journal_of js a) (lawful_at a))
      ∙ journals_all sent_count

  all_got : sum_over (λ a. sum_over (λ b. length (receipts a b run)) (sites_of t)) (sites_of t) ≡ in_journals got_count js
  all_got =
      sum_swap (λ a b. length (receipts a b run)) (sites_of t) (sites_of t)
      ∙ sum_same (λ b. sum_over (λ a. length (receipts a b run)) (sites_of t)) (λ b. in_entries got_count (journal_of js b)) (sites_of t) (λ b.
      ap (λ es. sum_over (λ a. length (receipts_of a es)) (sites_of t)) (come b) ∙ receipts_all t apart b empty_state (journal_of js b) (lawful_at b))
      ∙ journals_all got_count

  under_way_all : (a b : ℕ) → length (receipts a b run) + length (under_way a b run) ≡ length (sendings a b run)
  under_way_all a b =
      sym (length-append (receipts a b run) (under_way a b run))
      ∙ ap length (whole (receipts a b run) (sendings a b run) (is_run.in_order run (beginning_refl run) a b))

  pub transit_left : in_journals got_count js + in_transit t run ≡ in_journals sent_count js
  transit_left =
      let ss : List ℕ = sites_of t in
      let sent = all_sent in
      let got = all_got in
      let each : sum_over (λ a. sum_over (λ b. length (receipts a b run)) ss + sum_over (λ b. length (under_way a b run)) ss) ss ≡ sum_over (λ a. sum_over (λ b. length (sendings a b run)) ss) ss =
      sum_same (λ a. sum_over (λ b. length (receipts a b run)) ss + sum_over (λ b. length (under_way a b run)) ss) (λ a. sum_over (λ b. length (sendings a b run)) ss) ss (λ a.
      sym (sum_over-plus (λ b. length (receipts a b run)) (λ b. length (under_way a b run)) ss)
      ∙ sum_same (λ b. length (receipts a b run) + length (under_way a b run)) (λ b. length (sendings a b run)) ss (λ b. under_way_all a b)) in
      let plus = sum_over-plus (λ a. sum_over (λ b. length (receipts a b run)) ss) (λ a. sum_over (λ b. length (under_way a b run)) ss) ss in
      omega (arith, sent, got, each, plus)

-- ---- no count goes beyond its type

ones : (es : List Entry) → in_entries (λ e. 1) es ≡ length es
ones [] = refl
ones (e ∷ es) = let h = ones es in omega (arith, h)

all_ones : (js : List Journal) → in_journals (λ e. 1) js ≡ entry_count js
all_ones [] = refl
all_ones (j ∷ js) = let h = all_ones js in let o = ones j.entries in omega (arith, h, o)

got_few : (es : List Entry) → in_entries got_count es ≤ length es
got_few [] = omega arith
got_few (e ∷ es) = let h = got_few es in let o = one e.event in omega (arith, h, o)
  where
    one : (ev : Event) → got_by ev ≤ 1
    one (Ask asker targets) = omega arith
    one (Reply holder asker) = omega arith
    one (Start i) = omega arith
    one (Got a frame) = omega arith

record Bounded (js : List Journal) : Type 0 where
  events : entry_count js ≤ length js * 1000000
  sent : in_journals sent_count js ≤ length js * (1000000 * 2 ^ 32)
  got : in_journals got_count js ≤ length js * 1000000

bounded : (edition : Edition) (js : List Journal) → AllByRecursion (λ (j : Journal). AllByRecursion (IsWhole edition) j.entries) js → AllByRecursion (λ (j : Journal). length j.entries ≤ entry_limit) js → Bounded js
bounded edition [] whole short = record { events = omega arith; sent = omega arith; got = omega arith }
bounded edition (j ∷ js) whole short =
    let more = bounded edition js whole.1 short.1 in
    let events = more.events in let sent = more.sent in let got = more.got in
    let one : length j.entries ≤ 1000000 = short.0 in
    let frames = entries_sent edition j.entries whole.0 in
    let gets = got_few j.entries in
    record { events = omega (arith, events, one); sent = omega (arith, sent, one, frames); got = omega (arith, got, one, gets) }

-- as many tries as there are entries
pub tries_within : (js : List Journal) (tries : ℕ) → tries ≡ entry_count js → tries ≤ (entry_count js + 1) * length js
tries_within [] tries is = omega (arith, is)
tries_within (j ∷ js) tries is =
    let one : 1 ≤ suc (length js) = omega arith in
    let m = mul-le-mul_left (entry_count (j ∷ js) + 1) one in
    omega (arith, is, m)

-- ---- the report

module _ (t : Topology) (js : List Journal) (totals : Totals) (of_run : AreTotalsOfRun t js totals)
    (sites : List ℕ) (sites_are : sites ≡ sites_of t) (few : length sites ≤ 64) (ascending : IsStrictlyIncreasing sites) (each : EachEntryWhole t) where
  all_whole : AllByRecursion (λ (j : Journal). AllByRecursion (IsWhole t.edition) j.entries) js
  all_whole = recursion_from_All (λ (j : Journal). AllByRecursion (IsWhole t.edition) j.entries) js (λ k d l.
      let j : Journal = get_or js k d in
      each j.site j.entries (subst (IsLawful t j.site) (journal_here js k j (set_parts t js of_run.set).once l (get_or_default js k d j l))
      (subst (IsLawful t j.site) (of_run.comes.2 j.site) (of_run.comes.1.lawful j.site))))

  fits : Bounded js
  fits = bounded t.edition js all_whole (recursion_from_All (λ (j : Journal). length j.entries ≤ entry_limit) js of_run.limit)

  few_js : length js ≤ 64
  few_js = set_few t js sites sites_are few of_run.set

  pub events_are : totals.events ≡ entry_count js
  events_are =
      let b = fits.events in let n = few_js in let is = of_run.sums.events in let o = all_ones js in
      omega (arith, b, n, is, o)

  sent_are : totals.sent ≡ in_journals sent_count js
  sent_are = let b = fits.sent in let n = few_js in let is = of_run.sums.sent in omega (arith, b, n, is)

  got_are : totals.got ≡ in_journals got_count js
  got_are = let b = fits.got in let n = few_js in let is = of_run.sums.got in omega (arith, b, n, is)

  pub total_report : (tries : ℕ) (report : Report) → IsReportWith totals.waits totals.declared totals.events (totals.sent - totals.got) tries report →
      ((events : List WorldEvent) → IsRun t events → AsksAndReplies events) → ((events : List WorldEvent) → IsRun t events → DarkPath t events) →
      (run : List WorldEvent) → IsRun t run → ComesFrom (journal_of js) run → Reports t run report
  total_report tries report made take_turns dark_path run is_run come =
      let one = (set_parts t js of_run.set).once in
      let waits = waits_same t js run one is_run come (take_turns run is_run) report.waits (λ j k. (
        λ c. sym (of_run.sums.waits j k) ∙ (made.waits_are j k).0 c,
        λ h. (made.waits_are j k).1 (of_run.sums.waits j k ∙ h),
      )) in
      let declared = declared_same t js run one is_run come report.declared (subst (λ ds. (i : ℕ) → Contains ds i ↔ (0 < in_journals (declares i) js)) (sym made.declared_are) of_run.sums.declared) in
      let firsts = firsts_found report.waits report.declared report.cycles made.cycles_are (on_cycles t js run one is_run come (dark_path run is_run) report.waits report.declared waits declared) in
      let left = transit_left t js of_run.set (ascending_apart (sites_of t) (subst IsStrictlyIncreasing sites_are ascending)) run is_run come in
      let sent = sent_are in
      let got = got_are in
      let is = made.in_transit_is in
      let transit : report.in_transit ≡ in_transit t run = omega (arith, left, sent, got, is) in
      let drained = drained_iff t run is_run in
      record {
        waits = waits;
        declared = declared;
        cycles = λ i. cycles_to report.waits run waits (beside report.declared report.cycles i) i (Contains report.declared i) (declared i) (beside_is report.waits report.declared report.cycles i firsts);
        in_transit = transit ∙ sym (transit_is t run);
        drained = (λ none. drained.0 (sym transit ∙ none), λ all. transit ∙ drained.1 all);
      }
