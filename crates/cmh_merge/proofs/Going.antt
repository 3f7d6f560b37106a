-- A merge goes on, entry by entry.
use Rattle.std.proofs.Common.{◌≡◌, ℕ, ◌+◌, ◌<◌, ◌≤◌, Bool, true, false, ◌||◌, List, [], ◌∷◌, ◌++◌, length, set, inl, inr, sym, ap, subst, subst₂, refl, ◌∙◌, append_assoc, append-nil, arith, length-set}
use Rattle.std.proofs.lemmas.Bool.{cases_eq}
use Rattle.std.proofs.lemmas.List.{get_or-set_same}
use Rattle.cmh_runs.specs.declared.entry.Entry.{Entry}
use Rattle.cmh_runs.specs.declared.entry.WorldEvent.{WorldEvent}
use Rattle.cmh_runs.specs.Runs.{IsBeginningOf, entries_of, receipts, sendings}
use Rattle.cmh_runs.proofs.Beginnings.{beginning_nil, beginning_push}
use Rattle.cmh_runs.proofs.Journals.{entries_elsewhere, entries_here, entries_of-append, got_on, receipts-more, sendings-more, sent_on}
use Rattle.cmh_merge.specs.Queues.{Queues, waiting}
use Rattle.cmh_merge.specs.Merges.{AreDistinct, journal_of}
use Rattle.cmh_merge.specs.Inner.Merging.{GoesOn, IsMerging, StuckAt, TakesAt, site_at, total}
use Rattle.cmh_merge.proofs.SiteLists.{journal_at, journal_elsewhere, map_push, total-set}

module _ {E F : Type 0} (got : ℕ → E → List F) (sites : List ℕ) where
  -- ---- one entry is taken

  module _ (k : ℕ) (left left' : List (List (Entry E F))) (old new : Queues F) (order order' : List ℕ) (t : TakesAt got sites k left left' old new order order')
      (first : ℕ → ℕ → List F) (journals : List (List (Entry E F))) (distinct : AreDistinct sites) (long : length left ≡ length sites) (l : k < length left) (m : IsMerging got sites first journals left old order) where
    abbrev entry : Entry E F
    entry = t.takes.0

    abbrev member : WorldEvent E F
    member = record { site = site_at sites k; entry = t.takes.0 }

    inside : k < length sites
    inside = omega (arith, l, long)

    under_way_more : (a b : ℕ) → receipts got a b (m.events ++ member ∷ []) ++ waiting new a b ≡ first a b ++ sendings a b (m.events ++ member ∷ [])
    under_way_more a b =
        ap (λ z. z ++ waiting new a b) (receipts-more got a b m.events member)
        ∙ append_assoc (receipts got a b m.events) (got_on got a b member) (waiting new a b)
        ∙ ap (λ z. receipts got a b m.events ++ z) (t.takes.2 a b)
        ∙ sym (append_assoc (receipts got a b m.events) (waiting old a b) (sent_on a b member))
        ∙ ap (λ z. z ++ sent_on a b member) (m.under_way a b)
        ∙ append_assoc (first a b) (sendings a b m.events) (sent_on a b member)
        ∙ ap (λ z. first a b ++ z) (sym (sendings-more a b m.events member))

    in_order_more : (so_far : List (WorldEvent E F)) → IsBeginningOf so_far (m.events ++ member ∷ []) → (a b : ℕ) → IsBeginningOf (receipts got a b so_far) (first a b ++ sendings a b so_far)
    in_order_more so_far begins a b = elim (beginning_push so_far m.events member begins) [
      | inl front ↦ m.in_order so_far front a b
      | inr all ↦ subst (λ z. IsBeginningOf (receipts got a b z) (first a b ++ sendings a b z)) (sym all) (waiting new a b, under_way_more a b)
    ]

    left_here : journal_of sites left (site_at sites k) ≡ entry ∷ t.rest
    left_here = journal_at sites left k distinct long inside ∙ t.takes.1

    rest_here : journal_of sites left' (site_at sites k) ≡ t.rest
    rest_here =
        ap (λ z. journal_of sites z (site_at sites k)) t.left_is
        ∙ journal_at sites (set left k t.rest) k distinct (length-set left k t.rest ∙ long) inside
        ∙ get_or-set_same left k t.rest [] l

    rest_more : (x : ℕ) → entries_of x (m.events ++ member ∷ []) ++ journal_of sites left' x ≡ journal_of sites journals x
    rest_more x = elim (cases_eq (site_at sites k) x) [
      | inl here ↦
          ap (λ z. z ++ journal_of sites left' x) (entries_of-append x m.events (member ∷ []) ∙ ap (λ z. entries_of x m.events ++ z) (entries_here x member [] here))
          ∙ append_assoc (entries_of x m.events) (entry ∷ []) (journal_of sites left' x)
          ∙ ap (λ z. entries_of x m.events ++ entry ∷ z) (ap (journal_of sites left') (sym here) ∙ rest_here)
          ∙ ap (λ z. entries_of x m.events ++ z) (sym left_here ∙ ap (journal_of sites left) here)
          ∙ m.rest x
      | inr far ↦
          ap (λ z. z ++ journal_of sites left' x) (entries_of-append x m.events (member ∷ []) ∙ ap (λ z. entries_of x m.events ++ z) (entries_elsewhere x member [] far) ∙ append-nil (entries_of x m.events))
          ∙ ap (λ z. entries_of x m.events ++ z) (ap (λ z. journal_of sites z x) t.left_is ∙ journal_elsewhere sites left k t.rest x inside far)
          ∙ m.rest x
    ]

    pub merging_more : IsMerging got sites first journals left' new order'
    merging_more = record {
      events = m.events ++ member ∷ [];
      in_turn = map_push (λ (e : WorldEvent E F). e.site) m.events member ∙ ap (λ z. z ++ site_at sites k ∷ []) m.in_turn ∙ sym t.order_is;
      in_order = in_order_more;
      under_way = under_way_more;
      rest = rest_more;
    }

  pub goes_one : (k : ℕ) (left left' : List (List (Entry E F))) (old new : Queues F) (order order' : List ℕ) → k < length left
      → TakesAt got sites k left left' old new order order' → GoesOn got sites true left left' old new order order'
  goes_one k left left' old new order order' l t = record {
    long = ap length t.left_is ∙ length-set left k t.rest;
    leads = λ first journals distinct long m. merging_more k left left' old new order order' t first journals distinct long l m;
    less =
        let more = total-set left k t.rest l in
        let is = ap length t.takes.1 in
        let same = ap total t.left_is in
        omega (arith, more, is, same);
  }

  -- ---- one step after another

  pub goes_first : (left : List (List (Entry E F))) (queues : Queues F) (order : List ℕ) → GoesOn got sites false left left queues queues order order
  goes_first left queues order = record { long = refl; leads = λ first journals distinct long m. m; less = (refl, refl, refl) }

  pub goes_on : (moved : Bool) (a b c : List (List (Entry E F))) (x y z : Queues F) (p q r : List ℕ) → GoesOn got sites moved a b x y p q → GoesOn got sites true b c y z q r → GoesOn got sites true a c x z p r
  goes_on moved a b c x y z p q r early next = record {
    long = next.long ∙ early.long;
    leads = λ first journals distinct long m. next.leads first journals distinct (early.long ∙ long) (early.leads first journals distinct long m);
    less = let f = most moved early in let n = next.less in omega (arith, f, n);
  }
    where
      most : (moved : Bool) → GoesOn got sites moved a b x y p q → total b ≤ total a
      most true g = let h = g.less in omega (arith, h)
      most false g = let h = ap total g.less.0 in omega (arith, h)

  pub goes_no_further : (moved : Bool) (a b c : List (List (Entry E F))) (x y z : Queues F) (p q r : List ℕ) → GoesOn got sites moved a b x y p q → GoesOn got sites false b c y z q r → GoesOn got sites moved a c x z p r
  goes_no_further true a b c x y z p q r early next = record {
    long = next.long ∙ early.long;
    leads = λ first journals distinct long m. next.leads first journals distinct (early.long ∙ long) (early.leads first journals distinct long m);
    less = let f = early.less in let n = ap total next.less.0 in omega (arith, f, n);
  }
  goes_no_further false a b c x y z p q r early next = record {
    long = next.long ∙ early.long;
    leads = λ first journals distinct long m. next.leads first journals distinct (early.long ∙ long) (early.leads first journals distinct long m);
    less = (next.less.0 ∙ early.less.0, next.less.1 ∙ early.less.1, next.less.2 ∙ early.less.2);
  }

  pub goes_both : (moved more : Bool) (a b c : List (List (Entry E F))) (x y z : Queues F) (p q r : List ℕ) → GoesOn got sites moved a b x y p q → GoesOn got sites more b c y z q r → GoesOn got sites (moved || more) a c x z p r
  goes_both true true a b c x y z p q r first next = goes_on true a b c x y z p q r first next
  goes_both false true a b c x y z p q r first next = goes_on false a b c x y z p q r first next
  goes_both true false a b c x y z p q r first next = goes_no_further true a b c x y z p q r first next
  goes_both false false a b c x y z p q r first next = goes_no_further false a b c x y z p q r first next

  -- the sites before a place and the site there are stuck, where none moved
  pub stuck_both : (moved more : Bool) (a b : List (List (Entry E F))) (x y : Queues F) (p q : List ℕ) (n : ℕ) → GoesOn got sites more a b x y p q
      → (moved ≡ false → (k : ℕ) → k < n → StuckAt got sites a x k) → StuckAt got sites b y n → (moved || more) ≡ false → (k : ℕ) → k < n + 1 → StuckAt got sites b y k
  stuck_both true more a b x y p q n goes before here none k l = absurd (cc none)
  stuck_both false true a b x y p q n goes before here none k l = absurd (cc none)
  stuck_both false false a b x y p q n goes before here none k l = elim (cases_eq k n) [
    | inl last ↦ subst (StuckAt got sites b y) (sym last) here
    | inr other ↦ subst₂ (λ z w. StuckAt got sites z w k) (sym goes.less.0) (sym goes.less.1) (before refl k (omega (arith, l, other)))
  ]

  -- ---- the start

  pub merging_start : (journals : List (List (Entry E F))) (queues : Queues F) → IsMerging got sites (waiting queues) journals journals queues []
  merging_start journals queues = record {
    events = [];
    in_turn = refl;
    in_order = λ so_far begins a b. none so_far begins.0 begins.1 a b;
    under_way = λ a b. sym (append-nil (waiting queues a b));
    rest = λ s. refl;
  }
    where
      none : (so_far rest : List (WorldEvent E F)) → so_far ++ rest ≡ [] → (a b : ℕ) → IsBeginningOf (receipts got a b so_far) (waiting queues a b ++ sendings a b so_far)
      none [] rest h a b = beginning_nil _
      none (x ∷ xs) rest h a b = absurd (cc h)
