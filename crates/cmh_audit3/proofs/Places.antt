-- The stop of a site, by the place of its segment.
use Rattle.std.proofs.Common.{◌≡◌, ℕ, zero, suc, ◌+◌, ◌-◌, ◌<◌, ◌==◌, false, List, [], ◌∷◌, ◌++◌, length, take, map, get_or, if◌then◌else◌, Option, None, Some, refl, sym, ap, ◌∙◌, arith, append_assoc, append-nil}
use Rattle.std.specs.Option.{option_to_list}
use Rattle.std.proofs.lemmas.Bool.{eq-eqb, or_from, or_parts, le-ltb}
use Rattle.std.proofs.lemmas.List.{get_or-map, length-map, take_more}
use Rattle.cmh_merge.specs.Merges as merge
use Rattle.cmh_merge.specs.Walks.{lefts_of}
use Rattle.cmh_merge.specs.declared.walk.SiteWalk.{SiteWalk}
use Rattle.cmh_model3.specs.Entries as model
use Rattle.cmh_segment3.specs.declared.entry.Entry.{Entry}
use Rattle.cmh_segment3.specs.declared.segment.Segment.{Segment}
use Rattle.cmh_segment3.specs.Entries.{step_of}
use Rattle.cmh_audit3.specs.declared.stops.Stop.{Stop}
use Rattle.cmh_audit3.specs.Journals.{journal_of}
use Rattle.cmh_audit3.specs.Set.{has_site, sites_in}
use Rattle.cmh_audit3.specs.Inner.Survey.{left_at, limit_at, reason_of, stop_at, stop_of, stops_at}
use Rattle.cmh_audit3.proofs.Surveys.{none_there}

-- at the first place of a site stand its entries, its limit and what is left of it
record At (gs : List Segment) (ns : List ℕ) (lefts : List (List model.Entry)) (s k : ℕ) (g : Segment) : Type 0 where
  journal : journal_of gs s ≡ g.entries
  limit : limit_at gs ns s ≡ get_or ns k 0
  left : merge.journal_of (sites_in gs) lefts s ≡ get_or lefts k []

at_place : (gs : List Segment) (ns : List ℕ) (lefts : List (List model.Entry)) (k s : ℕ) (g : Segment) → length ns ≡ length gs → length lefts ≡ length gs → k < length gs → g ≡ get_or gs k g → g.header.site ≡ s → has_site (sites_in (take k gs)) s ≡ false → At gs ns lefts s k g
at_place [] ns lefts k s g a b l is here none = absurd (omega (arith, l))
at_place (x ∷ gs) [] lefts k s g a b l is here none = absurd (omega (arith, a))
at_place (x ∷ gs) (n ∷ ns) [] k s g a b l is here none = absurd (omega (arith, b))
at_place (x ∷ gs) (n ∷ ns) (y ∷ lefts) zero s g a b l is here none =
    let yes' = eq-eqb x.header.site s (ap (λ (h : Segment). h.header.site) (sym is) ∙ here) in
    record {
      journal = ap (λ z. if z then x.entries else journal_of gs s) yes' ∙ ap (λ (h : Segment). h.entries) (sym is);
      limit = ap (λ z. if z then n else limit_at gs ns s) yes';
      left = ap (λ z. if z then y else merge.journal_of (sites_in gs) lefts s) yes';
    }
at_place (x ∷ gs) (n ∷ ns) (y ∷ lefts) (suc k) s g a b l is here none =
    let parts = or_parts (x.header.site == s) (has_site (sites_in (take k gs)) s) none in
    let a' : suc (length ns) ≡ suc (length gs) = a in
    let b' : suc (length lefts) ≡ suc (length gs) = b in
    let later = at_place gs ns lefts k s g (omega (arith, a')) (omega (arith, b')) (omega (arith, l)) is here parts.1 in
    record {
      journal = ap (λ z. if z then x.entries else journal_of gs s) parts.0 ∙ later.journal;
      limit = ap (λ z. if z then n else limit_at gs ns s) parts.0 ∙ later.limit;
      left = ap (λ z. if z then y else merge.journal_of (sites_in gs) lefts s) parts.0 ∙ later.left;
    }

abbrev pub lefts_in : List (SiteWalk (List Entry)) → List (List model.Entry)
lefts_in walks = lefts_of (λ (w : List Entry). map step_of w) walks

pub stop_found :
    (gs : List Segment) (ns : List ℕ) (walks : List (SiteWalk (List Entry))) (k s : ℕ) (g : Segment) (w : SiteWalk (List Entry)) → length ns ≡ length gs → length walks ≡ length gs → k < length gs
    → g ≡ get_or gs k g → w ≡ get_or walks k w → g.header.site ≡ s → has_site (sites_in (take k gs)) s ≡ false
    → stop_of s (get_or ns k 0) (length w.walk) (length g.entries) ≡ stop_at gs ns (lefts_in walks) s
stop_found gs ns walks k s g w a b l is is_walk here none =
    let at = at_place gs ns (lefts_in walks) k s g a (length-map walks (λ (x : SiteWalk (List Entry)). map step_of x.walk) ∙ b) l is here none in
    let left : left_at gs (lefts_in walks) s ≡ length w.walk =
    ap length (at.left ∙ get_or-map (λ (x : SiteWalk (List Entry)). map step_of x.walk) walks k w [] (omega (arith, b, l)) ∙ ap (λ (x : SiteWalk (List Entry)). map step_of x.walk) (sym is_walk)) ∙ length-map w.walk step_of in
    λ i. stop_of s (sym at.limit i) (sym left i) (length (sym at.journal i))

pub no_stop : (gs : List Segment) (ns : List ℕ) (lefts : List (List model.Entry)) (s : ℕ) → has_site (sites_in gs) s ≡ false → None ≡ stop_at gs ns lefts s
no_stop gs ns lefts s none =
    let nothing : length (journal_of gs s) ≡ 0 = ap length (none_there gs s none) in
    sym (ap (λ z. if z then Some (record { site = s; entry = limit_at gs ns s - left_at gs lefts s + 1; reason = reason_of (left_at gs lefts s) }) else None)
    (le-ltb (limit_at gs ns s - left_at gs lefts s) (length (journal_of gs s)) (omega (arith, nothing))))

-- one place more without the site
has_more : (gs : List Segment) (s : ℕ) (g : Segment) → has_site (sites_in gs) s ≡ false → (g.header.site == s) ≡ false → has_site (sites_in (gs ++ g ∷ [])) s ≡ false
has_more [] s g none no' = or_from (g.header.site == s) false no' refl
has_more (x ∷ gs) s g none no' =
    let parts = or_parts (x.header.site == s) (has_site (sites_in gs) s) none in
    or_from (x.header.site == s) (has_site (sites_in (gs ++ g ∷ [])) s) parts.0 (has_more gs s g parts.1 no')

pub none_more : (gs : List Segment) (k s : ℕ) (g : Segment) → k < length gs → g ≡ get_or gs k g → has_site (sites_in (take k gs)) s ≡ false → (g.header.site == s) ≡ false → has_site (sites_in (take (k + 1) gs)) s ≡ false
none_more gs k s g l is none no' = ap (λ l. has_site (sites_in l) s) (take_more gs k g l ∙ ap (λ y. take k gs ++ y ∷ []) (sym is)) ∙ has_more (take k gs) s g none no'

-- ---- the stops of sites

stops-append : (f : ℕ → Option Stop) (xs ys : List ℕ) → stops_at f (xs ++ ys) ≡ stops_at f xs ++ stops_at f ys
stops-append f [] ys = refl
stops-append f (x ∷ xs) ys = ap (λ l. option_to_list (f x) ++ l) (stops-append f xs ys) ∙ sym (append_assoc (option_to_list (f x)) (stops_at f xs) (stops_at f ys))

-- one site more
pub stops_grow : (f : ℕ → Option Stop) (sites : List ℕ) (i site : ℕ) (rows : List Stop) (o : Option Stop) → i < length sites → site ≡ get_or sites i site → o ≡ f site → rows ≡ stops_at f (take i sites)
    → rows ++ option_to_list o ≡ stops_at f (take (i + 1) sites)
stops_grow f sites i site rows o l is found so_far =
    ap (λ r. r ++ option_to_list o) so_far ∙ ap (λ p. stops_at f (take i sites) ++ option_to_list p) found
    ∙ ap (λ r. stops_at f (take i sites) ++ r) (sym (append-nil (option_to_list (f site))))
    ∙ sym (stops-append f (take i sites) (site ∷ [])) ∙ ap (stops_at f) (ap (λ y. take i sites ++ y ∷ []) is ∙ sym (take_more sites i site l))
