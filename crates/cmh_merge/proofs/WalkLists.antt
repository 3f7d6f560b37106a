-- One walk of a list is replaced.
use Rattle.std.proofs.Common.{◌≡◌, ℕ, ◌<◌, Bool, true, false, List, [], length, set, get_or, ap, sym, ◌∙◌}
use Rattle.std.specs.Prelude.{MatchBool}
use Rattle.std.proofs.lemmas.List.{get_or-map, length-map, map-set}
use Rattle.std.proofs.Math.Seq.{map-set_same}
use Rattle.cmh_merge.specs.declared.walk.SiteWalk.{SiteWalk}
use Rattle.cmh_merge.specs.Walks.{lefts_of, sites_of}

module _ {W L : Type 0} (left : W → List L) (xs : List (SiteWalk W)) (k : ℕ) (w : SiteWalk W) (l : k < length xs) (is : get_or xs k w ≡ w) where
  pub site_is : get_or (sites_of xs) k 0 ≡ w.site
  site_is = get_or-map (λ (w : SiteWalk W). w.site) xs k w 0 l ∙ ap (λ (w : SiteWalk W). w.site) is

  pub left_is : get_or (lefts_of left xs) k [] ≡ left w.walk
  left_is = get_or-map (λ (w : SiteWalk W). left w.walk) xs k w [] l ∙ ap (λ (w : SiteWalk W). left w.walk) is

  module _ (walk : W) where
    pub same_sites : sites_of (set xs k (record { site = w.site; walk = walk })) ≡ sites_of xs
    same_sites = map-set_same (λ (w : SiteWalk W). w.site) xs k (record { site = w.site; walk = walk }) w (ap (λ (w : SiteWalk W). w.site) (sym is))

    pub same_lefts : left walk ≡ left w.walk → lefts_of left (set xs k (record { site = w.site; walk = walk })) ≡ lefts_of left xs
    same_lefts same = map-set_same (λ (w : SiteWalk W). left w.walk) xs k (record { site = w.site; walk = walk }) w (same ∙ ap (λ (w : SiteWalk W). left w.walk) (sym is))

    pub set_left : lefts_of left (set xs k (record { site = w.site; walk = walk })) ≡ set (lefts_of left xs) k (left walk)
    set_left = map-set (λ (w : SiteWalk W). left w.walk) xs k (record { site = w.site; walk = walk })

pub length_lefts : {W L : Type 0} (left : W → List L) (xs : List (SiteWalk W)) → length (lefts_of left xs) ≡ length xs
length_lefts left xs = length-map xs (λ w. left w.walk)

pub length_sites : {W : Type 0} (xs : List (SiteWalk W)) → length (sites_of xs) ≡ length xs
length_sites xs = length-map xs (λ w. w.site)

pub if_true : (A B : Type 0) (r : Bool) → r ≡ true → MatchBool r A B → A
if_true A B true is h = h
if_true A B false is h = absurd (cc is)

pub if_false : (A B : Type 0) (r : Bool) → r ≡ false → MatchBool r A B → B
if_false A B true is h = absurd (cc is)
if_false A B false is h = h
