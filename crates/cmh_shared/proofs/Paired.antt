-- Two lists of one length, place by place.
use Rattle.std.proofs.Common.{◌≡◌, ℕ, zero, suc, ◌<◌, List, [], ◌∷◌, ◌++◌, length, get_or, map, refl, ap, sym, subst, arith}
use Rattle.cmh_shared.specs.Backlogs.{AtEach, seen}
use Rattle.cmh_shared.specs.declared.link.Link.{Link as LinkFields}
use Rattle.std.specs.List.{AllZip}
use Rattle.cmh_shared.specs.Links.{AreFresh, IsTapOf, Link, Tap, ends_of}

pub at_each_paired : {X Y : Type 0} (R : X → Y → Type 0) (xs : List X) (ys : List Y) → AtEach R xs ys → AllZip R xs ys
at_each_paired R [] [] h = tt
at_each_paired R [] (y ∷ ys) h = absurd (omega (arith, h.0))
at_each_paired R (x ∷ xs) [] h = absurd (omega (arith, h.0))
at_each_paired R (x ∷ xs) (y ∷ ys) h =
    (h.1 0 x y (omega arith), at_each_paired R xs ys (omega (arith, h.0), λ k d e lt. h.1 (suc k) d e (omega arith)))

pub paired_at_each : {X Y : Type 0} (R : X → Y → Type 0) (xs : List X) (ys : List Y) → AllZip R xs ys → AtEach R xs ys
paired_at_each R [] [] h = (refl, λ k d e lt. absurd (omega arith))
paired_at_each R [] (y ∷ ys) h = absurd h
paired_at_each R (x ∷ xs) [] h = absurd h
paired_at_each {X} {Y} R (x ∷ xs) (y ∷ ys) h =
    let rest = paired_at_each R xs ys h.1 in
    (ap suc rest.0, each rest.1)
  where
    each : ((k : ℕ) (d : X) (e : Y) → k < length xs → R (get_or xs k d) (get_or ys k e)) → (k : ℕ) (d : X) (e : Y) → k < length (x ∷ xs) → R (get_or (x ∷ xs) k d) (get_or (y ∷ ys) k e)
    each below zero d e lt = h.0
    each below (suc k) d e lt = below k d e (omega arith)

-- what is seen of the first of each pair
pub firsts_seen : {F Y : Type 0} (R : Link F → Y → Type 0) (xs : List (LinkFields F)) (ys : List Y) → AllZip (λ a b. R (seen a) b) xs ys → AllZip R (map seen xs) ys
firsts_seen R [] [] h = tt
firsts_seen R [] (y ∷ ys) h = absurd h
firsts_seen R (x ∷ xs) [] h = absurd h
firsts_seen R (x ∷ xs) (y ∷ ys) h = (h.0, firsts_seen R xs ys h.1)

pub firsts_fields : {F Y : Type 0} (R : Link F → Y → Type 0) (xs : List (LinkFields F)) (ys : List Y) → AllZip R (map seen xs) ys → AllZip (λ a b. R (seen a) b) xs ys
firsts_fields R [] [] h = tt
firsts_fields R [] (y ∷ ys) h = absurd h
firsts_fields R (x ∷ xs) [] h = absurd h
firsts_fields R (x ∷ xs) (y ∷ ys) h = (h.0, firsts_fields R xs ys h.1)

-- what is seen of both
pub both_seen : {F : Type 0} (R : Link F → Link F → Type 0) (xs ys : List (LinkFields F)) → AtEach (λ a b. R (seen a) (seen b)) xs ys → AllZip R (map seen xs) (map seen ys)
both_seen {F} R xs ys h = of xs ys (at_each_paired (λ a b. R (seen a) (seen b)) xs ys h)
  where
    of : (xs ys : List (LinkFields F)) → AllZip (λ a b. R (seen a) (seen b)) xs ys → AllZip R (map seen xs) (map seen ys)
    of [] [] h = tt
    of [] (y ∷ ys) h = absurd h
    of (x ∷ xs) [] h = absurd h
    of (x ∷ xs) (y ∷ ys) h = (h.0, of xs ys h.1)

-- what is seen of each is a function of what was seen of it
pub all_changed : {F : Type 0} (f : Link F → Link F) (xs ys : List (LinkFields F)) → AtEach (λ a b. seen b ≡ f (seen a)) xs ys → map seen ys ≡ map f (map seen xs)
all_changed {F} f xs ys h = of xs ys (at_each_paired (λ a b. seen b ≡ f (seen a)) xs ys h)
  where
    of : (xs ys : List (LinkFields F)) → AllZip (λ a b. seen b ≡ f (seen a)) xs ys → map seen ys ≡ map f (map seen xs)
    of [] [] h = refl
    of [] (y ∷ ys) h = absurd h
    of (x ∷ xs) [] h = absurd h
    of (x ∷ xs) (y ∷ ys) h =
        let first : seen y ≡ f (seen x) = h.0 in
        let rest : map seen ys ≡ map f (map seen xs) = of xs ys h.1 in
        cc

pub all_same : {F : Type 0} (xs ys : List (LinkFields F)) → AtEach (λ a b. seen b ≡ seen a) xs ys → map seen ys ≡ map seen xs
all_same {F} xs ys h = of xs ys (at_each_paired (λ a b. seen b ≡ seen a) xs ys h)
  where
    of : (xs ys : List (LinkFields F)) → AllZip (λ a b. seen b ≡ seen a) xs ys → map seen ys ≡ map seen xs
    of [] [] h = refl
    of [] (y ∷ ys) h = absurd h
    of (x ∷ xs) [] h = absurd h
    of (x ∷ xs) (y ∷ ys) h =
        let first : seen y ≡ seen x = h.0 in
        let rest : map seen ys ≡ map seen xs = of xs ys h.1 in
        cc

-- one pair more at the end
pub paired_behind : {X Y : Type 0} (R : X → Y → Type 0) (xs : List X) (ys : List Y) (x : X) (y : Y) → AllZip R xs ys → R x y → AllZip R (xs ++ x ∷ []) (ys ++ y ∷ [])
paired_behind R [] [] x y h r = (r, tt)
paired_behind R [] (b ∷ ys) x y h r = absurd h
paired_behind R (a ∷ xs) [] x y h r = absurd h
paired_behind R (a ∷ xs) (b ∷ ys) x y h r = (h.0, paired_behind R xs ys x y h.1 r)

pub ends_behind : {F : Type 0} (xs : List (LinkFields F)) (x : LinkFields F) → ends_of (map seen (xs ++ x ∷ [])) ≡ ends_of (map seen xs) ++ x.to ∷ []
ends_behind [] x = refl
ends_behind (a ∷ xs) x = ap (λ (sites : List ℕ). a.to ∷ sites) (ends_behind xs x)

-- within a list the default is not looked at
any_default : {A : Type 0} (xs : List A) (k : ℕ) (d e : A) → k < length xs → get_or xs k d ≡ get_or xs k e
any_default [] k d e h = absurd (omega arith)
any_default (x ∷ xs) zero d e h = refl
any_default (x ∷ xs) (suc k) d e h = any_default xs k d e (omega arith)

-- with one default for both
pub at_each_alike : {X : Type 0} (R : X → X → Type 0) (xs ys : List X) → length ys ≡ length xs → ((k : ℕ) (d : X) → k < length xs → R (get_or xs k d) (get_or ys k d)) → AtEach R xs ys
at_each_alike {X} R xs ys count h = (count, λ k d e lt. subst (λ (y : X). R (get_or xs k d) y) (any_default ys k d e (omega (arith, count))) (h k d lt))

-- fresh taps are taps
pub fresh_taps : {F : Type 0} (links : List (Link F)) (taps : List (Tap F)) → AllZip AreFresh links taps → AllZip IsTapOf links taps
fresh_taps [] [] h = tt
fresh_taps [] (tap ∷ taps) h = absurd h
fresh_taps (link ∷ links) [] h = absurd h
fresh_taps {F} (link ∷ links) (tap ∷ taps) h =
    (record { to = ap (λ (l : Link F). l.to) (sym h.0.link_is); ring = ap (λ (l : Link F). l.ring) (sym h.0.link_is) }, fresh_taps links taps h.1)
