-- Lines that name sites.
use Rattle.std.proofs.Common.{◌≡◌, ◌≢◌, ℕ, List, [], ◌∷◌, sym, subst, ◌∙◌}
use Rattle.cmh_console.specs.Front.{Begins, BeginsNone}
use Rattle.cmh_talk3.specs.Said.{NamesNumber}
use Rattle.cmh_cluster3.specs.Lines.{NamesLink, OrdersNothing, link_word, site_word}
use Rattle.cmh_cluster3.specs.declared.line.ClusterLine.TheVariants.{Silent, Bad, Deed, OfProcess, OfSite, OfLink}
use Rattle.cmh_cluster3.specs.declared.line.LinkOrder.{LinkOrder}
use Rattle.cmh_cluster3.specs.declared.line.SiteOrder.{SiteOrder}

-- the words behind the first one are known
same_behind : {X : Type 0} {a b : X} {xs ys : List X} → a ∷ xs ≡ b ∷ ys → xs ≡ ys
same_behind e = cc

same_first : {X : Type 0} {a b : X} {xs ys : List X} → a ∷ xs ≡ b ∷ ys → a ≡ b
same_first e = cc

not_empty : {X : Type 0} {a : X} {xs : List X} → [] ≡ a ∷ xs → ⊥
not_empty e = cc

-- one number begins words, and these are left
one_left : (words left rest : List (List ℕ)) (a b : ℕ) → Begins words a left → Begins words b rest → left ≡ rest
one_left words left rest a b one other = same_behind (sym one.words_are ∙ other.words_are)

-- ---- a word, and a number

module _ (words : List (List ℕ)) (name : List ℕ) (number : ℕ) (names : NamesNumber name words number) where
  pub no_word : words ≡ [] → ⊥
  no_word none = not_empty (sym none ∙ names.words_are)

  module _ (first : List ℕ) (behind : List (List ℕ)) (is : words ≡ first ∷ behind) where
    same : names.behind ≡ behind
    same = same_behind (sym names.words_are ∙ is)

    pub other_word : (first ≢ name) → ⊥
    other_word other = other (same_first (sym is ∙ names.words_are))

    pub no_number : BeginsNone behind → ⊥
    no_number none = none number [] (subst (λ (ws : List (List ℕ)). Begins ws number []) same names.begins)

    pub more_behind : (left : List (List ℕ)) (a : ℕ) → Begins behind a left → (left ≢ []) → ⊥
    more_behind left a begins more =
        more (one_left behind left [] a number begins (subst (λ (ws : List (List ℕ)). Begins ws number []) same names.begins))

-- ---- a word, and two numbers

module _ (words : List (List ℕ)) (name : List ℕ) (from to : ℕ) (names : NamesLink name words from to) where
  pub no_link_word : words ≡ [] → ⊥
  no_link_word none = not_empty (sym none ∙ names.words_are)

  module _ (first : List ℕ) (behind : List (List ℕ)) (is : words ≡ first ∷ behind) where
    begins_there : Begins behind from names.last
    begins_there = subst (λ (ws : List (List ℕ)). Begins ws from names.last) (same_behind (sym names.words_are ∙ is)) names.begins

    pub other_link_word : (first ≢ name) → ⊥
    other_link_word other = other (same_first (sym is ∙ names.words_are))

    pub no_from : BeginsNone behind → ⊥
    no_from none = none from names.last begins_there

    module _ (left : List (List ℕ)) (a : ℕ) (begins : Begins behind a left) where
      ends_there : Begins left to []
      ends_there = subst (λ (ws : List (List ℕ)). Begins ws to []) (one_left behind names.last left from a begins_there begins) names.ends

      pub no_to : BeginsNone left → ⊥
      no_to none = none to [] ends_there

      pub more_behind_link : (rest : List (List ℕ)) (b : ℕ) → Begins left b rest → (rest ≢ []) → ⊥
      more_behind_link rest b last more = more (one_left left rest [] b to last ends_there)

pub orders_nothing : (words : List (List ℕ)) → ((order : SiteOrder) (site : ℕ) → NamesNumber (site_word order) words site → ⊥)
    → ((order : LinkOrder) (from to : ℕ) → NamesLink (link_word order) words from to → ⊥) → OrdersNothing words
orders_nothing words no_site no_link Silent orders = absurd orders
orders_nothing words no_site no_link Bad orders = absurd orders
orders_nothing words no_site no_link (Deed deed) orders = absurd orders
orders_nothing words no_site no_link (OfProcess process question) orders = absurd orders
orders_nothing words no_site no_link (OfSite order site) orders = no_site order site orders
orders_nothing words no_site no_link (OfLink order from to) orders = no_link order from to orders
