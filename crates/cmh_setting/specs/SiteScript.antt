-- What a line says to running sites: `ask`, `reply` and `start` as in every script, and what else they are asked.
use Rattle.std.specs.Prelude.{◌≡◌, ◌≢◌, ℕ, List, [], ◌∷◌, codes}
use Rattle.cmh_console.specs.Script.{Says}
use Rattle.cmh_console.specs.Words.{IsNumeral, decimal, words_of}
use Rattle.cmh_setting.specs.declared.site_script.ClusterLine.{ClusterLine}
use Rattle.cmh_setting.specs.declared.site_script.ClusterLine.TheVariants.{Declared as DeclaredOf, Event as ClusterEvent}
use Rattle.cmh_setting.specs.declared.site_script.Order.{Order}
use Rattle.cmh_setting.specs.declared.site_script.Order.TheVariants.{Declared, Connect, Links, Quit}
use Rattle.cmh_setting.specs.declared.site_script.SiteLine.{SiteLine}
use Rattle.cmh_setting.specs.declared.site_script.SiteLine.TheVariants.{Order as SiteOrder, Event as SiteEvent}

abbrev pub order_name : Order → List ℕ
order_name Declared = codes "declared"
order_name Connect = codes "connect"
order_name Links = codes "links"
order_name Quit = codes "quit"

abbrev pub SaysToSite : List ℕ → SiteLine → Type 0
SaysToSite bytes (SiteOrder order) = words_of bytes ≡ order_name order ∷ []
SaysToSite bytes (SiteEvent said) = ((order : Order) → words_of bytes ≢ order_name order ∷ []) × Says bytes said

-- the words ask for the declarations of the site with this number
abbrev pub NamesSite : List (List ℕ) → ℕ → Type 0
NamesSite words site = (word : List ℕ) × (words ≡ codes "declared" ∷ word ∷ []) × IsNumeral word × (decimal word ≡ site)

abbrev pub SaysToCluster : List ℕ → ClusterLine → Type 0
SaysToCluster bytes (DeclaredOf site) = NamesSite (words_of bytes) site
SaysToCluster bytes (ClusterEvent said) = ((site : ℕ) → NamesSite (words_of bytes) site → ⊥) × Says bytes said
