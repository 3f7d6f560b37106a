-- What a line of a cluster's script says: what is done with a site or a link, or what it says to a running site of events and
-- of processes.
use Rattle.std.specs.Prelude.{◌≡◌, ◌⊎◌, ℕ, List, [], ◌∷◌, codes, Option, None, Some}
use Rattle.cmh_console.specs.Dialogue as dialogue
use Rattle.cmh_console.specs.Front.{Begins}
use Rattle.cmh_console.specs.Words.{words_of}
use Rattle.cmh_console.specs.declared.lines.NextLine.{NextLine}
use Rattle.cmh_talk3.specs.Said.{NamesNumber, SaysToSite}
use Rattle.cmh_talk3.specs.declared.deed.Question.{Question as TheQuestion}
use Rattle.cmh_talk3.specs.declared.deed.Question.TheVariants as asks
use Rattle.cmh_talk3.specs.declared.said.Said.{Said}
use Rattle.cmh_talk3.specs.declared.said.Said.TheVariants as saying
use Rattle.cmh_cluster3.specs.declared.line.ClusterLine.{ClusterLine}
use Rattle.cmh_cluster3.specs.declared.line.ClusterLine.TheVariants.{Silent, Bad, Deed, OfProcess, OfSite, OfLink}
use Rattle.cmh_cluster3.specs.declared.line.LinkOrder.{LinkOrder}
use Rattle.cmh_cluster3.specs.declared.line.LinkOrder.TheVariants as links
use Rattle.cmh_cluster3.specs.declared.line.SiteOrder.{SiteOrder}
use Rattle.cmh_cluster3.specs.declared.line.SiteOrder.TheVariants as orders

-- ---- lines that name sites

abbrev pub site_word : SiteOrder → List ℕ
site_word orders.Kill = codes "kill"
site_word orders.Restart = codes "restart"
site_word orders.Declared = codes "declared"
site_word orders.Links = codes "links"
site_word orders.Status = codes "status"

abbrev pub link_word : LinkOrder → List ℕ
link_word links.Cut = codes "cut"
link_word links.Join = codes "join"

-- this word, and behind it two numbers and nothing else
pub record NamesLink (name : List ℕ) (words : List (List ℕ)) (from to : ℕ) : Type 0 where
  pub behind : List (List ℕ)
  pub words_are : words ≡ name ∷ behind
  pub last : List (List ℕ)
  pub begins : Begins behind from last
  pub ends : Begins last to []

abbrev pub Orders : List (List ℕ) → ClusterLine → Type 0
Orders words (OfSite order site) = NamesNumber (site_word order) words site
Orders words (OfLink order from to) = NamesLink (link_word order) words from to
Orders words line = ⊥

abbrev pub OrdersNothing : List (List ℕ) → Type 0
OrdersNothing words = (line : ClusterLine) → Orders words line → ⊥

-- ---- what a line says

-- of what is asked of a running site, the questions about a process are known, for its site
abbrev pub asked : TheQuestion → ClusterLine
asked (asks.Waits process) = OfProcess process (asks.Waits process)
asked (asks.Owed process) = OfProcess process (asks.Owed process)
asked (asks.Leaving process) = OfProcess process (asks.Leaving process)
asked question = Bad

abbrev pub as_line : Said → ClusterLine
as_line saying.Silent = Silent
as_line (saying.Deed deed) = Deed deed
as_line (saying.Question question) = asked question
as_line saying.Quit = Bad

-- it names no site, and says this to a running one
pub record SaysAsToSite (bytes : List ℕ) (line : ClusterLine) : Type 0 where
  pub heard : Said
  pub nothing_ordered : OrdersNothing (words_of bytes)
  pub says : SaysToSite bytes heard
  pub is : line ≡ as_line heard

abbrev pub SaysToCluster : List ℕ → ClusterLine → Type 0
SaysToCluster bytes line = Orders (words_of bytes) line ⊎ SaysAsToSite bytes line

-- a line that is too long is a bad one
abbrev pub WasSaid : Option (List ℕ) → ClusterLine → Type 0
WasSaid None line = line ≡ Bad
WasSaid (Some bytes) line = SaysToCluster bytes line

-- what was read, unless it was too long
abbrev pub line_of : NextLine → Option (List ℕ)
line_of next = dialogue.line_of next
