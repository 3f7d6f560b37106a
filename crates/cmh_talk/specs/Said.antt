-- What a line of a client says: a line for a running site but for `connect`, or what only a service is asked.
use Rattle.std.specs.Prelude.{◌≡◌, ℕ, List, [], ◌∷◌, codes, Option, None, Some}
use Rattle.cmh_console.specs.Front.{Begins}
use Rattle.cmh_console.specs.Words.{words_of}
use Rattle.cmh_setting.specs.SiteScript.{SaysToSite}
use Rattle.cmh_console.specs.declared.script.Line.TheVariants.{Bad}
use Rattle.cmh_setting.specs.declared.site_script.Order.TheVariants as orders
use Rattle.cmh_setting.specs.declared.site_script.SiteLine.{SiteLine}
use Rattle.cmh_setting.specs.declared.site_script.SiteLine.TheVariants.{Order as SiteOrder, Event as SiteEvent}
use Rattle.cmh_talk.specs.declared.said.Said.{Said}
use Rattle.cmh_talk.specs.declared.said.Said.TheVariants.{Event, Declared, Links, Waits, Owed, Watch, Status, Quit}

-- this word, and after it the number of this process
pub record NamesProcess (name : List ℕ) (words : List (List ℕ)) (process : ℕ) : Type 0 where
  pub behind : List (List ℕ)
  pub words_are : words ≡ name ∷ behind
  pub begins : Begins behind process []

-- what only a service is asked
abbrev pub AsksService : List (List ℕ) → Said → Type 0
AsksService words (Waits process) = NamesProcess (codes "waits") words process
AsksService words (Owed process) = NamesProcess (codes "owed") words process
AsksService words Watch = words ≡ codes "watch" ∷ []
AsksService words Status = words ≡ codes "status" ∷ []
AsksService words said = ⊥

abbrev pub AsksNoService : List (List ℕ) → Type 0
AsksNoService words = (said : Said) → AsksService words said → ⊥

-- what a line says to a site it says to a service; but a service connects by itself
abbrev pub said_of : SiteLine → Said
said_of (SiteEvent event) = Event event
said_of (SiteOrder orders.Declared) = Declared
said_of (SiteOrder orders.Links) = Links
said_of (SiteOrder orders.Quit) = Quit
said_of (SiteOrder orders.Connect) = Event Bad

pub record SaysAsToSite (bytes : List ℕ) (said : Said) : Type 0 where
  pub line : SiteLine
  pub no_question : AsksNoService (words_of bytes)
  pub says : SaysToSite bytes line
  pub is : said ≡ said_of line

abbrev pub SaysToService : List ℕ → Said → Type 0
SaysToService bytes (Waits process) = AsksService (words_of bytes) (Waits process)
SaysToService bytes (Owed process) = AsksService (words_of bytes) (Owed process)
SaysToService bytes Watch = AsksService (words_of bytes) Watch
SaysToService bytes Status = AsksService (words_of bytes) Status
SaysToService bytes said = SaysAsToSite bytes said

-- a line that is too long is a bad one
abbrev pub WasSaid : Option (List ℕ) → Said → Type 0
WasSaid None said = said ≡ Event Bad
WasSaid (Some line) said = SaysToService line said
