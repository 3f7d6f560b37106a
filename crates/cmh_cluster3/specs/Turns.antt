-- What a line of a cluster's script does to the sites, and what answers it.
use Rattle.std.specs.Prelude.{◌≡◌, ◌≢◌, ◌⊎◌, ℕ, Bool, List, slice_get, Option, None, Some, MatchOption}
use Rattle.cmh_console.specs.declared.dialogue.Flow.{Flow}
use Rattle.cmh_station3.specs.Files.{Held}
use Rattle.cmh_node3.specs.Nodes.{Node}
use Rattle.cmh_talk3.specs.declared.deed.Deed.{Deed}
use Rattle.cmh_talk3.specs.declared.deed.Question.{Question}
use Rattle.cmh_talk3.specs.declared.deed.Question.TheVariants as asks
use Rattle.cmh_talk3.specs.declared.reply.EventReply.{EventReply}
use Rattle.cmh_talk3.specs.declared.reply.EventReply.TheVariants.{Refused}
use Rattle.cmh_talk3.specs.declared.reply.Reply.{Reply}
use Rattle.cmh_topology3.specs.Topology.{Topology, home, sites_of}
use Rattle.cmh_cluster3.specs.Lines.{WasSaid}
use Rattle.cmh_cluster3.specs.Replies.{reply_text}
use Rattle.cmh_cluster3.specs.Sites.{Acts, ActsAt, AllGoOn, IsDown, IsUp, Killed, Started, TellsAt, process_of}
use Rattle.cmh_cluster3.specs.declared.line.ClusterLine.{ClusterLine}
use Rattle.cmh_cluster3.specs.declared.line.ClusterLine.TheVariants as lines
use Rattle.cmh_cluster3.specs.declared.line.SiteOrder.{SiteOrder}
use Rattle.cmh_cluster3.specs.declared.line.SiteOrder.TheVariants as orders
use Rattle.cmh_cluster3.specs.declared.no_node.NoNode.{NoNode}
use Rattle.cmh_cluster3.specs.declared.reply.ClusterReply.{ClusterReply}
use Rattle.cmh_cluster3.specs.declared.reply.ClusterReply.TheVariants.{Silent, BadLine, BadSite, BadLink, Ok as Done, Down, Up, NotStarted, Event, Told}

-- ---- places

abbrev pub IsAt : Topology → ℕ → ℕ → Type 0
IsAt t site place = slice_get (sites_of t) place ≡ Some site

-- it is no site of the topology
abbrev pub IsNoSite : Topology → ℕ → Type 0
IsNoSite t site = (place : ℕ) → slice_get (sites_of t) place ≢ Some site

-- the site of the process is at the place
pub record IsHomeAt (t : Topology) (process place : ℕ) : Type 0 where
  pub site : ℕ
  pub home_is : home t process ≡ Some site
  pub at : IsAt t site place

-- no site has the process
abbrev pub HasNoHome : Topology → ℕ → Type 0
HasNoHome t process = (place : ℕ) → IsHomeAt t process place → ⊥

module _ {File : Type 0} (told : File → Option Held) (has_failed : File → Bool) where
  abbrev pub Sites : Type 0
  Sites = List (Option (Node File))

  -- ---- one line

  -- a site took an event and replied, or it is down
  abbrev pub DoesIn : Option (Node File) → Deed → ClusterReply → Option (Node File) → Type 0
  DoesIn None deed reply b = (reply ≡ Down) × (b ≡ None)
  DoesIn (Some a) deed reply b = (told_back : EventReply) × (after : Node File) × Acts told has_failed a deed told_back after
      × (reply ≡ Event told_back) × (b ≡ Some after)

  -- the site at a place took an event and replied, or it is down
  abbrev pub DoesAt : ℕ → Deed → ClusterReply → Sites → Sites → Type 0
  DoesAt place deed reply a b =
      ((told_back : EventReply) × ActsAt told has_failed place deed told_back a b × (reply ≡ Event told_back))
      ⊎ (IsDown a place × (reply ≡ Down) × (b ≡ a))

  -- it answered a question, or is down
  abbrev pub AnswersAt : ℕ → Question → ClusterReply → Sites → Type 0
  AnswersAt place question reply a =
      ((answer : Reply) × TellsAt told has_failed place question answer a × (reply ≡ Told answer))
      ⊎ (IsDown a place × (reply ≡ Down))

  -- an event is for the site of its process; a process that no site has is refused as unknown
  abbrev pub DoesDeed : Topology → ℕ → Deed → ClusterReply → Sites → Sites → Type 0
  DoesDeed t process deed reply a b =
      ((place : ℕ) × IsHomeAt t process place × DoesAt place deed reply a b)
      ⊎ (HasNoHome t process × (reply ≡ Event (Refused 1)) × (b ≡ a))

  abbrev pub AnswersOf : Topology → ℕ → Question → ClusterReply → Sites → Type 0
  AnswersOf t process question reply a =
      ((place : ℕ) × IsHomeAt t process place × AnswersAt place question reply a)
      ⊎ (HasNoHome t process × (reply ≡ Event (Refused 1)))

  abbrev pub Kills : ℕ → ClusterReply → Sites → Sites → Type 0
  Kills place reply a b = (IsUp a place × (reply ≡ Done) × Killed told has_failed place a b) ⊎ (IsDown a place × (reply ≡ Down) × (b ≡ a))

  -- a site that runs is not started
  abbrev pub Restarts : Topology → ℕ → ℕ → ClusterReply → Sites → Sites → Type 0
  Restarts t site place reply a b =
      (IsDown a place × (reply ≡ Done) × Started told has_failed t place site a b)
      ⊎ (IsDown a place × (b ≡ a) × ((why : NoNode) × (reply ≡ NotStarted why)))
      ⊎ (IsUp a place × (reply ≡ Up) × (b ≡ a))

  abbrev pub OrdersAt : Topology → SiteOrder → ℕ → ℕ → ClusterReply → Sites → Sites → Type 0
  OrdersAt t orders.Kill number place reply a b = Kills place reply a b
  OrdersAt t orders.Restart number place reply a b = Restarts t number place reply a b
  OrdersAt t orders.Declared number place reply a b = AnswersAt place asks.Declared reply a × (b ≡ a)
  OrdersAt t orders.Links number place reply a b = AnswersAt place asks.Links reply a × (b ≡ a)
  OrdersAt t orders.Status number place reply a b = AnswersAt place asks.Status reply a × (b ≡ a)

  abbrev pub OrdersSite : Topology → SiteOrder → ℕ → ClusterReply → Sites → Sites → Type 0
  OrdersSite t order number reply a b =
      ((place : ℕ) × IsAt t number place × OrdersAt t order number place reply a b)
      ⊎ (IsNoSite t number × (reply ≡ BadSite) × (b ≡ a))

  -- A link leads from a site to another one. That its connection ends, the two notice.
  abbrev pub OrdersLink : Topology → ℕ → ℕ → ClusterReply → Sites → Sites → Type 0
  OrdersLink t from to reply a b = AllGoOn told has_failed a b
      × (((reply ≡ Done) × (from ≢ to)) ⊎ ((reply ≡ BadLink) × (IsNoSite t from ⊎ IsNoSite t to ⊎ (from ≡ to))))

  -- a message that came is no event of a line
  abbrev pub Does : Topology → ClusterLine → ClusterReply → Sites → Sites → Type 0
  Does t lines.Silent reply a b = (reply ≡ Silent) × (b ≡ a)
  Does t lines.Bad reply a b = (reply ≡ BadLine) × (b ≡ a)
  Does t (lines.Deed deed) reply a b = MatchOption (process_of deed) ((reply ≡ BadLine) × (b ≡ a))
      (λ process. DoesDeed t process deed reply a b)
  Does t (lines.OfProcess process question) reply a b = AnswersOf t process question reply a × (b ≡ a)
  Does t (lines.OfSite order number) reply a b = OrdersSite t order number reply a b
  Does t (lines.OfLink order from to) reply a b = OrdersLink t from to reply a b

  -- A line, or a bad one where it is too long, was answered by this text: by what it did to the sites, which then took what
  -- came to them.
  pub record IsTurn (t : Topology) (was is : Sites) (bytes : Option (List ℕ)) (text : List ℕ) (flow : Flow) : Type 0 where
    pub said : ClusterLine
    pub reply : ClusterReply
    pub between : Sites
    pub says : WasSaid bytes said
    pub does : Does t said reply was between
    pub settles : AllGoOn told has_failed between is
    pub text_is : text ≡ reply_text reply
