-- What leads from one state that is held to another, function by function.
use Rattle.std.proofs.Common.{◌≡◌, ◌≢◌, ◌==◌, Bool, true, false, true≢false, List, [], ◌∷◌, ◌++◌, length, Option, None, Some, refl, sym, ap, subst, ◌∙◌, arith}
use Rattle.std.specs.Prelude.{MatchOption}
use Rattle.std.proofs.lemmas.Bool.{eqb-true}
use Rattle.cmh_frames.specs.declared.rows.TopologyFault.{TopologyFault}
use Rattle.cmh_frames.specs.Rows.{Row, IsFaultOf, fault_of}
use Rattle.cmh_frames.specs.declared.edition.Edition.{Edition}
use Rattle.cmh_frames.specs.Topology.{Topology, IsTopologyOf}
use Rattle.cmh_play.specs.Draft.{Draft}
use Rattle.cmh_play.specs.Held.{Held, ShowsNew}
use Rattle.cmh_play.proofs.PlayedRuns.{nothing_played}
use Rattle.cmh_console.specs.declared.script.Command.{Command}
use Rattle.cmh_console.specs.declared.script.Line.TheVariants.{Edition as Edition_line, Site, Command as Command_line}
use Rattle.cmh_play.specs.PlayStates.{PlayState, Named, Played}
use Rattle.cmh_play.specs.Play.{IsNewWorld, Replies}
use Rattle.cmh_play.specs.World.{World, CarriesOut}
use Rattle.cmh_play.specs.Showing.{HasWorld, IsShown, LeadsOn, LeadsPlayed}
use Rattle.cmh_play.specs.declared.play.PlayState.TheVariants.{Named as HeldNamed, Played as HeldPlayed}
use Rattle.cmh_play.specs.declared.reply.Reply.{Reply}
use Rattle.cmh_play.specs.declared.reply.Reply.TheVariants.{Late, Ok, Topology as BadTopology}

-- ---- a line that is no command

-- of a draft
named : (keeps : Bool) (Related : PlayState → PlayState → Type 0) (old new : Draft) → Related (Named old.edition old.rows) (Named new.edition new.rows) → LeadsOn keeps Related (HeldNamed old) (HeldNamed new)
named keeps Related old new related (Named edition rows) shown of = record {
  state = Named new.edition new.rows;
  shows = refl;
  holds = subst (λ (d : Draft). Related (Named d.edition d.rows) (Named new.edition new.rows)) shown related;
}
named keeps Related old new related (Played world) shown of = absurd shown

-- of a world
played_on : (keeps : Bool) (Related : PlayState → PlayState → Type 0) (held : Held) → ((world : World) → Related (Played world) (Played world)) → LeadsOn keeps Related (HeldPlayed held) (HeldPlayed held)
played_on keeps Related held related (Named edition rows) shown of = absurd shown
played_on keeps Related held related (Played world) shown of = record { state = Played world; shows = shown; holds = related world }

no_rows : (rows : List Row) → (length rows == 0) ≡ true → rows ≡ []
no_rows [] none = refl
no_rows (row ∷ rows) none = let is : length (row ∷ rows) ≡ 0 = eqb-true (length (row ∷ rows)) 0 none in absurd (omega (arith, is))

some_rows : (rows : List Row) → (length rows == 0) ≡ false → rows ≢ []
some_rows rows some none = true≢false (sym (ap (λ (rs : List Row). length rs == 0) none) ∙ some)

-- the edition of a draft without sites
pub edition_set : (keeps : Bool) (draft new : Draft) (edition : Edition) → (length draft.rows == 0) ≡ true → new ≡ record { edition = edition; rows = [] }
    → LeadsOn keeps (λ before later. Replies before later (Edition_line edition) Ok) (HeldNamed draft) (HeldNamed new)
edition_set keeps draft new edition none is =
    named keeps (λ before later. Replies before later (Edition_line edition) Ok) draft new (no_rows draft.rows none, ap (λ (d : Draft). Named d.edition d.rows) is)

pub edition_late : (keeps : Bool) (draft : Draft) (edition : Edition) → (length draft.rows == 0) ≡ false
    → LeadsOn keeps (λ before later. Replies before later (Edition_line edition) Late) (HeldNamed draft) (HeldNamed draft)
edition_late keeps draft edition some =
    named keeps (λ before later. Replies before later (Edition_line edition) Late) draft draft (some_rows draft.rows some, refl)

pub edition_played : (keeps : Bool) (held : Held) (edition : Edition) → LeadsOn keeps (λ before later. Replies before later (Edition_line edition) Late) (HeldPlayed held) (HeldPlayed held)
edition_played keeps held edition = played_on keeps (λ before later. Replies before later (Edition_line edition) Late) held (λ world. refl)

-- a row of a draft
pub row_added : (keeps : Bool) (draft new : Draft) (row : Row) (fault : Option TopologyFault) → fault ≡ None
    → MatchOption fault ((new ≡ record { edition = draft.edition; rows = draft.rows ++ row ∷ [] }) × (fault_of draft.edition (draft.rows ++ row ∷ []) ≡ None))
    (λ found. (new ≡ draft) × IsFaultOf draft.edition (draft.rows ++ row ∷ []) found)
    → LeadsOn keeps (λ before later. Replies before later (Site row) Ok) (HeldNamed draft) (HeldNamed new)
row_added keeps draft new row None none added =
    named keeps (λ before later. Replies before later (Site row) Ok) draft new (added.1, ap (λ (d : Draft). Named d.edition d.rows) added.0)
row_added keeps draft new row (Some fault) none added = absurd (cc none)

pub row_left_out : (keeps : Bool) (draft new : Draft) (row : Row) (fault : Option TopologyFault) (found : TopologyFault) → fault ≡ Some found
    → MatchOption fault ((new ≡ record { edition = draft.edition; rows = draft.rows ++ row ∷ [] }) × (fault_of draft.edition (draft.rows ++ row ∷ []) ≡ None))
    (λ it. (new ≡ draft) × IsFaultOf draft.edition (draft.rows ++ row ∷ []) it)
    → LeadsOn keeps (λ before later. Replies before later (Site row) (BadTopology found)) (HeldNamed draft) (HeldNamed new)
row_left_out keeps draft new row None found is added = absurd (cc is)
row_left_out keeps draft new row (Some fault) found is added =
    let same : fault ≡ found = cc is in
    named keeps (λ before later. Replies before later (Site row) (BadTopology found)) draft new
    (subst (λ (f : TopologyFault). IsFaultOf draft.edition (draft.rows ++ row ∷ []) f) same added.1, ap (λ (d : Draft). Named d.edition d.rows) added.0)

pub row_late : (keeps : Bool) (held : Held) (row : Row) → LeadsOn keeps (λ before later. Replies before later (Site row) Late) (HeldPlayed held) (HeldPlayed held)
row_late keeps held row = played_on keeps (λ before later. Replies before later (Site row) Late) held (λ world. refl)

-- ---- a command

pub commands : (keeps : Bool) (old new : Held) (command : Command) (reply : Reply) → LeadsPlayed (λ before later. CarriesOut before later command reply) old new
    → LeadsOn keeps (λ before later. Replies before later (Command_line command) reply) (HeldPlayed old) (HeldPlayed new)
commands keeps old new command reply leads (Named edition rows) shown of = absurd shown
commands keeps old new command reply leads (Played world) shown of =
    let after = leads keeps world shown of in
    record { state = Played after.later; shows = after.shows; holds = after.related }

new_world : (keeps : Bool) (draft : Draft) (t : Topology) (held : Held) → IsTopologyOf draft.edition draft.rows t → (new : ShowsNew t keeps held) → IsNewWorld draft.edition draft.rows new.world
new_world keeps draft t held of new = record {
  topology = subst (λ (x : Topology). IsTopologyOf draft.edition draft.rows x) (sym new.topology) of;
  journals = new.journals;
  links = new.links;
}

-- the first command makes the world
pub commands_first : (keeps : Bool) (draft : Draft) (t : Topology) (made new : Held) (command : Command) (reply : Reply) → IsTopologyOf draft.edition draft.rows t → ShowsNew t keeps made
    → LeadsPlayed (λ before later. CarriesOut before later command reply) made new → LeadsOn keeps (λ before later. Replies before later (Command_line command) reply) (HeldNamed draft) (HeldPlayed new)
commands_first keeps draft t made new command reply topology fresh leads (Played world) shown of = absurd shown
commands_first keeps draft t made new command reply topology fresh leads (Named edition rows) shown of =
    let after = leads keeps fresh.world fresh.shows (nothing_played fresh.world fresh.journals fresh.links) in
    record {
      state = Played after.later;
      shows = after.shows;
      holds = (fresh.world, subst (λ (d : Draft). IsNewWorld d.edition d.rows fresh.world) shown (new_world keeps draft t made topology fresh), after.related);
    }

-- ---- each state has a world

pub world_named : (draft : Draft) (t : Topology) → IsTopologyOf draft.edition draft.rows t → (keeps : Bool) (state : PlayState) → IsShown keeps state (HeldNamed draft) → HasWorld state
world_named draft t topology keeps (Played world) shown = absurd shown
world_named draft t topology keeps (Named edition rows) shown =
    let world : World = record { topology = t; journals = []; links = λ a b. Some [] } in
    (world, subst (λ (d : Draft). IsNewWorld d.edition d.rows world) shown (record { topology = topology; journals = λ s. refl; links = λ a b. refl }))

pub world_played : (held : Held) (keeps : Bool) (state : PlayState) → IsShown keeps state (HeldPlayed held) → HasWorld state
world_played held keeps (Named edition rows) shown = absurd shown
world_played held keeps (Played world) shown = (world, refl)
