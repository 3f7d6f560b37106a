-- The laws of bases: those that end an epoch can begin the next one.
use Rattle.std.specs.Prelude.{◌≡◌, ◌≢◌, ℕ, ◌*◌, ◌^◌, ◌<◌, ◌≤◌, true, List}
use Rattle.cmh_model3.specs.Entries as model
use Rattle.cmh_model3.specs.Journals.{LawfulFrom, state_after}
use Rattle.cmh_model3.specs.State.{State}
use Rattle.cmh_topology3.specs.Topology.{Topology, site_of}
use Rattle.cmh_segment3.specs.Base.{IsBase, empty_base}
use Rattle.cmh_segment3.specs.States.{BeginsEpoch, base_of, state_in, turned_to}
use Rattle.cmh_segment3.specs.WholeEntries.{HaveEntries, IsWithin}
use Rattle.cmh_segment3.specs.declared.base.Base.{Base}
use Rattle.cmh_segment3.specs.declared.links.LinkState.{LinkState}
use Rattle.cmh_bases3.specs.Bases.{IsBaseOf}

-- A site can begin with nothing.
abbrev pub NothingIsBase : Topology → Type 0
NothingIsBase t = (s epoch : ℕ) → IsBaseOf t s epoch empty_base

-- With which a site can begin, a base says a state of the rules.
abbrev pub BasesAreStates : Topology → Type 0
BasesAreStates t =
    (s epoch : ℕ) (base : Base) → epoch < 2 ^ 32 → IsBase base → IsBaseOf t s epoch base
    → IsWithin (site_of t) s (state_in epoch base)

-- ---- which states have such bases

-- The state speaks of known processes: whom a process is leaving is one, and only processes of the site have asked.
pub record NamesKnown (home : ℕ → ℕ) (s : ℕ) (v : State) : Type 0 where
  pub leaving : (j k : ℕ) → v.leaving j k ≡ true → home k ≢ 0
  pub asked : (j : ℕ) → v.stamp j ≢ 0 → home j ≡ s

-- A site can begin an epoch with the base of each state of the rules that begins it. `stop` names the stop of each declared
-- process.
abbrev pub StatesHaveBases : Topology → Type 0
StatesHaveBases t =
    (s epoch : ℕ) (v : State) (stop : ℕ → ℕ) (links : List LinkState)
    → IsWithin (site_of t) s v → NamesKnown (site_of t) s v → BeginsEpoch epoch v
    → IsBaseOf t s epoch (base_of v stop links)

-- the state of the site at the end of an epoch that begins with the base and has these steps
abbrev pub state_at_end : Topology → ℕ → ℕ → Base → List model.Entry → State
state_at_end t s epoch base steps = state_after (site_of t) s (state_in epoch base) steps

-- So is the state to which each lawful journal leads from a base with which the site can begin, when the site's clock is
-- turned to a next epoch.
abbrev pub BasesFollow : Topology → Type 0
BasesFollow t =
    (s epoch next : ℕ) (base : Base) (steps : List model.Entry) (stop : ℕ → ℕ) (links : List LinkState)
    → s ≢ 0 → epoch < 2 ^ 32 → next < 2 ^ 32 → IsBase base → IsBaseOf t s epoch base
    → LawfulFrom (site_of t) s (state_in epoch base) steps → HaveEntries steps
    → (state_at_end t s epoch base steps).clock ≤ next * 2 ^ 32
    → IsBaseOf t s next (base_of (turned_to next (state_at_end t s epoch base steps)) stop links)
