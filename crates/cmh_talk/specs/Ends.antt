-- The links of a site, as they are told.
use Rattle.std.specs.Prelude.{◌≡◌, ℕ, ◌==◌, List, filter, map, not, unwrap_or}
use Rattle.cmh_frames.specs.Topology.{Topology, sites_of}
use Rattle.cmh_carriers.specs.Table.{Table, state_at}
use Rattle.cmh_carriers.specs.declared.table.LinkState.TheVariants.{Fresh}
use Rattle.cmh_talk.specs.declared.site_reply.LinkEnds.{LinkEnds}
use Rattle.cmh_talk.specs.declared.site_reply.SiteReply.{SiteReply}
use Rattle.cmh_talk.specs.declared.site_reply.SiteReply.TheVariants.{Links}

-- the sites of a topology but for one, ascending
abbrev pub others_of : Topology → ℕ → List ℕ
others_of t site = filter (λ s. not (s == site)) (sites_of t)

-- the links with another site; one that the table doesn't have is new
abbrev pub ends_with : Table → ℕ → LinkEnds
ends_with table other = record {
  site = other;
  outgoing = unwrap_or (state_at table.out other) Fresh;
  incoming = unwrap_or (state_at table.into other) Fresh;
}

-- a row for each other site
abbrev pub ends_of : Table → Topology → ℕ → List LinkEnds
ends_of table t site = map (ends_with table) (others_of t site)

-- A row for each other site is told, as some table has its links. Which table it was is not told: what comes out of a lock is
-- known by its type alone.
abbrev pub TellsLinks : Topology → ℕ → SiteReply → Type 0
TellsLinks t site (Links rows) = (table : Table) × (rows.items ≡ ends_of table t site)
TellsLinks t site reply = ⊥
