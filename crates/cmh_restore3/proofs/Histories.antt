-- A restored world goes on with the epochs before it.
use Rattle.std.proofs.Common.{◌≡◌, ℕ, List, [], ◌∷◌, ◌++◌, subst, sym, ap, unwrap_or}
use Rattle.cmh_epochs3.specs.Laws.{Chain, ChainsAreRuns, Epoch, World}
use Rattle.cmh_frames.specs.Topology.{home_in}
use Rattle.cmh_topology3.specs.Topology.{Topology, site_of, sites_of}
use Rattle.cmh_history3.specs.Turns.{TurnsLeadOn, turns_of}
use Rattle.cmh_history3.specs.Worlds.{world_of}
use Rattle.cmh_restore3.specs.Laws.{RestoredFollowAll, RestoredHaveHistories, restored_of, with_turns}
use Rattle.cmh_restore3.proofs.Worlds.{follow_same}

-- one chain after another
chain_on : (home : ℕ → ℕ) (first end last : World) (epochs later : List Epoch) → Chain home first epochs end → Chain home end later last → Chain home first (epochs ++ later) last
chain_on home first end last [] later is rest = subst (λ (w : World). Chain home w later last) (sym is) rest
chain_on home first end last (x ∷ xs) later (one, more) rest = (one, chain_on home x.next end last xs later more rest)

module _ (t : Topology) (turns_lead : TurnsLeadOn t) where
  pub follow_all : RestoredFollowAll t
  follow_all old end epoch next older of_epoch f =
      let on = follow_same t old end epoch next older of_epoch f in
      record { follow = on; turn = turns_lead end epoch (restored_of t epoch next) on }

  pub have_histories : ChainsAreRuns → RestoredHaveHistories t
  have_histories are_runs old first end epochs epoch next older of_epoch chain f =
      let home_is : site_of old ≡ site_of t = ap (λ rows. λ p. unwrap_or (home_in rows p) 0) older.rows in
      let own : Chain (site_of t) first epochs end = subst (λ home. Chain home first epochs end) home_is chain in
      let all : (later : List Epoch) (last : World) → Chain (site_of t) (world_of t (restored_of t epoch next)) later last → Chain (site_of t) first (with_turns t epochs epoch next later) last =
      λ later last more. chain_on (site_of t) first end last epochs (record { events = turns_of epoch (sites_of t); next = world_of t (restored_of t epoch next) } ∷ later) own ((follow_all old end epoch next older of_epoch f).turn, more) in
      record {
        chain = all;
        run = λ later last more. are_runs (site_of t) first last (with_turns t epochs epoch next later) (all later last more);
      }
