-- What a controller keeps once a first half is taken back.
use Rattle.std.proofs.Common.{◌≡◌, ◌≢◌, ℕ, Bool, true, false, List, length, if◌then◌else◌, Option, None, Some, refl, sym, ap, ◌∙◌}
use Rattle.cmh_model3.specs.declared.frame.Frame.TheVariants.{Request, Probe}
use Rattle.cmh_model3.specs.declared.event.Event.{Event}
use Rattle.cmh_model3.specs.declared.event.Event.TheVariants.{Ask, Got, Withdraw}
use Rattle.cmh_model3.specs.Laws.{JournalFacts}
use Rattle.cmh_model3.specs.Lists.{in_list, set_at, set_pair, without_all}
use Rattle.cmh_model3.specs.State.{State}
use Rattle.cmh_model3.specs.Rules.{Accepts, declared_after}
use Rattle.cmh_waits3.specs.Held.{Held, since_of, waits_of}
use Rattle.cmh_controller3.specs.declared.outcome.Declaration.{Declaration}
use Rattle.cmh_controller3.specs.declared.prepared.Before.{Before}
use Rattle.cmh_controller3.specs.Inner.Between.{StandsBetween}
use Rattle.cmh_controller3.specs.declared.mark_row.Mark.{Mark}
use Rattle.cmh_controller3.specs.Controller.{Controller, Kept, home_of, state_kept, state_of}
use Rattle.cmh_controller3.specs.Inner.Kept.{IsKept}
use Rattle.cmh_controller3.specs.Steps.{IsBackAt, prepared_state, process_in}
use Rattle.cmh_controller3.specs.Tables.{flags_of, marks_of, pairs_of, stamps_of}
use Rattle.cmh_controller3.proofs.Back.{ask_declares, back_ask, back_kept, back_probe, back_request, back_withdraw, probe_new, some_mark, undeclared_none, undeclared_some}
use Rattle.cmh_controller3.proofs.Halves.{here_too}
use Rattle.cmh_controller3.proofs.Kept.{AsLarge, asked_at, askers_less}

-- the controller is back where it was, and keeps what every controller keeps
pub record Back (old mid : Controller) (new : Kept) : Type 0 where
  pub kept : IsKept (home_of mid) mid.site new
  pub back : IsBackAt old (record mid { kept = new })

module _ (old mid : Controller) (kept : IsKept (home_of mid) mid.site mid.kept) (b : Before) (o : Option Declaration) where
  abbrev d : Option ℕ
  d = process_in o

  abbrev v : State
  v = state_of old

  module _ (event : Event) (prepares : StandsBetween old event b o mid) where
    facts : JournalFacts (home_of mid) mid.site v
    facts = here_too old mid prepares.topology prepares.site (λ home s. JournalFacts home s v) prepares.facts

    accepted : Accepts (home_of mid) mid.site v event
    accepted = here_too old mid prepares.topology prepares.site (λ home s. Accepts home s v event) prepares.accepted

    between : state_of mid ≡ prepared_state (home_of mid) mid.site v event d
    between = here_too old mid prepares.topology prepares.site (λ home s. state_of mid ≡ prepared_state home s v event d) prepares.state

    at_last : (new : Kept) → state_kept (home_of mid) mid.site new ≡ v → AsLarge mid.kept new
        → ((k j : ℕ) → pairs_of new.owed k j ≡ true → (home_of mid j ≢ 0) × (home_of mid j ≢ mid.site))
        → ((p : ℕ) → stamps_of new.stamps p ≢ 0 → home_of mid p ≡ mid.site) → Back old mid new
    at_last new is large askers asked = record {
      kept = back_kept (home_of mid) mid.site v mid.kept new kept facts is large askers asked;
      back = record { topology = prepares.topology; site = prepares.site; state = is };
    }

  pub ask_back : (j : ℕ) (ks : List ℕ) (waits : Held) (declared : List Bool) (stamps : List ℕ) → StandsBetween old (Ask j ks) b o mid
      → waits_of waits ≡ set_at (waits_of mid.kept.waits) j (without_all (waits_of mid.kept.waits j) ks)
      → since_of waits ≡ set_at (since_of mid.kept.waits) j (λ k. if in_list (without_all (waits_of mid.kept.waits j) ks) k then since_of mid.kept.waits j k else 0)
      → flags_of declared ≡ set_at (flags_of mid.kept.declared) j b.declared → stamps_of stamps ≡ set_at (stamps_of mid.kept.stamps) j b.stamp
      → waits.members ≡ mid.kept.waits.members → length declared ≡ length mid.kept.declared → length stamps ≡ length mid.kept.stamps
      → Back old mid (record mid.kept { waits = waits; declared = declared; stamps = stamps; clock = b.clock })
  ask_back j ks waits declared stamps prepares set since flags stamped members declared_room stamps_room =
      at_last (Ask j ks) prepares _
      (back_ask (home_of mid) mid.site v (facts (Ask j ks) prepares) mid.kept j ks (accepted (Ask j ks) prepares) d waits declared stamps b.clock b.stamp b.declared
      (between (Ask j ks) prepares) (ask_declares (home_of old) old.site v j ks prepares.sends.0 d prepares.sends.1) set since flags stamped prepares.before.0 prepares.before.1 prepares.before.2)
      (record { members = members; leaving = refl; owed = refl; marks = refl; declared = declared_room; stamps = stamps_room }) kept.askers
      (asked_at (home_of mid) mid.site (stamps_of mid.kept.stamps) (stamps_of stamps) j b.stamp (accepted (Ask j ks) prepares).0 stamped kept.asked)

  pub withdraw_back : (j : ℕ) (ks : List ℕ) (leaving : List (List ℕ)) → StandsBetween old (Withdraw j ks) b o mid
      → pairs_of leaving ≡ set_at (pairs_of mid.kept.leaving) j (in_list b.leaving) → length leaving ≡ length mid.kept.leaving → Back old mid (record mid.kept { leaving = leaving })
  withdraw_back j ks leaving prepares put room =
      at_last (Withdraw j ks) prepares _
      (back_withdraw (home_of mid) mid.site v (facts (Withdraw j ks) prepares) mid.kept j ks d leaving b.leaving (between (Withdraw j ks) prepares) put prepares.before)
      (record { members = refl; leaving = room; owed = refl; marks = refl; declared = refl; stamps = refl }) kept.askers kept.asked

  pub request_back : (a n j k : ℕ) (owed : List (List ℕ)) → StandsBetween old (Got a n (Request j k)) b o mid
      → pairs_of owed ≡ set_pair (pairs_of mid.kept.owed) k j false → length owed ≡ length mid.kept.owed → Back old mid (record mid.kept { owed = owed; clock = b.clock })
  request_back a n j k owed prepares row room =
      let event = Got a n (Request j k) in
      let accepts = accepted event prepares in
      at_last event prepares _
      (back_request (home_of mid) mid.site v (facts event prepares) mid.kept a n j k d owed b.clock (between event prepares) prepares.sends.1.1
      (λ here. accepts.0 (sym accepts.1 ∙ here)) accepts.3 row prepares.before)
      (record { members = refl; leaving = refl; owed = room; marks = refl; declared = refl; stamps = refl })
      (askers_less (home_of mid) mid.site mid.kept.owed owed k j kept.askers row) kept.asked

  pub mark_there : (a n i m j k : ℕ) → StandsBetween old (Got a n (Probe i m j k)) b o mid → marks_of mid.kept.marks k i ≡ 0 → b.mark ≡ 0
  mark_there a n i m j k prepares =
      some_mark (home_of mid) mid.site v (facts (Got a n (Probe i m j k)) prepares) mid.kept a n i m j k d b.mark (between (Got a n (Probe i m j k)) prepares) prepares.before.1

  pub probe_back : (a n i m j k : ℕ) (marks : List (List Mark)) (declared : List Bool) → StandsBetween old (Got a n (Probe i m j k)) b o mid
      → marks_of marks ≡ set_at (marks_of mid.kept.marks) k (set_at (marks_of mid.kept.marks k) i b.mark) → length marks ≡ length mid.kept.marks
      → (o ≡ None → flags_of declared ≡ flags_of mid.kept.declared)
      → ((x : Declaration) → o ≡ Some x → flags_of declared ≡ set_at (flags_of mid.kept.declared) x.process false)
      → length declared ≡ length mid.kept.declared → Back old mid (record mid.kept { marks = marks; declared = declared; clock = b.clock })
  probe_back a n i m j k marks declared prepares put marks_room none some declared_room =
      let event = Got a n (Probe i m j k) in
      at_last event prepares _
      (back_probe (home_of mid) mid.site v (facts event prepares) mid.kept a n i m j k d marks declared b.clock b.mark (between event prepares) put prepares.before.1
      (undone o refl) prepares.before.0)
      (record { members = refl; leaving = refl; owed = refl; marks = marks_room; declared = declared_room; stamps = refl }) kept.askers kept.asked
    where
      undone : (q : Option Declaration) → o ≡ q → flags_of mid.kept.declared ≡ declared_after v.declared d → flags_of declared ≡ v.declared
      undone None e is = none e ∙ undeclared_none (flags_of mid.kept.declared) v.declared d (ap process_in e) is
      undone (Some x) e is =
          undeclared_some (flags_of mid.kept.declared) (flags_of declared) v.declared d x.process (ap process_in e)
          (probe_new (home_of old) old.site v a n i m j k prepares.sends.0 d x.process prepares.sends.1 (ap process_in e)) is (some x e)
