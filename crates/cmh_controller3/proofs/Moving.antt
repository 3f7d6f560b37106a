-- The steps of a controller, by what each changes of what is kept.
use Rattle.std.proofs.Common.{◌≡◌, ◌≢◌, ℕ, ◌+◌, ◌<◌, max, Bool, true, false, not, ◌&&◌, ◌||◌, List, [], ◌∷◌, length, ◌==◌, if◌then◌else◌, Option, None, Some, refl, sym, ap, ◌∙◌, subst, arith}
use Rattle.std.proofs.Math.Path.{fun_ext}
use Rattle.std.proofs.lemmas.Bool.{eq-eqb, eqb-true, ne_eqb}
use Rattle.cmh_model3.specs.declared.frame.Frame.TheVariants.{Request, Reply as Reply_frame, Withdraw as Withdraw_frame, Probe}
use Rattle.cmh_model3.specs.declared.frame.Message.{Message}
use Rattle.cmh_model3.specs.declared.event.Event.{Event}
use Rattle.cmh_model3.specs.declared.event.Event.TheVariants.{Ask, Reply, Withdraw, Got, Turn}
use Rattle.cmh_model3.specs.Lists.{in_list, set_at, set_pair, with_each, without, without_all}
use Rattle.cmh_model3.specs.State.{State, passes, waits_for}
use Rattle.cmh_model3.specs.Paths.{DependsOnItself, ReachesLocally}
use Rattle.cmh_model3.specs.Rules.{Sends, after, changed, declared_after, message, probe_acts, requests, withdraws}
use Rattle.cmh_model3.specs.Stops.{declared_at}
use Rattle.cmh_waits3.specs.Held.{Held, since_of, waits_of}
use Rattle.cmh_controller3.specs.declared.outcome.Declaration.{Declaration}
use Rattle.cmh_controller3.specs.declared.outcome.Outcome.{Outcome}
use Rattle.cmh_controller3.specs.declared.mark_row.Mark.{Mark}
use Rattle.cmh_controller3.specs.Controller.{Controller, Kept, home_of, state_kept, state_of}
use Rattle.cmh_controller3.specs.Inner.Kept.{IsKept}
use Rattle.cmh_controller3.specs.Inner.Looks.{Sees}
use Rattle.cmh_controller3.specs.Steps.{CanTake, Steps, process_in}
use Rattle.cmh_controller3.specs.Tables.{flags_of, marks_of, pairs_of, stamps_of}
use Rattle.cmh_controller3.proofs.After.{Woken, after_ask, after_got_reply, after_ignored, after_left, after_probe, after_reply_away, after_reply_here, after_request, after_turn, after_withdraw, after_withdraw_owed}
use Rattle.cmh_controller3.proofs.Kept.{AsLarge, askers_less, askers_more, still_kept}
use Rattle.cmh_controller3.proofs.Saying.{ask_says, declaration_of, ignored_says, probe_says, process_of, stop_is}

-- the controller takes the event with this outcome, and what it keeps afterwards is kept as before
pub record Moves (c : Controller) (event : Event) (o : Outcome) (new : Kept) : Type 0 where
  pub steps : Steps c event o (record c { kept = new })
  pub kept : IsKept (home_of c) c.site new

-- a step of the value that a controller had
pub steps_from : (event : Event) (o : Outcome) (old now new : Controller) → old ≡ now → Steps old event o new → Steps now event o new
steps_from event o old now new same steps = subst (λ (c : Controller). Steps c event o new) same steps

-- nothing is declared
pub none_stops : (m : ℕ) (o : Option Declaration) → o ≡ None → (d : Declaration) → o ≡ Some d → d.stop ≡ m
none_stops m o none d some = absurd (none_some d (sym none ∙ some))
  where
    none_some : (x : Declaration) → None ≡ Some x → ⊥
    none_some x e = cc

module _ (c : Controller) (kept : IsKept (home_of c) c.site c.kept) where
  abbrev home : ℕ → ℕ
  home = home_of c

  abbrev v : Kept
  v = c.kept

  abbrev before : State
  before = state_of c

  -- a step that declares nobody
  pub quiet : (event : Event) (o : Outcome) (sent : List (ℕ × Message)) (new : Kept) → CanTake c event → o.sent ≡ sent → o.declared ≡ None
      → Sends home c.site before event sent None → state_kept home c.site new ≡ after home c.site before event None
      → AsLarge v new → ((k j : ℕ) → pairs_of new.owed k j ≡ true → (home j ≢ 0) × (home j ≢ c.site)) → Moves c event o new
  quiet event o sent new accepted sent_is none sends is large askers =
      let nobody : process_in o.declared ≡ None = ap process_in none in
      record {
        steps = record {
          accepted = accepted;
          sends = subst (λ d. Sends home c.site before event o.sent d) (sym nobody) (subst (λ ms. Sends home c.site before event ms None) (sym sent_is) sends);
          stop = none_stops (declared_at v.clock event) o.declared none;
          topology = refl;
          site = refl;
          state = is ∙ ap (after home c.site before event) (sym nobody);
        };
        kept = still_kept home c.site v new event sent None kept accepted sends is large askers;
      }

  -- a step that may declare a process
  pub loud : (event : Event) (o : Outcome) (sent : List (ℕ × Message)) (declared : Bool) (i n : ℕ) (new : Kept) → CanTake c event → o.sent ≡ sent → o.declared ≡ declaration_of declared i n
      → n ≡ declared_at v.clock event → Sends home c.site before event sent (if declared then Some i else None)
      → state_kept home c.site new ≡ after home c.site before event (if declared then Some i else None)
      → AsLarge v new → ((k j : ℕ) → pairs_of new.owed k j ≡ true → (home j ≢ 0) × (home j ≢ c.site)) → Moves c event o new
  loud event o sent declared i n new accepted sent_is declared_is at sends is large askers =
      let who : process_in o.declared ≡ (if declared then Some i else None) = ap process_in declared_is ∙ process_of declared i n in
      record {
        steps = record {
          accepted = accepted;
          sends = subst (λ d. Sends home c.site before event o.sent d) (sym who) (subst (λ ms. Sends home c.site before event ms (if declared then Some i else None)) (sym sent_is) sends);
          stop = stop_is declared i n (declared_at v.clock event) o.declared declared_is at;
          topology = refl;
          site = refl;
          state = is ∙ ap (after home c.site before event) (sym who);
        };
        kept = still_kept home c.site v new event sent (if declared then Some i else None) kept accepted sends is large askers;
      }

  -- ---- each event

  pub turn_moves : (n : ℕ) (o : Outcome) → CanTake c (Turn n) → o.sent ≡ [] → o.declared ≡ None → Moves c (Turn n) o (record v { clock = n })
  turn_moves n o accepted none nobody = quiet (Turn n) o [] _ accepted none nobody (refl, refl) (after_turn home c.site v n accepted.0)
      (record { members = refl; leaving = refl; owed = refl; marks = refl; declared = refl; stamps = refl }) kept.askers

  pub request_moves : (a n j k clock : ℕ) (owed : List (List ℕ)) (o : Outcome) → 0 < a → CanTake c (Got a n (Request j k)) → o.sent ≡ [] → o.declared ≡ None
      → pairs_of owed ≡ set_pair (pairs_of v.owed) k j true → length owed ≡ length v.owed → clock ≡ max v.clock n
      → Moves c (Got a n (Request j k)) o (record v { owed = owed; clock = clock })
  request_moves a n j k clock owed o some accepted none nobody row room later =
      subst (λ (x : ℕ). Moves c (Got a n (Request j k)) o (record v { owed = owed; clock = x })) (sym later)
      (quiet (Got a n (Request j k)) o [] (record v { owed = owed; clock = max v.clock n }) accepted none nobody (refl, refl)
      (after_request home c.site v owed a n j k (λ here. accepted.0 (sym accepted.1 ∙ here)) row)
      (record { members = refl; leaving = refl; owed = room; marks = refl; declared = refl; stamps = refl })
      (askers_more home c.site v.owed owed k j kept.askers (λ no_site. let zero : a ≡ 0 = sym accepted.1 ∙ no_site in absurd (omega arith)) (λ here. accepted.0 (sym accepted.1 ∙ here)) row))

  -- whether it was owed or not
  pub withdrawn_moves : (a n j k clock : ℕ) (owed : List (List ℕ)) → CanTake c (Got a n (Withdraw_frame j k))
      → pairs_of owed ≡ set_pair (pairs_of v.owed) k j false → length owed ≡ length v.owed → clock ≡ max v.clock n
      → Moves c (Got a n (Withdraw_frame j k)) (record { sent = (if before.owed k j then (a, message (max v.clock n) (Reply_frame k j)) ∷ [] else []); declared = None }) (record v { owed = owed; clock = clock })
  withdrawn_moves a n j k clock owed accepted row room later =
      let o : Outcome = record { sent = (if before.owed k j then (a, message (max v.clock n) (Reply_frame k j)) ∷ [] else []); declared = None } in
      subst (λ (x : ℕ). Moves c (Got a n (Withdraw_frame j k)) o (record v { owed = owed; clock = x })) (sym later)
      (quiet (Got a n (Withdraw_frame j k)) o o.sent (record v { owed = owed; clock = max v.clock n }) accepted refl refl (refl, refl)
      (after_withdraw_owed home c.site v owed a n j k (λ here. accepted.0 (sym accepted.1 ∙ here)) row)
      (record { members = refl; leaving = refl; owed = room; marks = refl; declared = refl; stamps = refl })
      (askers_less home c.site v.owed owed k j kept.askers row))

  pub away_moves : (k j : ℕ) (owed : List (List ℕ)) (o : Outcome) → CanTake c (Reply k j) → home j ≢ c.site → o.sent ≡ (home j, message v.clock (Reply_frame k j)) ∷ [] → o.declared ≡ None
      → pairs_of owed ≡ set_pair (pairs_of v.owed) k j false → length owed ≡ length v.owed → Moves c (Reply k j) o (record v { owed = owed })
  away_moves k j owed o accepted away one nobody row room =
      quiet (Reply k j) o ((home j, message v.clock (Reply_frame k j)) ∷ []) (record v { owed = owed }) accepted one nobody
      (sym (ap (λ (z : Bool). if z then [] else (home j, message v.clock (Reply_frame k j)) ∷ []) (ne_eqb (home j) c.site away)), refl)
      (after_reply_away home c.site v owed k j away row)
      (record { members = refl; leaving = refl; owed = room; marks = refl; declared = refl; stamps = refl })
      (askers_less home c.site v.owed owed k j kept.askers row)

  pub here_moves : (k j : ℕ) (waits : Held) (marks : List (List Mark)) (declared : List Bool) (o : Outcome) → CanTake c (Reply k j) → home j ≡ c.site → o.sent ≡ [] → o.declared ≡ None
      → Woken home c.site v j (without (waits_of v.waits j) k) waits marks declared
      → waits.members ≡ v.waits.members → length marks ≡ length v.marks → length declared ≡ length v.declared
      → Moves c (Reply k j) o (record v { waits = waits; marks = marks; declared = declared })
  here_moves k j waits marks declared o accepted here none nobody woken members marks_room declared_room =
      quiet (Reply k j) o [] (record v { waits = waits; marks = marks; declared = declared }) accepted none nobody
      (sym (ap (λ (z : Bool). if z then [] else (home j, message v.clock (Reply_frame k j)) ∷ []) (eq-eqb (home j) c.site here)), refl)
      (after_reply_here home c.site v k j waits marks declared here woken)
      (record { members = members; leaving = refl; owed = refl; marks = marks_room; declared = declared_room; stamps = refl }) kept.askers

  pub got_reply_moves : (a n k j clock : ℕ) (waits : Held) (marks : List (List Mark)) (declared : List Bool) (o : Outcome) → CanTake c (Got a n (Reply_frame k j)) → o.sent ≡ [] → o.declared ≡ None
      → waits_for before j k ≡ true → Woken home c.site v j (without (waits_of v.waits j) k) waits marks declared
      → waits.members ≡ v.waits.members → length marks ≡ length v.marks → length declared ≡ length v.declared → clock ≡ max v.clock n
      → Moves c (Got a n (Reply_frame k j)) o (record v { waits = waits; marks = marks; declared = declared; clock = clock })
  got_reply_moves a n k j clock waits marks declared o accepted none nobody waited woken members marks_room declared_room later =
      subst (λ (x : ℕ). Moves c (Got a n (Reply_frame k j)) o (record v { waits = waits; marks = marks; declared = declared; clock = x })) (sym later)
      (quiet (Got a n (Reply_frame k j)) o [] (record v { waits = waits; marks = marks; declared = declared; clock = max v.clock n }) accepted none nobody (refl, refl)
      (after_got_reply home c.site v a n k j waits marks declared accepted.2 (λ here. accepted.0 (sym accepted.1 ∙ here)) waited woken)
      (record { members = members; leaving = refl; owed = refl; marks = marks_room; declared = declared_room; stamps = refl }) kept.askers)

  pub left_moves : (a n k j clock : ℕ) (leaving : List (List ℕ)) (o : Outcome) → CanTake c (Got a n (Reply_frame k j)) → o.sent ≡ [] → o.declared ≡ None
      → waits_for before j k ≡ false → pairs_of leaving ≡ set_pair (pairs_of v.leaving) j k false → length leaving ≡ length v.leaving → clock ≡ max v.clock n
      → Moves c (Got a n (Reply_frame k j)) o (record v { leaving = leaving; clock = clock })
  left_moves a n k j clock leaving o accepted none nobody not_waited row room later =
      subst (λ (x : ℕ). Moves c (Got a n (Reply_frame k j)) o (record v { leaving = leaving; clock = x })) (sym later)
      (quiet (Got a n (Reply_frame k j)) o [] (record v { leaving = leaving; clock = max v.clock n }) accepted none nobody (refl, refl)
      (after_left home c.site v leaving a n k j not_waited row)
      (record { members = refl; leaving = room; owed = refl; marks = refl; declared = refl; stamps = refl }) kept.askers)

  pub withdraw_moves : (j : ℕ) (ks : List ℕ) (waits : Held) (leaving : List (List ℕ)) (marks : List (List Mark)) (declared : List Bool) (row : List ℕ) (o : Outcome) → CanTake c (Withdraw j ks)
      → o.sent ≡ withdraws home c.site v.clock j ks → o.declared ≡ None
      → ((k : ℕ) → in_list row k ≡ ((not (home k == c.site) && in_list ks k) || pairs_of v.leaving j k)) → pairs_of leaving ≡ set_at (pairs_of v.leaving) j (in_list row) → length leaving ≡ length v.leaving
      → Woken home c.site v j (without_all (waits_of v.waits j) ks) waits marks declared
      → waits.members ≡ v.waits.members → length marks ≡ length v.marks → length declared ≡ length v.declared
      → Moves c (Withdraw j ks) o (record v { waits = waits; leaving = leaving; marks = marks; declared = declared })
  withdraw_moves j ks waits leaving marks declared row o accepted sent nobody more put room woken members marks_room declared_room =
      quiet (Withdraw j ks) o (withdraws home c.site v.clock j ks) (record v { waits = waits; leaving = leaving; marks = marks; declared = declared }) accepted sent nobody (refl, refl)
      (after_withdraw home c.site v j ks waits leaving marks declared row accepted.0 more put woken)
      (record { members = members; leaving = room; owed = refl; marks = marks_room; declared = declared_room; stamps = refl }) kept.askers

  pub ask_moves : (j : ℕ) (ks : List ℕ) (stamp : ℕ) (first sent : List (ℕ × Message)) (deadlocked : Bool) (waits : Held) (declared : List Bool) (stamps : List ℕ) (o : Outcome) → CanTake c (Ask j ks)
      → stamp ≡ v.clock + 1 → first ≡ requests home c.site stamp j ks → o.sent ≡ sent → o.declared ≡ declaration_of deadlocked j stamp
      → Sees home c.site (changed home c.site before (Ask j ks)) (DependsOnItself home c.site (changed home c.site before (Ask j ks)) stamp j) stamp j stamp j first deadlocked sent
      → waits_of waits ≡ set_at (waits_of v.waits) j (with_each (waits_of v.waits j) ks)
      → since_of waits ≡ (λ x y. if (x == j) && in_list ks y then stamp else since_of v.waits x y)
      → flags_of declared ≡ set_at (flags_of v.declared) j deadlocked → stamps_of stamps ≡ set_at (stamps_of v.stamps) j stamp
      → waits.members ≡ v.waits.members → length declared ≡ length v.declared → length stamps ≡ length v.stamps
      → Moves c (Ask j ks) o (record v { waits = waits; declared = declared; stamps = stamps; clock = stamp })
  ask_moves j ks stamp first sent deadlocked waits declared stamps o accepted is first_is sent_is declared_is sees set since flags stamped members declared_room stamps_room =
      subst (λ (x : ℕ). x ≡ v.clock + 1 → first ≡ requests home c.site x j ks → o.declared ≡ declaration_of deadlocked j x
      → Sees home c.site (changed home c.site before (Ask j ks)) (DependsOnItself home c.site (changed home c.site before (Ask j ks)) x j) x j x j first deadlocked sent
      → since_of waits ≡ (λ a b. if (a == j) && in_list ks b then x else since_of v.waits a b) → stamps_of stamps ≡ set_at (stamps_of v.stamps) j x
      → Moves c (Ask j ks) o (record v { waits = waits; declared = declared; stamps = stamps; clock = x })) (sym is)
      (λ same first_is declared_is sees since stamped.
      loud (Ask j ks) o sent deadlocked j (v.clock + 1) (record v { waits = waits; declared = declared; stamps = stamps; clock = v.clock + 1 }) accepted sent_is declared_is refl
      (ask_says home c.site before j ks first sent deadlocked first_is sees)
      (after_ask home c.site v j ks waits declared stamps deadlocked accepted.0 set since flags stamped)
      (record { members = members; leaving = refl; owed = refl; marks = refl; declared = declared_room; stamps = stamps_room }) kept.askers)
      is first_is declared_is sees since stamped

  pub ignored_moves : (a n i m j k clock : ℕ) (o : Outcome) → CanTake c (Got a n (Probe i m j k)) → o.sent ≡ [] → o.declared ≡ None
      → probe_acts before i m j k ≡ false → clock ≡ max v.clock n → Moves c (Got a n (Probe i m j k)) o (record v { clock = clock })
  ignored_moves a n i m j k clock o accepted none nobody ignored later =
      subst (λ (x : ℕ). Moves c (Got a n (Probe i m j k)) o (record v { clock = x })) (sym later)
      (quiet (Got a n (Probe i m j k)) o [] (record v { clock = max v.clock n }) accepted none nobody
      (ignored_says home c.site before a n i m j k [] None ignored refl refl)
      (after_ignored home c.site v a n i m j k ignored)
      (record { members = refl; leaving = refl; owed = refl; marks = refl; declared = refl; stamps = refl }) kept.askers)

  -- what is declared where a process was not before
  newly_flagged : (flags : ℕ → Bool) (i : ℕ) (deadlocked new : Bool) → new ≡ (deadlocked && not (flags i))
      → (if deadlocked then set_at flags i true else flags) ≡ declared_after flags (if new then Some i else None)
  newly_flagged flags i false new is = sym (ap (λ (z : Bool). declared_after flags (if z then Some i else None)) is)
  newly_flagged flags i true new is = go (flags i) refl ∙ sym (ap (λ (z : Bool). declared_after flags (if z then Some i else None)) is)
    where
      same : flags i ≡ true → (q : ℕ) (z : Bool) → (q == i) ≡ z → (if z then true else flags q) ≡ flags q
      same h q true e = sym (ap flags (eqb-true q i e) ∙ h)
      same h q false e = refl

      go : (z : Bool) → flags i ≡ z → set_at flags i true ≡ declared_after flags (if not z then Some i else None)
      go false h = refl
      go true h = fun_ext (λ q. same h q (q == i) refl)

  pub probe_moves : (a n i m j k clock : ℕ) (sent : List (ℕ × Message)) (deadlocked new : Bool) (marks : List (List Mark)) (declared : List Bool) (o : Outcome) → CanTake c (Got a n (Probe i m j k))
      → o.sent ≡ sent → o.declared ≡ declaration_of new i m → probe_acts before i m j k ≡ true → new ≡ (deadlocked && not (flags_of v.declared i))
      → Sees home c.site before (ReachesLocally home c.site before m i k i × (passes before m i i ≡ true)) clock i m k [] deadlocked sent
      → marks_of marks ≡ set_at (marks_of v.marks) k (set_at (marks_of v.marks k) i m) → flags_of declared ≡ (if deadlocked then set_at (flags_of v.declared) i true else flags_of v.declared)
      → length marks ≡ length v.marks → length declared ≡ length v.declared → clock ≡ max v.clock n
      → Moves c (Got a n (Probe i m j k)) o (record v { marks = marks; declared = declared; clock = clock })
  probe_moves a n i m j k clock sent deadlocked new marks declared o accepted sent_is declared_is acts is sees put flags marks_room declared_room later =
      subst (λ (x : ℕ). Sees home c.site before (ReachesLocally home c.site before m i k i × (passes before m i i ≡ true)) x i m k [] deadlocked sent
      → Moves c (Got a n (Probe i m j k)) o (record v { marks = marks; declared = declared; clock = x })) (sym later)
      (λ sees.
      loud (Got a n (Probe i m j k)) o sent new i m (record v { marks = marks; declared = declared; clock = max v.clock n }) accepted sent_is declared_is refl
      (probe_says home c.site before a n i m j k sent deadlocked new acts is sees)
      (after_probe home c.site v a n i m j k marks declared (if new then Some i else None) acts put (flags ∙ newly_flagged (flags_of v.declared) i deadlocked new is))
      (record { members = refl; leaving = refl; owed = refl; marks = marks_room; declared = declared_room; stamps = refl }) kept.askers)
      sees
