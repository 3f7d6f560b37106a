-- Taps stay those of their links, whatever a station does.
use Rattle.std.proofs.Common.{◌≡◌, ℕ, zero, suc, ◌<◌, List, [], ◌∷◌, length, get_or, set, map, flat_map, refl, ap, sym, ◌∙◌, subst, arith}
use Rattle.std.specs.Prelude.{Result, Ok, Err, IfOk, IfErr, Option, Some, None, IfSome}
use Rattle.std.specs.Option.{option_map}
use Rattle.std.proofs.lemmas.Option.{none-some, same_Some}
use Rattle.cmh_frames.specs.declared.frame.Frame.{Frame}
use Rattle.cmh_frames.specs.declared.event.Event.{Event}
use Rattle.cmh_frames.specs.Entries.{Entry, Outcome}
use Rattle.cmh_shared.specs.Fronts.{Front}
use Rattle.std.specs.List.{AllZip}
use Rattle.cmh_shared.specs.Links.{IsTapOf, Released, queued}
use Rattle.cmh_station.specs.LinkEnds.{Link, Tap}
use Rattle.cmh_station.specs.Batches.{GrewByAny, NotSteppedAll, SteppedAll, made}
use Rattle.cmh_station.specs.Journaled.{Journaled}
use Rattle.cmh_station.specs.Stations.{Station}
use Rattle.cmh_station.specs.Steps.{Grew, NotStepped, Stepped, WasSealed}
use Rattle.cmh_station.specs.declared.refusal.StationRefusal.{StationRefusal}
use Rattle.cmh_station.specs.declared.refusal.StationRefusal.TheVariants.{Rule, Sealed, Disk, Full}
use Rattle.cmh_controller.specs.declared.refusal.Refusal.TheVariants.{UnknownProcess, NotHere, BadTargets, Blocked, NotBlocked, NotOwed, AlreadyDeclared, Unlawful, Memory}
use Rattle.cmh_lab_stations.specs.Pairs.{BelongTo, IsSameTap}

-- the taps of the links before are those of the links after
abbrev pub KeepsTaps : List Link → List Link → Type 0
KeepsTaps links links' = (taps : List Tap) → AllZip IsTapOf links taps → AllZip IsTapOf links' taps

pub released : (ls ls' : List Link) → AllZip Released ls ls' → KeepsTaps ls ls'
released [] [] r ts p = p
released [] (l' ∷ ls') r ts p = absurd r
released (l ∷ ls) [] r ts p = absurd r
released (l ∷ ls) (l' ∷ ls') r [] p = absurd p
released (l ∷ ls) (l' ∷ ls') r (t ∷ ts) p =
    (record { to = p.0.to ∙ ap (λ (l : Link). l.to) (sym r.0.link_is); ring = p.0.ring ∙ ap (λ (l : Link). l.ring) (sym r.0.link_is) }, released ls ls' r.1 ts p.1)

queue_keeps : (sent : List (ℕ × Frame)) (ls : List Link) → KeepsTaps ls (map (queued sent) ls)
queue_keeps sent [] [] p = tt
queue_keeps sent [] (t ∷ ts) p = absurd p
queue_keeps sent (l ∷ ls) [] p = absurd p
queue_keeps sent (l ∷ ls) (t ∷ ts) p = (record { to = p.0.to; ring = p.0.ring }, queue_keeps sent ls ts p.1)

pub same : (a b : Journaled) → b ≡ a → KeepsTaps a.links b.links
same a b e ts p = subst (λ (j : Journaled). AllZip IsTapOf j.links ts) (sym e) p

grew : (a : Journaled) (more : List Entry) (b : Journaled) → Grew a more b → KeepsTaps a.links b.links
grew a more b g ts p =
    let sent : List (ℕ × Frame) = flat_map (λ (entry : Entry). entry.sent) more in
    released (map (queued sent) a.links) b.links g.links ts (queue_keeps sent a.links ts p)

was_sealed : (a : Journaled) (more : List Entry) (b : Journaled) → WasSealed a more b → KeepsTaps a.links b.links
was_sealed a more b w ts p = subst (λ (ls : List Link). AllZip IsTapOf ls ts) (ap (λ (j : Journaled). j.links) (sym w.is)) p

not_stepped : (a : Journaled) (event : Event) (refusal : StationRefusal) (b : Journaled) → NotStepped a event refusal b → KeepsTaps a.links b.links
not_stepped a event Sealed b n = same a b n.1
not_stepped a event Full b n = same a b n.2
not_stepped a event (Rule refusal) b n = same a b n.3
not_stepped a event Disk b n = was_sealed a (n.0 ∷ []) b n.3

-- whatever a step answered
pub stepped : {S : Type 0} (a b : Station S) (event : Event) (answer : Result Outcome StationRefusal)
    → IfOk answer (λ o. Stepped a.core event o.sent o.declared b.core)
    → IfErr answer (λ refusal. NotStepped a.core event refusal b.core × (b.board ≡ a.board)) → KeepsTaps a.core.links b.core.links
stepped a b event (Ok o) took refused =
    let entry : Entry = record { event = event; sent = o.sent; declared = o.declared } in
    grew a.core (entry ∷ []) b.core took.1
stepped a b event (Err refusal) took refused = not_stepped a.core event refusal b.core refused.0

grew_by_any : (a : Journaled) (more : List Entry) (b : Journaled) → GrewByAny a more b → KeepsTaps a.links b.links
grew_by_any a [] b g = same a b g
grew_by_any a (entry ∷ more) b g = grew a (entry ∷ more) b g

not_stepped_all : (a : Journaled) (events : List Event) (refusal : StationRefusal) (b : Journaled) → NotSteppedAll a events refusal b → KeepsTaps a.links b.links
not_stepped_all a events Sealed b n = same a b n.1
not_stepped_all a events Disk b n = was_sealed a _ b n.was_sealed
not_stepped_all a events (Rule Memory) b n = same a b n.1
not_stepped_all a events (Rule UnknownProcess) b n = absurd n
not_stepped_all a events (Rule NotHere) b n = absurd n
not_stepped_all a events (Rule BadTargets) b n = absurd n
not_stepped_all a events (Rule Blocked) b n = absurd n
not_stepped_all a events (Rule NotBlocked) b n = absurd n
not_stepped_all a events (Rule NotOwed) b n = absurd n
not_stepped_all a events (Rule AlreadyDeclared) b n = absurd n
not_stepped_all a events (Rule Unlawful) b n = absurd n
not_stepped_all a events Full b n = absurd n

-- whatever many steps in one call answered
pub stepped_all : {S V : Type 0} (a b : Station S) (events : List Event) (answer : Result V StationRefusal)
    (items : V → List (Result Outcome StationRefusal)) (looked_at : V → List Event)
    → IfOk answer (λ v. SteppedAll a.core (looked_at v) (items v) b.core)
    → IfErr answer (λ refusal. NotSteppedAll a.core events refusal b.core × (b.board ≡ a.board)) → KeepsTaps a.core.links b.core.links
stepped_all a b events (Ok v) items looked_at took refused = grew_by_any a.core (made (looked_at v) (items v)) b.core took.grew
stepped_all a b events (Err refusal) items looked_at took refused = not_stepped_all a.core events refusal b.core refused.0

-- a station that keeps its taps and its board keeps what belongs to it
pub belongs : {S : Type 0} (a b : Station S) (taps : List Tap) (first second told : Option Front) → BelongTo a taps first second told
    → KeepsTaps a.core.links b.core.links → b.board.book ≡ a.board.book → BelongTo b taps first second told
belongs a b taps first second told h keeps book = record {
  taps_are = keeps taps h.taps_are;
  first_is = of first h.first_is;
  second_is = of second h.second_is;
  told_is = of told h.told_is;
}
  where
    of : (front : Option Front) → IfSome front (λ f. f.book ≡ a.board.book) → IfSome front (λ f. f.book ≡ b.board.book)
    of None e = tt
    of (Some f) e = e ∙ sym book

-- a reader in place of another of the same board
pub same_reader : {B : Type 0} (of : Front → B) (old new : Option Front) (board : B) → option_map of new ≡ option_map of old
    → IfSome old (λ r. of r ≡ board) → IfSome new (λ r. of r ≡ board)
same_reader of None None board e h = tt
same_reader of (Some o) None board e h = tt
same_reader of None (Some n) board e h = absurd (none-some (of n) (sym e))
same_reader of (Some o) (Some n) board e h = same_Some (of n) (of o) e ∙ h

-- taps of the same rings
pub same_taps : (ls : List Link) (ts ts' : List Tap) → AllZip IsSameTap ts ts' → AllZip IsTapOf ls ts → AllZip IsTapOf ls ts'
same_taps [] [] [] s p = tt
same_taps ls [] (t' ∷ ts') s p = absurd s
same_taps ls (t ∷ ts) [] s p = absurd s
same_taps [] (t ∷ ts) ts' s p = absurd p
same_taps (l ∷ ls) [] ts' s p = absurd p
same_taps (l ∷ ls) (t ∷ ts) (t' ∷ ts') s p =
    (record { to = s.0.to ∙ p.0.to; ring = s.0.ring ∙ p.0.ring }, same_taps ls ts ts' s.1 p.1)

pub all_same : (ts : List Tap) → AllZip IsSameTap ts ts
all_same [] = tt
all_same (t ∷ ts) = (record { to = refl; ring = refl }, all_same ts)

-- one of them in place of another of the same ring
pub same_at : (ts : List Tap) (i : ℕ) (t d : Tap) → i < length ts → IsSameTap (get_or ts i d) t → AllZip IsSameTap ts (set ts i t)
same_at [] i t d lt s = absurd (omega (arith, lt))
same_at (x ∷ xs) zero t d lt s = (s, all_same xs)
same_at (x ∷ xs) (suc i) t d lt s = (record { to = refl; ring = refl }, same_at xs i t d (omega (arith, lt)) s)
