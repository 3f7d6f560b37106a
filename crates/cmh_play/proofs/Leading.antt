-- What leads from one world that is held to another, call by call.
use Rattle.std.proofs.Common.{◌≡◌, ℕ, Bool, true, false, true≢false, List, [], ◌∷◌, Option, None, Some, length, ◌&&◌, ◌==◌, refl, sym, ap, subst, ◌∙◌}
use Rattle.std.specs.Prelude.{MatchOption, if◌then◌else◌}
use Rattle.cmh_frames.specs.declared.frame.Frame.{Frame}
use Rattle.cmh_frames.specs.Topology.{Topology, home}
use Rattle.cmh_frames.specs.declared.done.Done.{Done}
use Rattle.cmh_frames.specs.declared.event.Event.{Event}
use Rattle.cmh_frames.specs.declared.event.Event.TheVariants.{Got}
use Rattle.cmh_controller.specs.declared.refusal.Refusal.TheVariants.{UnknownProcess}
use Rattle.cmh_console.specs.declared.script.Command.TheVariants.{Act, Deliver, Cut}
use Rattle.cmh_play.specs.declared.reply.Reply.TheVariants.{BadLink, Closed, Empty, Lost, Refused as IsRefused, Taken as IsTaken, Got as GotFrame}
use Rattle.cmh_play.specs.declared.site.Refused.{Refused}
use Rattle.cmh_play.specs.declared.site.Refused.TheVariants.{Rule}
use Rattle.cmh_play.specs.declared.site.Step.TheVariants.{Taken, Refused as StepRefused}
use Rattle.cmh_play.specs.Held.{Held, IsWorldStep, Leads, Shows}
use Rattle.cmh_play.specs.Links.{Links, is_cut, link_of, next_of, without_first, ChangesLink}
use Rattle.cmh_play.specs.World.{World, CarriesOut, IsLink, IsReason, joins, with_link}
use Rattle.cmh_play.proofs.Deliveries.{delivered, ends_differ, first_of}

abbrev with_links : Held → Links → Held
with_links held links = record { topology = held.topology; controllers = held.controllers; history = held.history; links = links }

shows_relinked : (keeps : Bool) (world : World) (held : Held) (links : Links) (now : ℕ → ℕ → Option (List Frame)) → Shows keeps world held → ((a b : ℕ) → now a b ≡ link_of links a b)
    → Shows keeps (record world { links = now }) (with_links held links)
shows_relinked keeps world held links now shows are = record {
  topology = shows.topology;
  links = are;
  standing = shows.standing;
  limit = shows.limit;
  steps = shows.steps;
  totals = shows.totals;
  journals = shows.journals;
}

is_link_of : (keeps : Bool) (world : World) (held : Held) (a b : ℕ) (joined : Bool) → Shows keeps world held → joins held.topology a b ≡ joined → joins world.topology a b ≡ joined
is_link_of keeps world held a b joined shows is = ap (λ (t : Topology). joins t a b) (sym shows.topology) ∙ is

-- ---- an event

module _ (held later : Held) (process : ℕ) (event : Event) where
  module _ (s : ℕ) (at : home held.topology process ≡ Some s) where
    home_at : (keeps : Bool) (world : World) → Shows keeps world held → home world.topology process ≡ Some s
    home_at keeps world shows = ap (λ (t : Topology). home t process) (sym shows.topology) ∙ at

    pub taken_led : (done : Done) → Leads (λ before after. IsWorldStep before after s event (Taken done)) held later → Leads (λ before after. CarriesOut before after (Act process event) (IsTaken done)) held later
    taken_led done leads keeps world shows =
        let after = leads keeps world shows in
        record { later = after.later; shows = after.shows; related = (s, home_at keeps world shows, after.related) }

    pub refused_led : (refused : Refused) → Leads (λ before after. IsWorldStep before after s event (StepRefused refused)) held later → Leads (λ before after. CarriesOut before after (Act process event) (IsRefused refused)) held later
    refused_led refused leads keeps world shows =
        let after = leads keeps world shows in
        let M : Option ℕ → Type 0 = λ o. MatchOption o (refused ≡ Rule UnknownProcess) (λ q. IsReason world q event refused) in
        record { later = after.later; shows = after.shows; related = (subst M (sym (home_at keeps world shows)) after.related.0, after.related.1) }

pub unknown_led : (held : Held) (process : ℕ) (event : Event) → home held.topology process ≡ None → Leads (λ before after. CarriesOut before after (Act process event) (IsRefused (Rule UnknownProcess))) held held
unknown_led held process event none keeps world shows =
    let M : Option ℕ → Type 0 = λ o. MatchOption o (Rule UnknownProcess ≡ Rule UnknownProcess) (λ q. IsReason world q event (Rule UnknownProcess)) in
    record { later = world; shows = shows; related = (subst M (sym (ap (λ (t : Topology). home t process) (sym shows.topology) ∙ none)) refl, refl) }

-- ---- a delivery

-- how many frames are under way on a link that is open
pub open_counted : (link : Option (List Frame)) (lost : ℕ) → is_cut link ≡ false → MatchOption link (lost ≡ 0) (λ frames. lost ≡ length frames) → (frames : List Frame) × (link ≡ Some frames) × (lost ≡ length frames)
open_counted None lost off counted = absurd (true≢false off)
open_counted (Some frames) lost off counted = (frames, refl, counted)

is_none : (link : Option (List Frame)) → is_cut link ≡ true → link ≡ None
is_none None cut = refl
is_none (Some frames) cut = absurd (true≢false (sym cut))

is_empty : (link : Option (List Frame)) → is_cut link ≡ false → next_of link ≡ None → link ≡ Some []
is_empty None off next = absurd (true≢false off)
is_empty (Some []) off next = refl
is_empty (Some (frame ∷ frames)) off next = absurd (cc next)

module _ (held : Held) (a b : ℕ) where
  pub unjoined_led : joins held.topology a b ≡ false → Leads (λ before later. CarriesOut before later (Deliver a b) BadLink) held held
  unjoined_led off keeps world shows = record { later = world; shows = shows; related = (is_link_of keeps world held a b false shows off, refl) }

  pub uncut_led : joins held.topology a b ≡ false → Leads (λ before later. CarriesOut before later (Cut a b) BadLink) held held
  uncut_led off keeps world shows = record { later = world; shows = shows; related = (is_link_of keeps world held a b false shows off, refl) }

  module _ (on : joins held.topology a b ≡ true) where
    is_link : (keeps : Bool) (world : World) (link : Option (List Frame)) → Shows keeps world held → link_of held.links a b ≡ link → IsLink world a b link
    is_link keeps world link shows is = (is_link_of keeps world held a b true shows on, shows.links a b ∙ is)

    pub closed_led : is_cut (link_of held.links a b) ≡ true → Leads (λ before later. CarriesOut before later (Deliver a b) Closed) held held
    closed_led cut keeps world shows = record { later = world; shows = shows; related = (is_link keeps world None shows (is_none _ cut), refl) }

    pub cut_before_led : is_cut (link_of held.links a b) ≡ true → Leads (λ before later. CarriesOut before later (Cut a b) Closed) held held
    cut_before_led cut keeps world shows = record { later = world; shows = shows; related = (is_link keeps world None shows (is_none _ cut), refl) }

    pub empty_led : is_cut (link_of held.links a b) ≡ false → next_of (link_of held.links a b) ≡ None → Leads (λ before later. CarriesOut before later (Deliver a b) Empty) held held
    empty_led off next keeps world shows = record { later = world; shows = shows; related = (is_link keeps world (Some []) shows (is_empty _ off next), refl) }

    module _ (frame : Frame) (next : next_of (link_of held.links a b) ≡ Some frame) where
      front : (frames : List Frame) × (link_of held.links a b ≡ Some (frame ∷ frames))
      front = first_of (link_of held.links a b) frame next

      pub got_led : (mid : Held) (links : Links) (done : Done) → Leads (λ before later. IsWorldStep before later b (Got a frame) (Taken done)) held mid → ChangesLink mid.links links a b (without_first (link_of mid.links a b))
          → Leads (λ before later. CarriesOut before later (Deliver a b) (GotFrame frame done)) held (with_links mid links)
      got_led mid links done leads changes keeps world shows =
          let after = leads keeps world shows in
          let link : IsLink world a b (Some (frame ∷ front.0)) = is_link keeps world (Some (frame ∷ front.0)) shows front.1 in
          record {
            later = record after.later { links = link_of links };
            shows = shows_relinked keeps after.later mid links (link_of links) after.shows (λ c d. refl);
            related = (
              front.0,
              link,
              delivered world after.later (link_of links) a b frame front.0 done (ends_differ world.topology a b link.0) link.1 after.related
                  (λ c d. changes c d ∙ (λ i. if (a == c) && (b == d) then without_first (sym (after.shows.links a b) i) else sym (after.shows.links c d) i)),
            );
          }

      pub stays_led : (later : Held) (refused : Refused) → Leads (λ before after. IsWorldStep before after b (Got a frame) (StepRefused refused)) held later → Leads (λ before after. CarriesOut before after (Deliver a b) (IsRefused refused)) held later
      stays_led later refused leads keeps world shows =
          let after = leads keeps world shows in
          record {
            later = after.later;
            shows = after.shows;
            related = (frame, front.0, is_link keeps world (Some (frame ∷ front.0)) shows front.1, after.related.0, after.related.1);
          }

    -- ---- a cut

    pub cut_led : (links : Links) (lost : ℕ) (frames : List Frame) → link_of held.links a b ≡ Some frames → lost ≡ length frames → ChangesLink held.links links a b None
        → Leads (λ old new. CarriesOut old new (Cut a b) (Lost lost)) held (with_links held links)
    cut_led links lost frames is counted changes keeps world shows = record {
      later = with_link world a b None;
      shows = shows_relinked keeps world held links (with_link world a b None).links shows
          (λ c d. sym (changes c d ∙ (λ i. if (a == c) && (b == d) then None else sym (shows.links c d) i)));
      related = (frames, is_link keeps world (Some frames) shows is, counted, refl);
    }
