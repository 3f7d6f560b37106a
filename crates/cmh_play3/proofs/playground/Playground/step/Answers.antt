use Rattle.std.proofs.Common.{◌≡◌, ℕ, ◌+◌, ◌==◌, List, [], ◌∷◌, ◌++◌, length, map, drop, if◌then◌else◌, refl, sym, ap, subst, ◌∙◌}
use Rattle.std.proofs.Math.ListN.{set}
use Rattle.cmh_controller3.specs.Controller.{Controller}
use Rattle.cmh_controller3.specs.Steps.{process_in}
use Rattle.cmh_model3.specs.declared.frame.Message.{Message}
use Rattle.cmh_model3.specs.Entries.{WorldEvent}
use Rattle.cmh_model3.specs.Journals.{frames_to, message_from}
use Rattle.cmh_model3.specs.Laws.{entry_at}
use Rattle.cmh_report3.specs.Kept.{without_sent}
use Rattle.cmh_report3.specs.Transit.{kept}
use Rattle.cmh_play3.specs.Held.{StandAfter}
use Rattle.cmh_play3.specs.Links.{is_cut, under_way}
use Rattle.cmh_play3.proofs.Taking.{kept_more, links_now, longer, refuses_it, sent_more, set_same, stand_now, steps_now}
use Rattle.cmh_play3.proofs.playground.Playground.step.Goals as goal

pub returns-in_ok-push-in-Ok : goal.returns-in_ok-push-in-Ok
returns-in_ok-push-in-Ok c = λ es p.
    let old = c.args.self.now in
    let t = old.topology in
    let cs = old.controllers.items in
    let s = c.args.site in
    let k = c.place_of-place.result in
    let place = c.place_of-place.ensures in
    let event = c.args.event in
    let outcome = c.in-Ok.outcome in
    let next = c.requires.next es p in
    let cc = c.index_mut.result.now in
    let d = c.step.new.self in
    let here = c.index_mut.ensures.value in
    let steps = c.in-Ok.ensures.ok in
    let e : WorldEvent = entry_at s event outcome.sent (process_in outcome.declared) in
    let counted = ap (λ (ms : List (ℕ × Message)). length ms) c.as_slice-sent.ensures in
    record {
      events = es ++ e ∷ [];
      played = record {
        run = longer t cs es p.run p.stand s k place.within place.site cc here d event outcome steps c.requires.site place.ascending next;
        stand = stand_now t cs es p.run p.stand s k place.within place.site cc here d event outcome steps c.requires.site place.ascending next;
        links =
            links_now t cs es p.run p.stand s k place.within place.site cc here d event outcome steps c.requires.site place.ascending next
            (λ x y. under_way old.links x y) (λ x y. under_way c.receive.new.links x y) p.links
            (λ x y.
            let got : List Message = if s == y then message_from x event else [] in
            c.receive.ensures.taken x y
            ∙ ap (λ (ms : List Message). drop (length got) ms)
            (c.in_ok-send_all-in-Ok.ensures.sent x y
            ∙ ap (λ (ms : List (ℕ × Message)). under_way old.links x y ++ (if s == x then frames_to y ms else [])) c.as_slice-sent.ensures));
        kept_are = ap (λ (xs : List WorldEvent). map without_sent xs) c.in_ok-push-in-Ok.ensures.items
            ∙ kept_more old.events.items es c.bare_entry-entry.result e (ap without_sent c.bare_entry-entry.ensures) p.kept_are;
        sent_is = c.saturating_add-self.ensures ∙ ap (λ (ms : List (ℕ × Message)). kept (old.sent + length ms)) c.as_slice-sent.ensures
            ∙ sent_more es e old.sent p.sent_is;
      };
      done = steps_now t cs es p.run p.stand s k place.within place.site cc here d event outcome steps c.requires.site place.ascending next
          (λ x y. is_cut old.links x y) _ _ counted refl refl refl
          (λ x y. c.receive.ensures.cuts x y ∙ c.send_all.ensures.cuts x y);
    }

pub returns-in-Err : goal.returns-in-Err
returns-in-Err c = λ es p.
    let old = c.args.self.now in
    let t = old.topology in
    let cs = old.controllers.items in
    let k = c.place_of-place.result in
    let place = c.place_of-place.ensures in
    let cc = c.index_mut.result.now in
    let here = c.index_mut.ensures.value in
    record {
      events = es;
      played = record {
        run = p.run;
        stand = subst (λ (xs : List Controller). StandAfter t es xs) (sym (ap (λ (x : Controller). set cs k x) c.in-Err.ensures.err ∙ set_same cs k cc here)) p.stand;
        links = p.links;
        kept_are = p.kept_are;
        sent_is = p.sent_is;
      };
      done = (refuses_it t cs es p.run p.stand c.args.site k place.within place.site cc here c.args.event c.in-Err.refusal c.in-Err.ensures.refused, refl);
    }
