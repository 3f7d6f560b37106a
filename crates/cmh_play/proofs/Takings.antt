-- What a step of a site is to its journal.
use Rattle.std.proofs.Common.{◌≡◌, ℕ, List, [], ◌∷◌, ◌++◌, sym, ap, subst, ◌∙◌}
use Rattle.cmh_frames.specs.Topology.{Topology}
use Rattle.cmh_frames.specs.Entries.{Entry}
use Rattle.cmh_frames.specs.Journals.{IsLawful, value}
use Rattle.cmh_frames.specs.Rules.{Accepts, Sends, after}
use Rattle.cmh_frames.specs.State.{State, empty_state}
use Rattle.cmh_frames.proofs.Journals.{state_after-append}
use Rattle.cmh_controller.specs.Controller.{Controller}
use Rattle.cmh_journal.specs.Journal.{Journal}
use Rattle.cmh_journal.specs.WholeEntries.{IsStep, EachStepGrows}
use Rattle.cmh_play.specs.Sites.{IsStanding}

-- ---- a controller took an event, and its journal has the entry

module _ (t : Topology) (c : Controller) (j : Journal) (stands : IsStanding t c j) (entry : Entry) (accepts : Accepts c.topology c.site c.state entry.event)
    (sends : Sends c.topology c.site c.state entry.event entry.sent entry.declared) where
  step_is : IsStep t j.site (value t j.site j.entries) entry
  step_is = subst (λ (k : Controller). IsStep k.topology k.site k.state entry) stands.wrote (record { accepts = accepts; sends = sends })

  pub stands_after : EachStepGrows t → (d : Controller) (k : Journal) → d ≡ record c { state = after c.topology c.site c.state entry.event entry.declared }
      → k.site ≡ j.site → k.edition ≡ j.edition → k.entries ≡ j.entries ++ entry ∷ [] → IsStanding t d k
  stands_after grows d k becomes site edition entries = record {
    edition = edition ∙ stands.edition;
    lawful = subst (λ (s : ℕ). IsLawful t s k.entries) (sym site) (subst (λ (es : List Entry). IsLawful t j.site es) (sym entries)
        (grows j.site j.entries entry stands.lawful step_is).lawful);
    wrote = becomes
        ∙ ap (λ (x : Controller). record x { state = after x.topology x.site x.state entry.event entry.declared }) stands.wrote
        ∙ ap (λ (v : State). record { topology = t; site = j.site; state = v }) (sym (state_after-append t j.site empty_state j.entries (entry ∷ [])))
        ∙ (λ i. record { topology = t; site = sym site i; state = value t (sym site i) (sym entries i) });
  }
