-- A journal's receipts.
use Rattle.std.proofs.lemmas.Grind.{common_steps}
use Rattle.std.proofs.Common.{◌≡◌, ◌≢◌, ℕ, true, false, arith, eq-eqb, List, [], ◌∷◌, ◌++◌, Option, Some, refl, ap, sym, ◌∙◌, append_assoc, append-nil}
use Rattle.cmh_frames.specs.declared.frame.Frame.{Frame}
use Rattle.cmh_frames.specs.declared.event.Event.{Event}
use Rattle.cmh_frames.specs.declared.event.Event.TheVariants.{Ask, Reply, Start, Got}
use Rattle.cmh_frames.specs.Entries.{Entry}
use Rattle.std.specs.Prelude.{if◌then◌else◌, ◌==◌}
use Rattle.cmh_frames.specs.Journals.{receipts_of, frame_from}
use Rattle.cmh_station.specs.Journaled.{Journaled}
use Rattle.cmh_station.specs.Steps.{Stepped}
use Rattle.cmh_journal.specs.Sink.{known_and}
use Rattle.cmh_links.specs.Lent.{receipt, all_receipts, on_link}
use Rattle.cmh_links.specs.Reading.{from_site}

-- one entry more
pub all_receipts-push : (es : List Entry) (e : Entry) → all_receipts (es ++ e ∷ []) ≡ all_receipts es ++ receipt e.event
all_receipts-push [] e = append-nil (receipt e.event)
all_receipts-push (x ∷ es) e = ap (λ v. receipt x.event ++ v) (all_receipts-push es e) ∙ sym (append_assoc (receipt x.event) (all_receipts es) (receipt e.event))

-- a step that takes a frame
pub grew_receipts : (a : Journaled) (from : ℕ) (frame : Frame) (sent : List (ℕ × Frame)) (declared : Option ℕ) (b : Journaled) → Stepped a (Got from frame) sent declared b → all_receipts b.entries ≡ all_receipts a.entries ++ (from, frame) ∷ []
grew_receipts a from frame sent declared b grew = ap all_receipts grew.1.is.entries ∙ all_receipts-push a.entries (record { event = Got from frame; sent = sent; declared = declared })

-- the receipts on a link are those of its site
pub on_link_receipts : (site : ℕ) (es : List Entry) → on_link site (all_receipts es) ≡ receipts_of site es
on_link_receipts site [] = refl
on_link_receipts site (e ∷ es) = step e.event (on_link_receipts site es)
  where
    step : (v : Event) → on_link site (all_receipts es) ≡ receipts_of site es → on_link site (receipt v ++ all_receipts es) ≡ frame_from site v ++ receipts_of site es
    step (Ask asker targets) is = is
    step (Reply holder asker) is = is
    step (Start of) is = is
    step (Got from frame) is = ap (λ v. (if from == site then frame ∷ [] else []) ++ v) is

-- receipts behind others
on_link-append : (site : ℕ) (xs ys : List (ℕ × Frame)) → on_link site (xs ++ ys) ≡ on_link site xs ++ on_link site ys
on_link-append site [] ys = refl
on_link-append site (x ∷ xs) ys =
    let one = if x.0 == site then x.1 ∷ [] else [] in
    ap (λ v. one ++ v) (on_link-append site xs ys) ∙ sym (append_assoc one (on_link site xs) (on_link site ys))

-- frames of one site
on_link-same : (site : ℕ) (fs : List Frame) → on_link site (from_site site fs) ≡ fs
on_link-same site [] = refl
on_link-same site (f ∷ fs) = ap (λ b. (if b then f ∷ [] else []) ++ on_link site (from_site site fs)) (eqb-same site) ∙ ap (λ v. f ∷ v) (on_link-same site fs)
  where
    eqb-same : (n : ℕ) → (n == n) ≡ true
    eqb-same n = eq-eqb n n refl

on_link-other : (site other : ℕ) (fs : List Frame) → other ≢ site → on_link other (from_site site fs) ≡ []
on_link-other site other [] apart = refl
on_link-other site other (f ∷ fs) apart = ap (λ b. (if b then f ∷ [] else []) ++ on_link other (from_site site fs)) (differ site other apart) ∙ on_link-other site other fs apart
  where
    differ : (a b : ℕ) → b ≢ a → (a == b) ≡ false
    differ a b h = grind (arith, common_steps)

-- a journal that grew by the receipts of frames from a site
pub grown_on_link : (before after : List Entry) (site : ℕ) (got : List Frame) → Some (all_receipts after) ≡ known_and (Some (all_receipts before)) (from_site site got) →
    (receipts_of site after ≡ receipts_of site before ++ got) × ((other : ℕ) → other ≢ site → receipts_of other after ≡ receipts_of other before)
grown_on_link before after site got e =
    let is : all_receipts after ≡ all_receipts before ++ from_site site got = cc in
    let on : (s : ℕ) → receipts_of s after ≡ receipts_of s before ++ on_link s (from_site site got) = λ s.
    sym (on_link_receipts s after) ∙ ap (on_link s) is ∙ on_link-append s (all_receipts before) (from_site site got) ∙ ap (λ v. v ++ on_link s (from_site site got)) (on_link_receipts s before) in (
      on site ∙ ap (λ v. receipts_of site before ++ v) (on_link-same site got),
      λ other apart. on other ∙ ap (λ v. receipts_of other before ++ v) (on_link-other site other got apart) ∙ append-nil (receipts_of other before),
    )
