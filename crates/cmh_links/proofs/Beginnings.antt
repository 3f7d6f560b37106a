-- What is known of the frames of a stream.
use Rattle.std.proofs.Common.{◌≡◌, ℕ, List, [], ◌∷◌, ◌++◌, Some, None, ap, append_assoc, sym, ◌∙◌, subst}
use Rattle.std.specs.Prelude.{Contains}
use Rattle.std.specs.List.{AllByRecursion}
use Rattle.std.proofs.lemmas.List.{append_cancel_left}
use Rattle.cmh_frames.specs.declared.edition.Edition.{Edition}
use Rattle.cmh_frames.specs.declared.frame.Frame.{Frame}
use Rattle.cmh_frames.specs.Wire.{IsFrame, spelling, spelled}
use Rattle.cmh_reader.proofs.NoFrames.{BeginsNoFrame}
use Rattle.cmh_frames.proofs.Fronts.{one_begins}
use Rattle.cmh_reader.specs.declared.standing.Standing.{Standing}
use Rattle.cmh_reader.specs.declared.standing.Standing.TheVariants.{Greeting, NoHello, Stranger, Open, Broken}
use Rattle.cmh_reader.specs.Reader.{Reader, StandsFor, BeginsLink, ExpectsSame}
use Rattle.cmh_reader.specs.Stream.{Splits, Reads, sender_of}
use Rattle.cmh_reader.proofs.Fronts.{short_begins_none}
use Rattle.cmh_reader.proofs.Hellos.{one_hello}
use Rattle.cmh_reader.proofs.Links.{link_reads}
use Rattle.cmh_reader.proofs.OneReading.{greets, no_greeting}
use Rattle.cmh_reader.proofs.Readings.{splits_more}
use Rattle.cmh_reader.proofs.SomeReading.{some_reading}
use Rattle.cmh_frames.specs.Runs.{IsBeginningOf}
use Rattle.cmh_frames.proofs.Beginnings.{beginning_nil, beginning_trans}

-- frames behind the same frames
pub beginning_on : {X : Type 0} (xs ys zs : List X) → IsBeginningOf ys zs → IsBeginningOf (xs ++ ys) (xs ++ zs)
beginning_on xs ys zs b = (b.0, append_assoc xs ys b.0 ∙ ap (λ v. xs ++ v) b.1)

-- frames stand behind a good hello alone
pub no_frames : (edition : Edition) (senders stream : List ℕ) (frames : List Frame) (standing : Standing) → Reads edition senders stream frames standing → sender_of standing ≡ None → frames ≡ []
no_frames edition senders stream frames (Greeting rest) reads e = reads.2
no_frames edition senders stream frames NoHello reads e = reads.1
no_frames edition senders stream frames Stranger reads e = reads.1
no_frames edition senders stream frames (Open sender rest offset) reads e = cc
no_frames edition senders stream frames (Broken sender offset) reads e = cc

-- where all frames are known, others with which the bytes begin are the first of them
spelled_begins : (gs fs : List Frame) (r r' : List ℕ) → AllByRecursion IsFrame gs → AllByRecursion IsFrame fs → BeginsNoFrame r' → spelled gs ++ r ≡ spelled fs ++ r' → IsBeginningOf gs fs
spelled_begins [] fs r r' G F none e = beginning_nil fs
spelled_begins (g ∷ gs) [] r r' G F none e = absurd (none g (spelled gs ++ r) G.0 (sym e ∙ append_assoc (spelling g) (spelled gs) r))
spelled_begins (g ∷ gs) (f ∷ fs) r r' G F none e =
    let same : spelling g ++ (spelled gs ++ r) ≡ spelling f ++ (spelled fs ++ r') = sym (append_assoc (spelling g) (spelled gs) r) ∙ e ∙ append_assoc (spelling f) (spelled fs) r' in
    let first : g ≡ f = one_begins g f (spelled gs ++ r) (spelled fs ++ r') G.0 F.0 same in
    let behind : spelled gs ++ r ≡ spelled fs ++ r' = append_cancel_left (spelling g) (spelled gs ++ r) (spelled fs ++ r') (same ∙ ap (λ h. spelling h ++ (spelled fs ++ r')) (sym first)) in
    let more = spelled_begins gs fs r r' G.1 F.1 none behind in
    (more.0, ap (λ h. h ∷ (gs ++ more.0)) first ∙ ap (λ hs. f ∷ hs) more.1)

module _ (edition : Edition) (senders stream : List ℕ) where
  -- a stream that begins with a hello and frames has come to that hello's site, and its frames begin with these
  pub reads_split : (frames : List Frame) (standing : Standing) (site : ℕ) (some : List Frame) (rest : List ℕ) → Reads edition senders stream frames standing → Splits edition senders stream site some rest → (sender_of standing ≡ Some site) × IsBeginningOf some frames
  reads_split frames (Greeting r) site some rest a s = absurd (no_greeting edition senders stream site (spelled some ++ rest) (greets edition senders stream site some rest s) a.0)
  reads_split frames NoHello site some rest a s = absurd (a.2 site (spelled some ++ rest) s.number (greets edition senders stream site some rest s))
  reads_split frames Stranger site some rest a s =
      let one = one_hello edition site a.0.site (spelled some ++ rest) a.0.behind s.number a.0.number (sym (greets edition senders stream site some rest s) ∙ a.0.whole) in
      absurd (a.0.unexpected (subst (Contains senders) one.0 s.expected))
  reads_split frames (Open sender r offset) site some rest a s =
      let one = one_hello edition site sender (spelled some ++ rest) (spelled frames ++ r) s.number a.0.number (sym (greets edition senders stream site some rest s) ∙ greets edition senders stream sender frames r a.0) in
      (ap Some (sym one.0), spelled_begins some frames rest r s.each a.0.each (short_begins_none r a.1) one.1)
  reads_split frames (Broken sender offset) site some rest a s =
      let one = one_hello edition site sender (spelled some ++ rest) (spelled frames ++ a.0) s.number a.1.number (sym (greets edition senders stream site some rest s) ∙ greets edition senders stream sender frames a.0 a.1) in
      (ap Some (sym one.0), spelled_begins some frames rest a.0 s.each a.1.each a.2.1 one.1)

  -- a stream whose hello is known splits
  pub known_split : (frames : List Frame) (standing : Standing) (site : ℕ) → Reads edition senders stream frames standing → sender_of standing ≡ Some site → (rest : List ℕ) × Splits edition senders stream site frames rest
  known_split frames (Greeting r) site a e = cc
  known_split frames NoHello site a e = cc
  known_split frames Stranger site a e = cc
  known_split frames (Open sender r offset) site a e = let same : sender ≡ site = cc in (r, subst (λ x. Splits edition senders stream x frames r) same a.0)
  known_split frames (Broken sender offset) site a e = let same : sender ≡ site = cc in (a.0, subst (λ x. Splits edition senders stream x frames a.0) same a.1)

  -- frames of the stream are a beginning of what was sent
  pub sent_begins : (got sent : List Frame) → ((frames : List Frame) (standing : Standing) → Reads edition senders stream frames standing → IsBeginningOf got frames) → BeginsLink edition senders stream sent → IsBeginningOf got sent
  sent_begins got sent of_bytes link =
      let some = some_reading edition senders stream in
      let sends = link_reads edition senders stream some.0 sent some.1 some.2 link in
      beginning_trans got some.0 sent (of_bytes some.0 some.1 some.2) (sends.1.0, sends.1.1)

-- once known, the sender stays
pub sender_stays : (bytes piece : List ℕ) (fs more : List Frame) (reader next : Reader) (site : ℕ) → StandsFor reader bytes fs → StandsFor next (bytes ++ piece) more → ExpectsSame reader next → sender_of reader.standing ≡ Some site → sender_of next.standing ≡ Some site
sender_stays bytes piece fs more reader next site a b kept known =
    let split = known_split reader.edition reader.senders bytes fs reader.standing site a known in
    let b' : Reads reader.edition reader.senders (bytes ++ piece) more next.standing =
    subst (λ x. Reads reader.edition x (bytes ++ piece) more next.standing) kept.senders
    (subst (λ x. Reads x next.senders (bytes ++ piece) more next.standing) kept.edition b) in
    (reads_split reader.edition reader.senders (bytes ++ piece) more next.standing site fs (split.0 ++ piece) b'
    (splits_more reader.edition reader.senders bytes site fs split.0 piece split.1)).0
