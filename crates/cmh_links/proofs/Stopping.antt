-- How reading ends.
use Rattle.std.proofs.Common.{◌≡◌, ◌≢◌, ℕ, ◌+◌, Bool, true, false, List, [], ◌∷◌, ◌++◌, Option, Some, None, IsSome, IfSome, IfNone, MatchBool, ◌⊎◌, inl, inr, refl, ap, append-nil, sym, ◌∙◌, subst, arith}
use Rattle.std.proofs.lemmas.List.{append_cancel_left, map-append}
use Rattle.std.specs.Option.{option_map, option_map_or}
use Rattle.cmh_frames.specs.declared.frame.Frame.{Frame}
use Rattle.cmh_reader.specs.declared.fault.ReadFault.{ReadFault}
use Rattle.cmh_reader.specs.declared.fault.ReadFault.TheVariants.{BadHello, BadFrame, WrongSite, Memory as Starved}
use Rattle.cmh_reader.specs.declared.standing.Standing.{Standing}
use Rattle.cmh_reader.specs.declared.standing.Standing.TheVariants.{Greeting}
use Rattle.cmh_reader.specs.Reader.{Reader, StandsFor, Takes, ExpectsSame}
use Rattle.cmh_reader.specs.Stream.{Reads, HasMore, fault_of, sender_of}
use Rattle.cmh_reader.proofs.OneReading.{reads_once}
use Rattle.cmh_station.specs.declared.refusal.StationRefusal.{StationRefusal}
use Rattle.cmh_carriers.specs.declared.table.LinkFault.{LinkFault}
use Rattle.cmh_carriers.specs.declared.table.LinkFault.TheVariants.{Bad, Memory}
use Rattle.cmh_links.specs.declared.reading.ReaderEnd.{ReaderEnd}
use Rattle.cmh_links.specs.declared.reading.ReaderEnd.TheVariants.{Refused, Closed}
use Rattle.cmh_journal.specs.Sink.{known_and}
use Rattle.cmh_journal.proofs.Telling.{known_and_both, known_and_nothing}
use Rattle.cmh_frames.specs.Runs.{IsBeginningOf}
use Rattle.cmh_frames.proofs.Beginnings.{beginning_refl, beginning_nil, beginning_trans}
use Rattle.cmh_links.specs.Reading.{Goes, Stopped, EndedBy, Failed, Faulted, FaultedBy, end_of, from_site, link_fault_of}
use Rattle.cmh_links.proofs.Beginnings.{beginning_on, no_frames, reads_split, sent_begins, sender_stays}

-- frames of a link, each with the site that it came from; no frame comes before the site is known
abbrev pub from_sender : Option ℕ → List Frame → List (ℕ × Frame)
from_sender sender fs = option_map_or (λ site. from_site site fs) sender []

-- the frames of the bytes read; where memory was refused, they have more
abbrev pub AreRead : Reader → List ℕ → List Frame → Type 0
AreRead reader bytes fs = ((reader.starved ≡ false) × StandsFor reader bytes fs) ⊎
    ((reader.starved ≡ true) × HasMore reader.edition reader.senders bytes fs)

some_is : {A : Type 0} (o : Option A) (x : A) → o ≡ Some x → IsSome o
some_is o x e = subst IsSome (sym e) refl

-- no frames from anywhere
from_none : (o : Option ℕ) → from_sender o [] ≡ []
from_none None = refl
from_none (Some site) = refl

-- frames come from the same site when more bytes are read
from_same : (bytes piece : List ℕ) (fs more : List Frame) (reader next : Reader) → StandsFor reader bytes fs → StandsFor next (bytes ++ piece) more → ExpectsSame reader next →
    from_sender (sender_of reader.standing) fs ≡ from_sender (sender_of next.standing) fs
from_same bytes piece fs more reader next a b kept = by (sender_of reader.standing) refl
  where
    by : (o : Option ℕ) → sender_of reader.standing ≡ o → from_sender o fs ≡ from_sender (sender_of next.standing) fs
    by None unknown = sym (ap (from_sender (sender_of next.standing)) (no_frames reader.edition reader.senders bytes fs reader.standing a unknown) ∙ from_none (sender_of next.standing))
    by (Some site) known = ap (λ o. from_sender o fs) (sym (sender_stays bytes piece fs more reader next site a b kept known))

-- what was handed over before, seen from a reader that read on
handed_next : (bytes piece : List ℕ) (fs given : List Frame) (reader next : Reader) (a b : Option (List (ℕ × Frame))) (r : Option StationRefusal) →
    Goes bytes fs reader a b r → Takes reader next piece given → ExpectsSame reader next → b ≡ known_and a (from_sender (sender_of next.standing) fs)
handed_next bytes piece fs given reader next a b r g t kept = g.handed ∙ ap (known_and a) (from_same bytes piece fs (fs ++ given) reader next g.stands (t bytes fs g.stands) kept)

-- more frames from a site
handed_more : (fs got : List Frame) (o : Option ℕ) (site : ℕ) (a b b' : Option (List (ℕ × Frame))) → o ≡ Some site → b ≡ known_and a (from_sender o fs) → b' ≡ known_and b (from_site site got) → b' ≡ known_and a (from_sender o (fs ++ got))
handed_more fs got o site a b b' e e1 e2 =
    e2 ∙ ap (λ k. known_and k (from_site site got)) (e1 ∙ ap (λ p. known_and a (from_sender p fs)) e)
    ∙ known_and_both a (from_site site fs) (from_site site got)
    ∙ ap (known_and a) (sym (map-append (λ f. (site, f)) fs got) ∙ ap (λ p. from_sender p (fs ++ got)) (sym e))

-- how reading ended
ended : (end : ReaderEnd) (bytes : List ℕ) (reader : Reader) (a b : Option (List (ℕ × Frame))) (r : Option StationRefusal) (over : Bool) (n m : ℕ) (got all : List Frame) →
    b ≡ known_and a (from_sender (sender_of reader.standing) got) → IsBeginningOf got all → AreRead reader bytes all → EndedBy end reader got all r over n m →
    Stopped end bytes reader a b r over n m
ended end bytes reader a b r over n m got all handed begins read cause = record {
  got = got;
  all = all;
  handed = handed;
  begins = begins;
  read = by_starved read;
  cause = cause;
  of_bytes = of_bytes read;
  of_sent = λ sent link. sent_begins reader.edition reader.senders bytes got sent (of_bytes read) link;
}
  where
    by_starved : AreRead reader bytes all → MatchBool reader.starved (HasMore reader.edition reader.senders bytes all) (StandsFor reader bytes all)
    by_starved (inl (fed, stands)) = subst (λ (b : Bool). MatchBool b (HasMore reader.edition reader.senders bytes all) (StandsFor reader bytes all)) (sym fed) stands
    by_starved (inr (starved, more)) = subst (λ (b : Bool). MatchBool b (HasMore reader.edition reader.senders bytes all) (StandsFor reader bytes all)) (sym starved) more

    of_bytes : AreRead reader bytes all → (frames : List Frame) (standing : Standing) → Reads reader.edition reader.senders bytes frames standing → IsBeginningOf got frames
    of_bytes (inl (fed, stands)) frames standing reads =
        subst (IsBeginningOf got) (reads_once reader.edition reader.senders bytes all frames reader.standing standing stands reads).0 begins
    of_bytes (inr (starved, more)) frames standing reads =
        let whole = (reads_split reader.edition reader.senders bytes frames standing more.sender (all ++ more.more) more.rest reads more.splits).1 in
        beginning_trans got all frames begins (beginning_trans all (all ++ more.more) frames (more.more, refl) whole)

-- the frames of another piece were handed over
pub goes_on : (bytes piece : List ℕ) (fs given : List Frame) (reader next : Reader) (a b b' : Option (List (ℕ × Frame))) (r r' : Option StationRefusal) (site : ℕ) →
    Goes bytes fs reader a b r → Takes reader next piece given → ExpectsSame reader next → next.starved ≡ reader.starved → sender_of next.standing ≡ Some site → b' ≡ known_and b (from_site site given) → r' ≡ r →
    Goes (bytes ++ piece) (fs ++ given) next a b' r'
goes_on bytes piece fs given reader next a b b' r r' site g t kept s known e e' = record {
  stands = t bytes fs g.stands;
  fed = s ∙ g.fed;
  handed = handed_more fs given (sender_of next.standing) site a b b' known (handed_next bytes piece fs given reader next a b r g t kept) e;
  willing = e' ∙ g.willing;
}

-- a piece of a connection without a good hello so far
pub goes_unknown : (bytes piece : List ℕ) (fs given : List Frame) (reader next : Reader) (a b : Option (List (ℕ × Frame))) (r : Option StationRefusal) →
    Goes bytes fs reader a b r → Takes reader next piece given → ExpectsSame reader next → next.starved ≡ reader.starved → sender_of next.standing ≡ None →
    Goes (bytes ++ piece) (fs ++ given) next a b r
goes_unknown bytes piece fs given reader next a b r g t kept s unknown =
    let none : fs ++ given ≡ [] = no_frames next.edition next.senders (bytes ++ piece) (fs ++ given) next.standing (t bytes fs g.stands) unknown in
    let both = both_none fs given none in
    record {
      stands = t bytes fs g.stands;
      fed = s ∙ g.fed;
      handed = handed_next bytes piece fs given reader next a b r g t kept ∙ ap (λ x. known_and a (from_sender (sender_of next.standing) x)) (both.0 ∙ sym none);
      willing = g.willing;
    }
  where
    both_none : (xs ys : List Frame) → xs ++ ys ≡ [] → (xs ≡ []) × (ys ≡ [])
    both_none [] ys e = (refl, e)
    both_none (x ∷ xs) ys e = cc

-- memory was refused for a piece
pub stops_starved : (bytes piece : List ℕ) (fs : List Frame) (reader next : Reader) (a b : Option (List (ℕ × Frame))) (r : Option StationRefusal) (end : ReaderEnd) (over : Bool) (n m : ℕ) →
    Goes bytes fs reader a b r → next ≡ record reader { starved = true } → HasMore reader.edition reader.senders (bytes ++ piece) fs → end ≡ end_of (sender_of reader.standing) Memory →
    Stopped end (bytes ++ piece) next a b r over n m
stops_starved bytes piece fs reader next a b r end over n m g is more e =
    subst (λ x. Stopped end (bytes ++ piece) x a b r over n m) (sym is) (subst (λ x. Stopped x (bytes ++ piece) (record reader { starved = true }) a b r over n m) (sym e)
    (ended (end_of (sender_of reader.standing) Memory) (bytes ++ piece) (record reader { starved = true }) a b r over n m fs fs g.handed (beginning_refl fs) (inr (refl, more)) (cause (sender_of reader.standing) refl)))
  where
    cause : (o : Option ℕ) → sender_of reader.standing ≡ o → EndedBy (end_of o Memory) (record reader { starved = true }) fs fs r over n m
    cause None is = (no_frames reader.edition reader.senders bytes fs reader.standing g.stands is, is, (Memory, refl))
    cause (Some s) is = (is, inl (refl, refl))

-- the link of the hello was not new
pub stops_refused : (bytes piece : List ℕ) (fs given : List Frame) (reader next : Reader) (a b : Option (List (ℕ × Frame))) (r : Option StationRefusal) (site : ℕ) (over : Bool) (n m : ℕ) →
    Goes bytes fs reader a b r → Takes reader next piece given → ExpectsSame reader next → next.starved ≡ reader.starved → sender_of reader.standing ≡ None → sender_of next.standing ≡ Some site →
    Stopped (Refused site) (bytes ++ piece) next a b r over n m
stops_refused bytes piece fs given reader next a b r site over n m g t kept s unknown known =
    let none : fs ≡ [] = no_frames reader.edition reader.senders bytes fs reader.standing g.stands unknown in
    let handed = handed_next bytes piece fs given reader next a b r g t kept ∙ ap (λ x. known_and a (from_sender (sender_of next.standing) x)) none in
    ended (Refused site) (bytes ++ piece) next a b r over n m [] (fs ++ given) handed (beginning_nil (fs ++ given)) (inl (s ∙ g.fed, t bytes fs g.stands)) (refl, known)

-- the bytes have a fault
pub stops_broken : (bytes piece : List ℕ) (fs : List Frame) (reader next : Reader) (a b : Option (List (ℕ × Frame))) (r : Option StationRefusal) (end : ReaderEnd) (fault : ReadFault) (over : Bool) (n m : ℕ) →
    Goes bytes fs reader a b r → Takes reader next piece [] → ExpectsSame reader next → next.starved ≡ reader.starved → fault_of next.standing ≡ Some fault → Faulted (sender_of reader.standing) (sender_of next.standing) end →
    Stopped end (bytes ++ piece) next a b r over n m
stops_broken bytes piece fs reader next a b r end fault over n m g t kept s is (inl e) =
    let stands : StandsFor next (bytes ++ piece) fs = subst (StandsFor next (bytes ++ piece)) (append-nil fs) (t bytes fs g.stands) in
    let some : IsSome (fault_of next.standing) = some_is (fault_of next.standing) fault is in
    subst (λ x. Stopped x (bytes ++ piece) next a b r over n m) (sym e)
    (ended (end_of (sender_of next.standing) Bad) (bytes ++ piece) next a b r over n m fs fs (handed_next bytes piece fs [] reader next a b r g t kept) (beginning_refl fs) (inl (s ∙ g.fed, stands))
    (cause (s ∙ g.fed) stands some (sender_of next.standing) refl))
  where
    cause : next.starved ≡ false → StandsFor next (bytes ++ piece) fs → IsSome (fault_of next.standing) → (o : Option ℕ) → sender_of next.standing ≡ o → EndedBy (end_of o Bad) next fs fs r over n m
    cause fed stands some None unknown = (no_frames next.edition next.senders (bytes ++ piece) fs next.standing stands unknown, unknown, (Bad, (fed, some)))
    cause fed stands some (Some site) known = (known, inl (refl, (fed, some)))
stops_broken bytes piece fs reader next a b r end fault over n m g t kept s is (inr (unknown, (site, known, e))) =
    subst (λ x. Stopped x (bytes ++ piece) next a b r over n m) (sym e) (stops_refused bytes piece fs [] reader next a b r site over n m g t kept s unknown known)

-- the reader answered a fault
pub stops_faulted : (bytes piece : List ℕ) (fs : List Frame) (reader next : Reader) (a b : Option (List (ℕ × Frame))) (r : Option StationRefusal) (end : ReaderEnd) (fault : ReadFault) (over : Bool) (n m : ℕ) →
    Goes bytes fs reader a b r →
    (fault ≢ Starved → fault_of next.standing ≡ Some fault) → (fault ≢ Starved → Takes reader next piece []) → ExpectsSame reader next → (fault ≢ Starved → next.starved ≡ reader.starved) →
    (fault ≡ Starved → next ≡ record reader { starved = true }) → (fault ≡ Starved → HasMore reader.edition reader.senders (bytes ++ piece) fs) →
    FaultedBy fault (sender_of reader.standing) (sender_of next.standing) end →
    Stopped end (bytes ++ piece) next a b r over n m
stops_faulted bytes piece fs reader next a b r end BadHello over n m g is t kept s mem more by =
    let other : BadHello ≢ Starved = λ e. cc in
    stops_broken bytes piece fs reader next a b r end BadHello over n m g (t other) kept (s other) (is other) by
stops_faulted bytes piece fs reader next a b r end (BadFrame offset) over n m g is t kept s mem more by =
    let other : BadFrame offset ≢ Starved = λ e. cc in
    stops_broken bytes piece fs reader next a b r end (BadFrame offset) over n m g (t other) kept (s other) (is other) by
stops_faulted bytes piece fs reader next a b r end WrongSite over n m g is t kept s mem more by =
    let other : WrongSite ≢ Starved = λ e. cc in
    stops_broken bytes piece fs reader next a b r end WrongSite over n m g (t other) kept (s other) (is other) by
stops_faulted bytes piece fs reader next a b r end Starved over n m g is t kept s mem more by =
    stops_starved bytes piece fs reader next a b r end over n m g (mem refl) (more refl) by

-- a frame was refused
pub stops_unwilling : (bytes piece : List ℕ) (fs given got : List Frame) (reader next : Reader) (a b b' : Option (List (ℕ × Frame))) (r r' : Option StationRefusal) (site : ℕ) (x : StationRefusal) (end : ReaderEnd) (over : Bool) (n m : ℕ) →
    Goes bytes fs reader a b r → Takes reader next piece given → ExpectsSame reader next → next.starved ≡ reader.starved → sender_of next.standing ≡ Some site →
    b' ≡ known_and b (from_site site got) → IsBeginningOf got given → r' ≡ Some x → end ≡ Closed site (link_fault_of x) →
    Stopped end (bytes ++ piece) next a b' r' over n m
stops_unwilling bytes piece fs given got reader next a b b' r r' site x end over n m g t kept s known e begins is e' =
    let handed = handed_more fs got (sender_of next.standing) site a b b' known (handed_next bytes piece fs given reader next a b r g t kept) e in
    subst (λ y. Stopped y (bytes ++ piece) next a b' r' over n m) (sym e')
    (ended (Closed site (link_fault_of x)) (bytes ++ piece) next a b' r' over n m (fs ++ got) (fs ++ given) handed (beginning_on fs got given begins) (inl (s ∙ g.fed, t bytes fs g.stands))
    (known, inr (ap (option_map link_fault_of) is)))

-- a read failed, or told the end
module _ (bytes : List ℕ) (fs : List Frame) (reader : Reader) (a b : Option (List (ℕ × Frame))) (r : Option StationRefusal) (over : Bool) (n m : ℕ) where
  -- reading ends where no fault stands in the bytes
  pub stops_between : (end : ReaderEnd) (fault : LinkFault) → Goes bytes fs reader a b r → Failed fault reader over n m → end ≡ end_of (sender_of reader.standing) fault →
      Stopped end bytes reader a b r over n m
  stops_between end fault g failed e = subst (λ x. Stopped x bytes reader a b r over n m) (sym e)
      (ended (end_of (sender_of reader.standing) fault) bytes reader a b r over n m fs fs g.handed (beginning_refl fs) (inl (g.fed, g.stands)) (cause (sender_of reader.standing) refl))
    where
      cause : (o : Option ℕ) → sender_of reader.standing ≡ o → EndedBy (end_of o fault) reader fs fs r over n m
      cause None unknown = (no_frames reader.edition reader.senders bytes fs reader.standing g.stands unknown, unknown, (fault, failed))
      cause (Some site) known = (known, inl (refl, failed))

-- without more bytes there are no more frames
pub none_new : (bytes : List ℕ) (fs given : List Frame) (reader next : Reader) → StandsFor reader bytes fs → StandsFor next (bytes ++ []) (fs ++ given) → ExpectsSame reader next → given ≡ []
none_new bytes fs given reader next s t kept =
    let t' : Reads reader.edition reader.senders bytes (fs ++ given) next.standing =
    subst (λ x. Reads reader.edition reader.senders x (fs ++ given) next.standing) (append-nil bytes)
    (subst (λ x. Reads reader.edition x (bytes ++ []) (fs ++ given) next.standing) kept.senders
    (subst (λ x. Reads x next.senders (bytes ++ []) (fs ++ given) next.standing) kept.edition t)) in
    append_cancel_left fs given [] (sym (reads_once reader.edition reader.senders bytes fs (fs ++ given) reader.standing next.standing s t').0 ∙ sym (append-nil fs))

pub same_kept : (x y z : Reader) → ExpectsSame x y → ExpectsSame y z → ExpectsSame x z
same_kept x y z a b = record { edition = b.edition ∙ a.edition; senders = b.senders ∙ a.senders }

pub same_kept_nil : (x : Reader) → ExpectsSame x x
same_kept_nil x = record { edition = refl; senders = refl }

pub if_none : {A : Type 0} {P Q : Type 0} (o : Option A) → IfNone o P → (P → Q) → IfNone o Q
if_none None p f = f p
if_none (Some x) p f = tt

pub if_some : {A : Type 0} {P Q : A → Type 0} (o : Option A) → IfSome o P → ((x : A) → P x → Q x) → IfSome o Q
if_some None p f = tt
if_some (Some x) p f = f x p

-- no bytes more
pub stops_here : (end : ReaderEnd) (bytes : List ℕ) (reader : Reader) (a b : Option (List (ℕ × Frame))) (r : Option StationRefusal) (over : Bool) (n m : ℕ) → Stopped end (bytes ++ []) reader a b r over n m → Stopped end bytes reader a b r over n m
stops_here end bytes reader a b r over n m s = subst (λ x. Stopped end x reader a b r over n m) (append-nil bytes) s

pub goes_here : (bytes : List ℕ) (fs : List Frame) (reader next : Reader) (a b b' : Option (List (ℕ × Frame))) (r r' : Option StationRefusal) →
    Goes bytes fs reader a b r → ExpectsSame reader next → (x : List Frame) × Goes (bytes ++ []) (fs ++ x) next a b' r' × (x ≡ [] → fault_of next.standing ≡ None) →
    Goes bytes fs next a b' r' × (fault_of next.standing ≡ None)
goes_here bytes fs reader next a b b' r r' g kept (x, h, no_fault) =
    let none = none_new bytes fs x reader next g.stands h.stands kept in
    (subst (λ y. Goes bytes y next a b' r') (ap (λ y. fs ++ y) none ∙ append-nil fs) (subst (λ y. Goes y (fs ++ x) next a b' r') (append-nil bytes) h), no_fault none)

-- nothing was read yet
pub fresh_goes : (reader : Reader) (a : Option (List (ℕ × Frame))) (r : Option StationRefusal) → StandsFor reader [] [] → reader.starved ≡ false → r ≡ None → Goes [] [] reader a a r
fresh_goes reader a r stands fed willing = record { stands = stands; fed = fed; handed = sym (known_and_nothing a) ∙ ap (known_and a) (sym (from_none (sender_of reader.standing))); willing = willing }

-- what reads no bytes has no fault
pub fresh_faultless : (reader : Reader) → StandsFor reader [] [] → fault_of reader.standing ≡ None
fresh_faultless reader stands = ap fault_of (sym (reads_once reader.edition reader.senders [] [] [] (Greeting []) reader.standing (omega arith, refl, refl) stands).1)
