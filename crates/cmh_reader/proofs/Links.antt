-- What an expected site's bytes come to.
use Rattle.std.proofs.Common.{append-nil, ◌≡◌, ℕ, List, [], ◌∷◌, ◌++◌, drop, refl, sym, ap, ◌∙◌, subst, append_assoc, None, Some}
use Rattle.std.specs.Prelude.{Contains}
use Rattle.std.specs.List.{AllByRecursion}
use Rattle.std.proofs.lemmas.Option.{none-some}
use Rattle.cmh_frames.specs.declared.edition.Edition.{Edition}
use Rattle.cmh_frames.specs.declared.frame.Frame.{Frame}
use Rattle.cmh_frames.specs.declared.frame.Front.TheVariants.{Bad}
use Rattle.cmh_frames.specs.Wire.{IsFrame, IsFront, spelled, hello, link_bytes}
use Rattle.cmh_frames.proofs.Fronts.{one_beginning}
use Rattle.cmh_reader.specs.declared.fault.ReadFault.{ReadFault}
use Rattle.cmh_reader.specs.declared.standing.Standing.{Standing}
use Rattle.cmh_reader.specs.declared.standing.Standing.TheVariants.{Greeting, NoHello, Stranger, Open, Broken}
use Rattle.cmh_reader.specs.Reader.{Reader, StandsFor, Takes, ExpectsSame, BeginsLink}
use Rattle.cmh_reader.specs.Stream.{Splits, Reads, fault_of}
use Rattle.cmh_reader.proofs.Fronts.{front_of_both, bad_stays}
use Rattle.cmh_reader.proofs.Hellos.{one_hello}

-- the later of frames are frames
each_behind : (frames later : List Frame) → AllByRecursion IsFrame (frames ++ later) → AllByRecursion IsFrame later
each_behind [] later all = all
each_behind (f ∷ frames) later all = each_behind frames later all.1

-- no frame of others stands where there is none
not_bad : (rest more : List ℕ) (later : List Frame) → AllByRecursion IsFrame later → IsFront rest Bad → rest ++ more ≡ spelled later → ⊥
not_bad [] more later L bad e = bad.0 tt
not_bad (x ∷ rest) more [] L bad e = cc
not_bad (x ∷ rest) more (g ∷ later) L bad e = (bad_stays (x ∷ rest) more bad).1 g (spelled later) L.0 e

-- with what comes later the bytes are all that is sent
link_whole : (edition : Edition) (senders stream : List ℕ) (sent : List Frame) (link : BeginsLink edition senders stream sent) → stream ++ link.1 ≡ link_bytes edition link.0 sent
link_whole edition senders stream sent link = link.2.whole ∙ append-nil (link_bytes edition link.0 sent)

-- after the hello, the frames so far and the rest begin what is sent
split_sent : (edition : Edition) (senders stream : List ℕ) (sender : ℕ) (frames sent : List Frame) (rest : List ℕ) → Splits edition senders stream sender frames rest → (link : BeginsLink edition senders stream sent) → spelled frames ++ (rest ++ link.1) ≡ spelled sent
split_sent edition senders stream sender frames sent rest s link =
    (one_hello edition sender link.0 (spelled frames ++ (rest ++ link.1)) (spelled sent) s.number link.2.number
    (sym (ap (λ b. b ++ link.1) s.whole ∙ append_assoc (link_bytes edition sender frames) rest link.1 ∙ append_assoc (hello edition sender) (spelled frames) (rest ++ link.1)) ∙ link_whole edition senders stream sent link)).1

-- What an expected site writes has no fault, and its frames come as they were sent.
pub link_reads : (edition : Edition) (senders stream : List ℕ) (frames sent : List Frame) (standing : Standing) → Reads edition senders stream frames standing → BeginsLink edition senders stream sent → (fault_of standing ≡ None) × ((later : List Frame) × (frames ++ later ≡ sent))
link_reads edition senders stream frames sent (Greeting rest) reads link = (refl, (sent, ap (λ fs. fs ++ sent) reads.2))
link_reads edition senders stream frames sent NoHello reads link =
    absurd (reads.2 link.0 (drop 6 stream) link.2.number (front_of_both stream link.1 (hello edition link.0) (spelled sent) (link_whole edition senders stream sent link) reads.0))
link_reads edition senders stream frames sent Stranger reads link =
    let one = one_hello edition reads.0.site link.0 (reads.0.behind ++ link.1) (spelled sent) reads.0.number link.2.number
    (sym (ap (λ b. b ++ link.1) reads.0.whole ∙ append_assoc (hello edition reads.0.site) reads.0.behind link.1) ∙ link_whole edition senders stream sent link) in
    absurd (reads.0.unexpected (subst (Contains senders) (sym one.0) link.2.expected))
link_reads edition senders stream frames sent (Open sender rest offset) reads link =
    let more = one_beginning frames sent (rest ++ link.1) reads.0.each link.2.each (split_sent edition senders stream sender frames sent rest reads.0 link) in
    (refl, (more.0, more.1))
link_reads edition senders stream frames sent (Broken sender offset) reads link =
    let more = one_beginning frames sent (reads.0 ++ link.1) reads.1.each link.2.each (split_sent edition senders stream sender frames sent reads.0 reads.1 link) in
    absurd (not_bad reads.0 link.1 more.0 (each_behind frames more.0 (subst (AllByRecursion IsFrame) (sym more.1) link.2.each)) reads.2 more.2)

-- what a reader gives of what an expected site writes
pub link_takes : (old new : Reader) (piece : List ℕ) (given : List Frame) → ExpectsSame old new → Takes old new piece given → (stream : List ℕ) (frames sent : List Frame) → StandsFor old stream frames
    → BeginsLink old.edition old.senders (stream ++ piece) sent → (fault_of new.standing ≡ None) × ((later : List Frame) × (frames ++ given ++ later ≡ sent))
link_takes old new piece given same takes stream frames sent stands link =
    link_reads new.edition new.senders (stream ++ piece) (frames ++ given) sent new.standing (takes stream frames stands)
    (subst (λ s. BeginsLink new.edition s (stream ++ piece) sent) (sym same.senders) (subst (λ e. BeginsLink e old.senders (stream ++ piece) sent) (sym same.edition) link))

-- and no fault
pub link_faultless : {P : Type 0} (old new : Reader) (piece : List ℕ) (given : List Frame) (fault : ReadFault) → fault_of new.standing ≡ Some fault → ExpectsSame old new → Takes old new piece given → (stream : List ℕ) (frames sent : List Frame) → StandsFor old stream frames
    → BeginsLink old.edition old.senders (stream ++ piece) sent → P
link_faultless {P} old new piece given fault is same takes stream frames sent stands link = absurd (none-some fault (sym (link_takes old new piece given same takes stream frames sent stands link).0 ∙ is))
