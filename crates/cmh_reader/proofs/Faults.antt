-- Faults stay.
use Rattle.std.proofs.Common.{◌≡◌, ◌≢◌, ℕ, ◌≤◌, List, [], ◌++◌, length, drop, sym, ap, ◌∙◌, subst, arith, append_assoc, length-append, None, Some}
use Rattle.std.proofs.lemmas.List.{append-nil}
use Rattle.std.proofs.lemmas.Option.{none-some}
use Rattle.cmh_frames.specs.declared.edition.Edition.{Edition}
use Rattle.cmh_frames.specs.declared.frame.Frame.{Frame}
use Rattle.cmh_frames.specs.Wire.{hello}
use Rattle.cmh_reader.specs.declared.fault.ReadFault.{ReadFault}
use Rattle.cmh_reader.specs.declared.fault.ReadFault.TheVariants.{Memory}
use Rattle.cmh_reader.specs.declared.standing.Standing.{Standing}
use Rattle.cmh_reader.specs.declared.standing.Standing.TheVariants.{Greeting, NoHello, Stranger, Open, Broken}
use Rattle.cmh_reader.specs.Reader.{Reader, StandsFor, Takes}
use Rattle.cmh_reader.specs.Stream.{Reads, fault_of}
use Rattle.cmh_reader.proofs.Fronts.{front_of_both, bad_stays}
use Rattle.cmh_reader.proofs.Readings.{splits_more}

-- a fault stays, however the stream goes on
pub fault_stays : (edition : Edition) (senders stream piece : List ℕ) (frames : List Frame) (standing : Standing) (fault : ReadFault) → fault_of standing ≡ Some fault → Reads edition senders stream frames standing → Reads edition senders (stream ++ piece) frames standing
fault_stays edition senders stream piece frames (Greeting rest) fault is reads = absurd (none-some fault is)
fault_stays edition senders stream piece frames NoHello fault is reads = (
  let long : 6 ≤ length stream = reads.0 in omega (arith, length-append stream piece),
  reads.1,
  λ site behind number same. reads.2 site (drop 6 stream) number (front_of_both stream piece (hello edition site) behind same reads.0),
)
fault_stays edition senders stream piece frames Stranger fault is reads = (
  record {
    site = reads.0.site;
    behind = reads.0.behind ++ piece;
    number = reads.0.number;
    unexpected = reads.0.unexpected;
    whole = ap (λ b. b ++ piece) reads.0.whole ∙ append_assoc (hello edition reads.0.site) reads.0.behind piece;
  },
  reads.1,
)
fault_stays edition senders stream piece frames (Open sender rest offset) fault is reads = absurd (none-some fault is)
fault_stays edition senders stream piece frames (Broken sender offset) fault is reads =
    (reads.0 ++ piece, splits_more edition senders stream sender frames reads.0 piece reads.1, bad_stays reads.0 piece reads.2, reads.3)

-- running out of memory is no fault of a stream
pub not_memory : (standing : Standing) (fault : ReadFault) → fault_of standing ≡ Some fault → fault ≢ Memory
not_memory (Greeting rest) fault is same = absurd (none-some fault is)
not_memory NoHello fault is same = cc
not_memory Stranger fault is same = cc
not_memory (Open sender rest offset) fault is same = absurd (none-some fault is)
not_memory (Broken sender offset) fault is same = cc

-- a reader of a stream with a fault takes nothing
pub fault_takes : (reader : Reader) (piece : List ℕ) (fault : ReadFault) → fault_of reader.standing ≡ Some fault → Takes reader reader piece []
fault_takes reader piece fault is stream frames stands =
    subst (λ fs. StandsFor reader (stream ++ piece) fs) (sym (append-nil frames)) (fault_stays reader.edition reader.senders stream piece frames reader.standing fault is stands)
