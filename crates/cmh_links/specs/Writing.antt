-- What the loop of a writing thread did.
use Rattle.std.specs.Prelude.{◌≡◌, ℕ, ◌+◌, Bool, true, List, [], ◌∷◌, Option, MatchOption}
use Rattle.cmh_frames.specs.declared.edition.Edition.{Edition}
use Rattle.cmh_frames.specs.declared.frame.Frame.{Frame}
use Rattle.cmh_frames.specs.Wire.{link_bytes, spelled}
use Rattle.cmh_journal.specs.Sink.{known_and}
use Rattle.cmh_carriers.specs.declared.table.LinkFault.{LinkFault}
use Rattle.cmh_carriers.specs.declared.table.LinkFault.TheVariants.{Write}
use Rattle.cmh_frames.specs.Runs.{IsBeginningOf}
use Rattle.cmh_links.specs.declared.writing.Next.{Next}
use Rattle.cmh_links.specs.declared.writing.Next.TheVariants.{Frame as NextFrame, Look, End}

-- What a source gave, before and after it told what is next: a frame, a look, or its end.
abbrev pub Gave : Next → Option (List Frame) → Option (List Frame) → Bool → Type 0
Gave (NextFrame frame) given given' over = given' ≡ known_and given (frame ∷ [])
Gave Look given given' over = given' ≡ given
Gave End given given' over = (given' ≡ given) × (over ≡ true)

-- These are the bytes of a frame and of those that the source gave behind it.
pub record Gathers (first : Frame) (given given' : Option (List Frame)) (bytes : List ℕ) : Type 0 where
  pub more : List Frame
  pub took : given' ≡ known_and given more
  pub are : bytes ≡ spelled (first ∷ more)

-- At a source's frames, a carrier's bytes and its failures, before and after: the bytes written begin those of the link
-- with the frames taken. Without a fault they are all of them, and the source told its end; the only fault is a failed
-- call of the carrier.
pub record Wrote (edition : Edition) (site : ℕ) (given given' : Option (List Frame)) (over : Bool)
    (taken taken' : Option (List ℕ)) (failures failures' : ℕ) (fault : Option LinkFault) : Type 0 where
  pub frames : List Frame
  pub bytes : List ℕ
  pub took : given' ≡ known_and given frames
  pub wrote : taken' ≡ known_and taken bytes
  pub begins : IsBeginningOf bytes (link_bytes edition site frames)
  pub ends : MatchOption fault ((bytes ≡ link_bytes edition site frames) × (over ≡ true) × (failures' ≡ failures))
      (λ f. (f ≡ Write) × (failures' ≡ failures + 1))
