-- How writing goes on, and how it ends.
use Rattle.std.proofs.Common.{◌≡◌, ℕ, ◌+◌, Bool, true, List, [], ◌∷◌, ◌++◌, Option, Some, None, refl, ap, append_assoc, append-nil, sym, ◌∙◌}
use Rattle.cmh_frames.specs.declared.edition.Edition.{Edition}
use Rattle.cmh_frames.specs.declared.frame.Frame.{Frame}
use Rattle.cmh_frames.specs.Wire.{hello, spelled, spelling, link_bytes}
use Rattle.cmh_reader.proofs.Readings.{spelled-append, spelled-push}
use Rattle.cmh_journal.specs.Sink.{TookPart, known_and}
use Rattle.cmh_journal.proofs.Telling.{known_and_both, known_and_nothing}
use Rattle.cmh_carriers.specs.declared.table.LinkFault.TheVariants.{Write}
use Rattle.cmh_links.specs.Writing.{Gathers, Wrote}

-- the bytes of more frames stand behind those of the others
link_bytes-append : (edition : Edition) (site : ℕ) (fs gs : List Frame) → link_bytes edition site (fs ++ gs) ≡ link_bytes edition site fs ++ spelled gs
link_bytes-append edition site fs gs = ap (λ v. hello edition site ++ v) (spelled-append fs gs) ∙ sym (append_assoc (hello edition site) (spelled fs) (spelled gs))

-- no frame's bytes
link_bytes-none : (edition : Edition) (site : ℕ) → link_bytes edition site [] ≡ hello edition site
link_bytes-none edition site = append-nil (hello edition site)

-- what a source gave, and then a frame and those behind it
took_on : (given between next given' : Option (List Frame)) (fs more : List Frame) (f : Frame) →
    between ≡ known_and given fs → next ≡ known_and between (f ∷ []) → given' ≡ known_and next more → given' ≡ known_and given (fs ++ f ∷ more)
took_on given between next given' fs more f e0 e1 e2 =
    e2 ∙ ap (λ o. known_and o more) (e1 ∙ ap (λ o. known_and o (f ∷ [])) e0 ∙ known_and_both given fs (f ∷ []))
    ∙ known_and_both given (fs ++ f ∷ []) more ∙ ap (known_and given) (append_assoc fs (f ∷ []) more)

-- All is written so far.
pub record Goes (edition : Edition) (site : ℕ) (given given' : Option (List Frame)) (taken taken' : Option (List ℕ)) (failures failures' : ℕ) : Type 0 where
  pub frames : List Frame
  pub took : given' ≡ known_and given frames
  pub wrote : taken' ≡ known_and taken (link_bytes edition site frames)
  pub same : failures' ≡ failures

module _ (edition : Edition) (site : ℕ) (given : Option (List Frame)) (taken : Option (List ℕ)) (n : ℕ) where
  -- the hello alone
  pub goes_first : (taken' : Option (List ℕ)) (m : ℕ) → taken' ≡ known_and taken (hello edition site) → m ≡ n → Goes edition site given given taken taken' n m
  goes_first taken' m e same = record {
    frames = [];
    took = sym (known_and_nothing given);
    wrote = e ∙ ap (known_and taken) (sym (link_bytes-none edition site));
    same = same;
  }

  -- a frame and those behind it
  pub goes_on : (between next given' : Option (List Frame)) (taken' taken'' : Option (List ℕ)) (m k : ℕ) (f : Frame) (bytes : List ℕ) →
      Goes edition site given between taken taken' n m → next ≡ known_and between (f ∷ []) → Gathers f next given' bytes → taken'' ≡ known_and taken' bytes → k ≡ m →
      Goes edition site given given' taken taken'' n k
  goes_on between next given' taken' taken'' m k f bytes g e gathers wrote same = record {
    frames = g.frames ++ f ∷ gathers.more;
    took = took_on given between next given' g.frames gathers.more f g.took e gathers.took;
    wrote = wrote ∙ ap (λ o. known_and o bytes) g.wrote ∙ known_and_both taken (link_bytes edition site g.frames) bytes
        ∙ ap (λ v. known_and taken (link_bytes edition site g.frames ++ v)) gathers.are ∙ ap (known_and taken) (sym (link_bytes-append edition site g.frames (f ∷ gathers.more)));
    same = same ∙ g.same;
  }

  -- a look that did not fail changes nothing
  pub goes_still : (between given' : Option (List Frame)) (taken' taken'' : Option (List ℕ)) (m k : ℕ) →
      Goes edition site given between taken taken' n m → given' ≡ between → taken'' ≡ taken' → k ≡ m → Goes edition site given given' taken taken'' n k
  goes_still between given' taken' taken'' m k g e still same = record {
    frames = g.frames;
    took = e ∙ g.took;
    wrote = still ∙ g.wrote;
    same = same ∙ g.same;
  }

  -- a look failed
  pub fails_between : (between given' : Option (List Frame)) (over : Bool) (taken' taken'' : Option (List ℕ)) (m k : ℕ) →
      Goes edition site given between taken taken' n m → given' ≡ between → taken'' ≡ taken' → k ≡ m + 1 → Wrote edition site given given' over taken taken'' n k (Some Write)
  fails_between between given' over taken' taken'' m k g e still fails = record {
    frames = g.frames;
    bytes = link_bytes edition site g.frames;
    took = e ∙ g.took;
    wrote = still ∙ g.wrote;
    begins = ([], append-nil (link_bytes edition site g.frames));
    ends = (refl, fails ∙ ap (λ x. x + 1) g.same);
  }

  -- the source told its end
  pub ends : (between given' : Option (List Frame)) (over : Bool) (taken' : Option (List ℕ)) (m : ℕ) →
      Goes edition site given between taken taken' n m → given' ≡ between → over ≡ true → Wrote edition site given given' over taken taken' n m None
  ends between given' over taken' m g e is_over = record {
    frames = g.frames;
    bytes = link_bytes edition site g.frames;
    took = e ∙ g.took;
    wrote = g.wrote;
    begins = ([], append-nil (link_bytes edition site g.frames));
    ends = (refl, is_over, g.same);
  }

  -- the hello was not written whole
  pub fails_first : (over : Bool) (taken' : Option (List ℕ)) (m : ℕ) → TookPart taken (hello edition site) taken' → m ≡ n + 1 → Wrote edition site given given over taken taken' n m (Some Write)
  fails_first over taken' m t fails = record {
    frames = [];
    bytes = t.part;
    took = sym (known_and_nothing given);
    wrote = t.told;
    begins = (t.begins.0, t.begins.1 ∙ sym (link_bytes-none edition site));
    ends = (refl, fails);
  }

  -- a frame and those behind it were not written whole
  pub fails_at : (between next given' : Option (List Frame)) (over : Bool) (taken' taken'' : Option (List ℕ)) (m k : ℕ) (f : Frame) (bytes : List ℕ) →
      Goes edition site given between taken taken' n m → next ≡ known_and between (f ∷ []) → Gathers f next given' bytes → TookPart taken' bytes taken'' → k ≡ m + 1 →
      Wrote edition site given given' over taken taken'' n k (Some Write)
  fails_at between next given' over taken' taken'' m k f bytes g e gathers t fails = record {
    frames = g.frames ++ f ∷ gathers.more;
    bytes = link_bytes edition site g.frames ++ t.part;
    took = took_on given between next given' g.frames gathers.more f g.took e gathers.took;
    wrote = t.told ∙ ap (λ o. known_and o t.part) g.wrote ∙ known_and_both taken (link_bytes edition site g.frames) t.part;
    begins = (
      t.begins.0,
      append_assoc (link_bytes edition site g.frames) t.part t.begins.0 ∙ ap (λ v. link_bytes edition site g.frames ++ v) (t.begins.1 ∙ gathers.are)
          ∙ sym (link_bytes-append edition site g.frames (f ∷ gathers.more)),
    );
    ends = (refl, fails ∙ ap (λ x. x + 1) g.same);
  }

-- the bytes of one frame
pub gathers_first : (first : Frame) (given : Option (List Frame)) (bytes : List ℕ) → bytes ≡ [] ++ spelling first → Gathers first given given bytes
gathers_first first given bytes are = record {
  more = [];
  took = sym (known_and_nothing given);
  are = are ∙ sym (append-nil (spelling first));
}

-- and those of one more
pub gathers_on : (first f : Frame) (given between given' : Option (List Frame)) (bytes bytes' : List ℕ) →
    Gathers first given between bytes → given' ≡ known_and between (f ∷ []) → bytes' ≡ bytes ++ spelling f → Gathers first given given' bytes'
gathers_on first f given between given' bytes bytes' g took are = record {
  more = g.more ++ f ∷ [];
  took = took ∙ ap (λ o. known_and o (f ∷ [])) g.took ∙ known_and_both given g.more (f ∷ []);
  are = are ∙ ap (λ v. v ++ spelling f) g.are ∙ append_assoc (spelling first) (spelled g.more) (spelling f)
      ∙ ap (λ v. spelling first ++ v) (sym (spelled-push g.more f));
}

-- the same where the source tells that nothing is there
pub gathers_same : (first : Frame) (given between given' : Option (List Frame)) (bytes : List ℕ) → Gathers first given between bytes → given' ≡ between → Gathers first given given' bytes
gathers_same first given between given' bytes g e = record {
  more = g.more;
  took = e ∙ g.took;
  are = g.are;
}
