-- Bytes that begin with no frame.
use Rattle.std.proofs.Common.{◌≡◌, ◌≢◌, ℕ, List, ◌++◌, drop, ap, sym, ◌∙◌, arith}
use Rattle.byteorder.specs.Endian.{big_bytes}
use Rattle.cmh_model3.specs.declared.frame.Frame.TheVariants.{Request, Reply, Withdraw, Probe}
use Rattle.cmh_wire3.specs.Fronts.{BeginsNone}
use Rattle.cmh_wire3.specs.Inner.Frames.{IsFrameOf}
use Rattle.cmh_wire3.specs.Wire.{IsPair, numbers_of, pair_spelling}

-- all frames but a probe name a pair alone
pub no_frame : (kind : ℕ) (bytes : List ℕ) → kind ≢ 3 → BeginsNone IsPair pair_spelling bytes → BeginsNone (IsFrameOf kind) numbers_of bytes
no_frame kind bytes other none (Request asker holder) rest is e = none (asker, holder) rest is.is_frame e
no_frame kind bytes other none (Reply holder asker) rest is e = none (holder, asker) rest is.is_frame e
no_frame kind bytes other none (Probe origin stamp from to) rest is e = absurd (other (sym is.kind_is))
no_frame kind bytes other none (Withdraw asker holder) rest is e = none (asker, holder) rest is.is_frame e

-- no pair stands after what a probe names first
pub no_probe : (bytes behind after : List ℕ) (stamp origin : ℕ) → bytes ≡ big_bytes 8 stamp ++ behind → behind ≡ big_bytes 2 origin ++ after → BeginsNone IsPair pair_spelling after → BeginsNone (IsFrameOf 3) numbers_of bytes
no_probe bytes behind after stamp origin first second none (Request asker holder) rest is e = absurd (omega (arith, is.kind_is))
no_probe bytes behind after stamp origin first second none (Reply holder asker) rest is e = absurd (omega (arith, is.kind_is))
no_probe bytes behind after stamp origin first second none (Withdraw asker holder) rest is e = absurd (omega (arith, is.kind_is))
no_probe bytes behind after stamp origin first second none (Probe other n from to) rest is e =
    none (from, to) rest is.is_frame.2 (ap (drop 10) (sym (first ∙ ap (λ l. big_bytes 8 stamp ++ l) second) ∙ e))
