use Rattle.std.proofs.Common.{◌≡◌, ◌≤◌, ◌++◌, subst, take, drop, length, sym, ◌∙◌}
use Rattle.std.proofs.lemmas.List.{take_rest}
use Rattle.cmh_frames.specs.Wire.{Spells, IsShort, IsFront}
use Rattle.cmh_frames.specs.declared.frame.Front.TheVariants.{Bad}
use Rattle.cmh_reader.specs.Stream.{Splits}
use Rattle.cmh_reader.proofs.Readings.{frame_read, kept_whole}
use Rattle.cmh_reader.proofs.Wanted.{frame_wanted, on_err}
use Rattle.cmh_reader.proofs.reading.read_frames.Goals as goal

pub loop-frame-preserved : goal.loop-frame-preserved
loop-frame-preserved c =
    let bytes = c.args.bytes.now in
    let used = c.loop-frame.used in
    let len = c.in-Whole.len in
    let rest = take_rest bytes used in
    rw c.in_ok-push-in-Whole.ensures.items (frame_read c.args.sender c.args.offset c.args.frames.items bytes c.loop-frame.frames.items used len c.in-Whole.frame c.loop-frame.invariant
    (subst (λ b. len ≤ length b) rest c.in-Whole.ensures.0)
    (subst (λ b. Spells (take len b) c.in-Whole.frame) rest c.in-Whole.ensures.1))

pub returns-in-Short-clause-reads : goal.returns-in-Short-clause-reads
returns-in-Short-clause-reads c edition senders stream before is =
    let bytes = c.args.bytes.now in
    let used = c.loop-frame.used in
    let rest = take_rest bytes used in
    let short : IsShort (drop used bytes) = subst IsShort rest c.in-Short.ensures in
    let now = c.loop-frame.invariant.reads edition senders stream before is in
    let kept : c.joined.result ≡ drop used bytes = kept_whole c.new.result c.args.bytes.now used c.joined.result c.new.ensures c.joined.ensures short in (
      subst (λ r. Splits edition senders (stream ++ bytes) c.args.sender (before ++ c.loop-frame.frames.items) r) (sym kept) now.0,
      subst IsShort (sym kept) short,
      c.saturating_add.ensures ∙ now.1,
    )

pub returns-in-Bad-clause-reads : goal.returns-in-Bad-clause-reads
returns-in-Bad-clause-reads c edition senders stream before is =
    let bytes = c.args.bytes.now in
    let used = c.loop-frame.used in
    let now = c.loop-frame.invariant.reads edition senders stream before is in
    (drop used bytes, now.0, subst (λ b. IsFront b Bad) (take_rest bytes used) c.in-Bad.ensures, c.saturating_add-in-Bad.ensures ∙ now.1)

pub returns-in_err-push-in-Whole-clause-refused : goal.returns-in_err-push-in-Whole-clause-refused
returns-in_err-push-in-Whole-clause-refused c =
    let bytes = c.args.bytes.now in
    let used = c.loop-frame.used in
    let len = c.in-Whole.len in
    let rest = take_rest bytes used in
    on_err c.from_residual.result (frame_wanted c.args.sender c.args.offset c.args.frames.items bytes c.loop-frame.frames.items used len c.in-Whole.frame c.loop-frame.invariant
    (subst (λ b. len ≤ length b) rest c.in-Whole.ensures.0)
    (subst (λ b. Spells (take len b) c.in-Whole.frame) rest c.in-Whole.ensures.1))
