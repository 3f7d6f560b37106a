use Rattle.std.proofs.Common.{ℕ, length, take, ap, refl, ◌∙◌}
use Rattle.cmh_archive3.proofs.Ends.{mark_of}
use Rattle.cmh_archive3.proofs.summary.summary_with.Goals as goal

pub returns : goal.returns
returns c = λ read. record {
  segment = c.args.segment.now;
  read = read;
  header_is = refl;
  entries_are = ap length c.as_slice.ensures;
  bytes_are = refl;
  mark_is = mark_of c.args.bytes.now c.split_at.result.0.now c.args.segment.now c.args.tail c.mark_at_end.result read
      (c.split_at.ensures.front ∙ ap (λ (n : ℕ). take n c.args.bytes.now) c.saturating_sub.ensures) c.mark_at_end.ensures;
}
