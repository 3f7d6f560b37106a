use Rattle.std.proofs.Common.{◌≡◌, ℕ, take}
use Rattle.std.specs.Prelude.{string_bytes}
use Rattle.cmh_audit3.specs.Journals.{journal_of}
use Rattle.cmh_files3.specs.Inner.Taken.{taken_at}
use Rattle.cmh_files3.specs.RunLines.{order_text, taken_by}
use Rattle.cmh_files3.proofs.run_lines.run_lines.Given as goal

abbrev pub invariant-loop-site : goal.invariant-loop-site
invariant-loop-site l =
    record {
      counts : (s : ℕ) → taken_at l.taken s ≡ taken_by (take l.site-index l.order) s;
      text : string_bytes l.text ≡ order_text (journal_of l.segments) (take l.site-index l.order);
    }
