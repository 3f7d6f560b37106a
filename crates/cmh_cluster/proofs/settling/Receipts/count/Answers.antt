use Rattle.std.proofs.Common.{◌≡◌, ◌-◌, ◌^◌, List, length, min, refl, subst, ◌∙◌}
use Rattle.cmh_frames.specs.Journals.{receipts_of}
use Rattle.cmh_frames.specs.Entries.{Entry}
use Rattle.cmh_cluster.proofs.Tallies.{receipts_more}
use Rattle.cmh_cluster.proofs.settling.Receipts.count.Goals as goal

pub returns : goal.returns
returns c = record {
  link = refl;
  counted = λ before begins were. record {
    frames = c.saturating_add-self.ensures
        ∙ receipts_more before c.args.entries.now c.args.self.now.entries c.args.self.now.frames c.receipts_from-more.result begins were.looked c.args.self.now.from were.frames
        (subst (λ (es : List Entry). c.receipts_from-more.result ≡ min (length (receipts_of c.args.self.now.from es)) (2 ^ 64 - 1)) c.behind.ensures c.receipts_from-more.ensures);
    looked = refl;
  };
}
