use Rattle.std.proofs.Common.{◌≡◌, ◌-◌, ◌^◌, List, length, min, refl, subst, ◌∙◌}
use Rattle.cmh_frames.specs.Journals.{sendings_of}
use Rattle.cmh_frames.specs.Entries.{Entry}
use Rattle.cmh_cluster.proofs.Tallies.{sendings_more}
use Rattle.cmh_cluster.proofs.settling.Sendings.count.Goals as goal

pub returns : goal.returns
returns c = record {
  link = refl;
  counted = λ before begins were. record {
    frames = c.saturating_add-self.ensures
        ∙ sendings_more before c.args.entries.now c.args.self.now.entries c.args.self.now.frames c.sendings_to-more.result begins were.looked c.args.self.now.to were.frames
        (subst (λ (es : List Entry). c.sendings_to-more.result ≡ min (length (sendings_of c.args.self.now.to es)) (2 ^ 64 - 1)) c.behind.ensures c.sendings_to-more.ensures);
    looked = refl;
  };
}
