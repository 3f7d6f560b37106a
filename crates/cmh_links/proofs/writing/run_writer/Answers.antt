use Rattle.std.proofs.Common.{ℕ, List, refl, ap, subst, ◌∙◌}
use Rattle.cmh_journal.specs.Sink.{TookPart, known_and}
use Rattle.cmh_links.proofs.Writes.{goes_first, goes_on, goes_still, fails_first, fails_at, fails_between}
use Rattle.cmh_links.proofs.writing.run_writer.Goals as goal

pub returns-in-Err-clause-wrote : goal.returns-in-Err-clause-wrote
returns-in-Err-clause-wrote g c =
    let e = c.in-Err.ensures in
    fails_first c.args.edition c.args.site (g.F.FrameSource.given c.args.source.now) (g.O.Outgoing.taken c.args.out.now) (g.O.Outgoing.failures c.args.out.now)
    (g.F.FrameSource.is_over c.args.source.now) (g.O.Outgoing.taken c.write_whole.new.out) (g.O.Outgoing.failures c.write_whole.new.out)
    (subst (λ (x : List ℕ). TookPart (g.O.Outgoing.taken c.args.out.now) x (g.O.Outgoing.taken c.write_whole.new.out)) c.encode_hello-hello.ensures e.part) e.err

pub loop-init : goal.loop-init
loop-init g c =
    let e = c.in_default.ensures in
    record {
      can = tt;
      ends = tt;
      goes = goes_first c.args.edition c.args.site (g.F.FrameSource.given c.args.source.now) (g.O.Outgoing.taken c.args.out.now) (g.O.Outgoing.failures c.args.out.now)
          (g.O.Outgoing.taken c.write_whole.new.out) (g.O.Outgoing.failures c.write_whole.new.out)
          (e.whole ∙ ap (known_and (g.O.Outgoing.taken c.args.out.now)) c.encode_hello-hello.ensures) e.ok;
      link = refl;
    }

pub returns-in-Err-write_whole-clause-wrote : goal.returns-in-Err-write_whole-clause-wrote
returns-in-Err-write_whole-clause-wrote g c =
    let e = c.in-Err-write_whole.ensures in
    fails_at c.args.edition c.args.site (g.F.FrameSource.given c.args.source.now) (g.O.Outgoing.taken c.args.out.now) (g.O.Outgoing.failures c.args.out.now)
    (g.F.FrameSource.given c.loop.source) (g.F.FrameSource.given c.next-in-loop.new.self) (g.F.FrameSource.given c.gather.new.source) (g.F.FrameSource.is_over c.gather.new.source)
    (g.O.Outgoing.taken c.loop.out) (g.O.Outgoing.taken c.write_whole-in-Frame.new.out) (g.O.Outgoing.failures c.loop.out) (g.O.Outgoing.failures c.write_whole-in-Frame.new.out)
    c.in-Frame.frame c.gather.new.bytes.items c.loop.invariant.goes c.in-Frame.ensures.gave c.gather.ensures.gathers
    (subst (λ (x : List ℕ). TookPart (g.O.Outgoing.taken c.loop.out) x (g.O.Outgoing.taken c.write_whole-in-Frame.new.out)) c.as_slice.ensures.value e.part) e.err

pub loop-preserved-in_default-write_whole : goal.loop-preserved-in_default-write_whole
loop-preserved-in_default-write_whole g c =
    let e = c.in_default-write_whole.ensures in
    record {
      can = tt;
      ends = tt;
      goes = goes_on c.args.edition c.args.site (g.F.FrameSource.given c.args.source.now) (g.O.Outgoing.taken c.args.out.now) (g.O.Outgoing.failures c.args.out.now)
          (g.F.FrameSource.given c.loop.source) (g.F.FrameSource.given c.next-in-loop.new.self) (g.F.FrameSource.given c.gather.new.source)
          (g.O.Outgoing.taken c.loop.out) (g.O.Outgoing.taken c.write_whole-in-Frame.new.out) (g.O.Outgoing.failures c.loop.out) (g.O.Outgoing.failures c.write_whole-in-Frame.new.out)
          c.in-Frame.frame c.gather.new.bytes.items c.loop.invariant.goes c.in-Frame.ensures.gave c.gather.ensures.gathers
          (e.whole ∙ ap (known_and (g.O.Outgoing.taken c.loop.out)) c.as_slice.ensures.value) e.ok;
      link = c.gather.ensures.link ∙ c.next-in-loop.ensures.link ∙ c.loop.invariant.link;
    }

pub loop-preserved : goal.loop-preserved
loop-preserved g c =
    let e = c.in_default-look.ensures in
    record {
      can = tt;
      ends = tt;
      goes = goes_still c.args.edition c.args.site (g.F.FrameSource.given c.args.source.now) (g.O.Outgoing.taken c.args.out.now) (g.O.Outgoing.failures c.args.out.now)
          (g.F.FrameSource.given c.loop.source) (g.F.FrameSource.given c.next-in-loop.new.self)
          (g.O.Outgoing.taken c.loop.out) (g.O.Outgoing.taken c.look.new.self) (g.O.Outgoing.failures c.loop.out) (g.O.Outgoing.failures c.look.new.self)
          c.loop.invariant.goes c.in-Look.ensures.gave c.look.ensures.taken e.count;
      link = c.next-in-loop.ensures.link ∙ c.loop.invariant.link;
    }

pub returns-in-Err-look-clause-wrote : goal.returns-in-Err-look-clause-wrote
returns-in-Err-look-clause-wrote g c =
    fails_between c.args.edition c.args.site (g.F.FrameSource.given c.args.source.now) (g.O.Outgoing.taken c.args.out.now) (g.O.Outgoing.failures c.args.out.now)
    (g.F.FrameSource.given c.loop.source) (g.F.FrameSource.given c.next-in-loop.new.self) (g.F.FrameSource.is_over c.next-in-loop.new.self)
    (g.O.Outgoing.taken c.loop.out) (g.O.Outgoing.taken c.look.new.self) (g.O.Outgoing.failures c.loop.out) (g.O.Outgoing.failures c.look.new.self)
    c.loop.invariant.goes c.in-Look.ensures.gave c.look.ensures.taken c.in-Err-look.ensures.count
