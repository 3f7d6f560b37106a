use Rattle.std.proofs.Common.{◌≡◌, [], ◌++◌, refl, sym, ap, ◌∙◌, subst, arith}
use Rattle.std.proofs.lemmas.Result.{IfOk-at_ok}
use Rattle.std.proofs.lemmas.Grind.{common_steps}
use Rattle.cmh_reader.specs.declared.fault.ReadFault.TheVariants.{BadHello, BadFrame}
use Rattle.cmh_reader.specs.Stream.{Reads, fault_of}
use Rattle.cmh_reader.specs.Reader.{Reader, StandsFor, ExpectsSame}
use Rattle.cmh_reader.specs.declared.reader.FrameReader.TheInside.{Inside}
use Rattle.cmh_reader.proofs.Faults.{fault_takes, not_memory}
use Rattle.cmh_reader.proofs.Links.{link_takes, link_faultless}
use Rattle.cmh_reader.proofs.Readings.{greeted_on}
use Rattle.cmh_reader.proofs.reader.FrameReader.feed.Goals as goal
use Rattle.cmh_reader.proofs.reader.FrameReader.feed.Goals.{in-Greeting, in-Open}

pub returns-in-NoHello-clause-no_frames : goal.returns-in-NoHello-clause-no_frames
returns-in-NoHello-clause-no_frames c _ =
    let is = ap fault_of (sym (ap (λ (r : Reader). r.standing) c.self.view_is) ∙ c.in-NoHello.is) in
    fault_takes c.args.self.now c.args.piece.now BadHello is

pub returns-in-NoHello-clause-link : goal.returns-in-NoHello-clause-link
returns-in-NoHello-clause-link c =
    let reader = c.args.self.now in
    let is = ap fault_of (sym (ap (λ (r : Reader). r.standing) c.self.view_is) ∙ c.in-NoHello.is) in
    link_faultless reader reader c.args.piece.now [] BadHello is (record { edition = refl; senders = refl }) (fault_takes reader c.args.piece.now BadHello is)

pub returns-in-Broken-clause-no_frames : goal.returns-in-Broken-clause-no_frames
returns-in-Broken-clause-no_frames c _ =
    let is = ap fault_of (sym (ap (λ (r : Reader). r.standing) c.self.view_is) ∙ c.in-Broken.is) in
    fault_takes c.args.self.now c.args.piece.now (BadFrame c.in-Broken.offset) is

pub returns-in-Broken-clause-link : goal.returns-in-Broken-clause-link
returns-in-Broken-clause-link c =
    let reader = c.args.self.now in
    let is = ap fault_of (sym (ap (λ (r : Reader). r.standing) c.self.view_is) ∙ c.in-Broken.is) in
    link_faultless reader reader c.args.piece.now [] (BadFrame c.in-Broken.offset) is (record { edition = refl; senders = refl }) (fault_takes reader c.args.piece.now (BadFrame c.in-Broken.offset) is)

pub returns-clause-frames : goal.returns-clause-frames
returns-clause-frames c stream frames stands =
    let old = c.self.inside in
    let senders = old.senders.items in
    let after = stream ++ c.args.piece.now in
    let new = c.in-Ok.field-0 in
    let same : c.match-self.self-inside ≡ old = elim c.match-self.branch [ in-Greeting w ↦ w.self-inside-is | in-Open w ↦ w.self-inside-is ] in
    let known : Reads old.edition senders stream frames old.standing = subst (λ (r : Reader). StandsFor r stream frames) (sym c.self.view_is) stands in
    let now : Reads old.edition senders after (frames ++ new.frames.items) new.standing = elim c.match-self.branch [
      | in-Greeting w ↦
          let all = IfOk-at_ok _ (sym w.progress-is ∙ c.in-Ok.is) w.greet-progress.ensures.reads in
          greeted_on old.edition senders w.deref.result.now stream after frames (frames ++ new.frames.items) old.standing new.standing w.in-Greeting.begun w.deref.ensures.value w.in-Greeting.is known (all stream frames)
      | in-Open w ↦
          let all = IfOk-at_ok _ (sym w.progress-is ∙ c.in-Ok.is) w.read_on-progress.ensures.reads in
          all old.edition senders stream frames (subst (Reads old.edition senders stream frames) w.in-Open.is known)
    ] in
    subst (λ (r : Inside). Reads r.edition r.senders.items after (frames ++ new.frames.items) new.standing) (sym same) now

pub returns-clause-link : goal.returns-clause-link
returns-clause-link c stream frames sent stands link =
    let inside = c.match-self.self-inside in
    let new : Reader = record { edition = inside.edition; senders = inside.senders.items; standing = c.in-Ok.field-0.standing; starved = inside.starved } in
    let kept : ExpectsSame c.args.self.now new = elim c.match-self.branch [
      | in-Greeting w ↦ record { edition = ap (λ (r : Inside). r.edition) w.self-inside-is ∙ ap (λ (r : Reader). r.edition) c.self.view_is; senders = ap (λ (r : Inside). r.senders.items) w.self-inside-is ∙ ap (λ (r : Reader). r.senders) c.self.view_is }
      | in-Open w ↦ record { edition = ap (λ (r : Inside). r.edition) w.self-inside-is ∙ ap (λ (r : Reader). r.edition) c.self.view_is; senders = ap (λ (r : Inside). r.senders.items) w.self-inside-is ∙ ap (λ (r : Reader). r.senders) c.self.view_is }
    ] in
    (link_takes c.args.self.now new c.args.piece.now c.in-Ok.field-0.frames.items kept (returns-clause-frames c) stream frames sent stands link).1

pub returns-in-Some-clause-no_frames : goal.returns-in-Some-clause-no_frames
returns-in-Some-clause-no_frames c fault stream frames stands =
    let old = c.self.inside in
    let senders = old.senders.items in
    let after = stream ++ c.args.piece.now in
    let new = c.in-Ok.field-0 in
    let empty : new.frames.items ≡ [] = grind (arith, common_steps, c.if-is_empty.ensures) in
    let same : c.match-self.self-inside ≡ old = elim c.match-self.branch [ in-Greeting w ↦ w.self-inside-is | in-Open w ↦ w.self-inside-is ] in
    let known : Reads old.edition senders stream frames old.standing = subst (λ (r : Reader). StandsFor r stream frames) (sym c.self.view_is) stands in
    let now : Reads old.edition senders after (frames ++ new.frames.items) new.standing = elim c.match-self.branch [
      | in-Greeting w ↦
          let all = IfOk-at_ok _ (sym w.progress-is ∙ c.in-Ok.is) w.greet-progress.ensures.reads in
          greeted_on old.edition senders w.deref.result.now stream after frames (frames ++ new.frames.items) old.standing new.standing w.in-Greeting.begun w.deref.ensures.value w.in-Greeting.is known (all stream frames)
      | in-Open w ↦
          let all = IfOk-at_ok _ (sym w.progress-is ∙ c.in-Ok.is) w.read_on-progress.ensures.reads in
          all old.edition senders stream frames (subst (Reads old.edition senders stream frames) w.in-Open.is known)
    ] in
    subst (λ (r : Inside). Reads r.edition r.senders.items after (frames ++ []) new.standing) (sym same) (subst (λ fs. Reads old.edition senders after (frames ++ fs) new.standing) empty now)

pub returns-in-Some-clause-link : goal.returns-in-Some-clause-link
returns-in-Some-clause-link c =
    let inside = c.match-self.self-inside in
    let new : Reader = record { edition = inside.edition; senders = inside.senders.items; standing = c.in-Ok.field-0.standing; starved = inside.starved } in
    let kept : ExpectsSame c.args.self.now new = elim c.match-self.branch [
      | in-Greeting w ↦ record { edition = ap (λ (r : Inside). r.edition) w.self-inside-is ∙ ap (λ (r : Reader). r.edition) c.self.view_is; senders = ap (λ (r : Inside). r.senders.items) w.self-inside-is ∙ ap (λ (r : Reader). r.senders) c.self.view_is }
      | in-Open w ↦ record { edition = ap (λ (r : Inside). r.edition) w.self-inside-is ∙ ap (λ (r : Reader). r.edition) c.self.view_is; senders = ap (λ (r : Inside). r.senders.items) w.self-inside-is ∙ ap (λ (r : Reader). r.senders) c.self.view_is }
    ] in
    let is = sym c.fault.ensures ∙ c.in-Some.is in
    link_faultless c.args.self.now new c.args.piece.now [] c.in-Some.fault is kept (returns-in-Some-clause-no_frames c (not_memory new.standing c.in-Some.fault is))
