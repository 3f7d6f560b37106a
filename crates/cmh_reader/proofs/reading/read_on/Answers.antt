use Rattle.std.proofs.Common.{◌≡◌, ◌≤◌, ◌-◌, [], ◌∷◌, ◌++◌, length, take, drop, sym, ap, ◌∙◌, subst, arith, rules, append_assoc}
use Rattle.std.proofs.lemmas.List.{append-nil, take-append-drop, take_rest}
use Rattle.std.proofs.lemmas.Result.{IfOk-weaker}
use Rattle.cmh_frames.specs.Wire.{IsShort, IsFront, Spells}
use Rattle.cmh_frames.specs.declared.frame.Front.TheVariants.{Bad}
use Rattle.cmh_reader.specs.Stream.{Reads}
use Rattle.cmh_reader.specs.declared.standing.Standing.TheVariants.{Open, Broken}
use Rattle.cmh_reader.proofs.Readings.{begun_short, begun_bad, begun_whole, finish_in_range}
use Rattle.cmh_reader.proofs.Wanted.{begun_wanted, on_err}
use Rattle.cmh_reader.proofs.reading.read_on.Goals as goal

pub slice_bounds-read_frames-count : goal.slice_bounds-read_frames-count
slice_bounds-read_frames-count c =
    let bytes_are = c.as_slice.ensures.value ∙ c.joined-bytes.ensures in
    let h = finish_in_range c.args.begun.now c.args.piece.now c.in-Whole.len (subst (λ b. c.in-Whole.len ≤ length b) bytes_are c.in-Whole.ensures.0) in
    omega arith

pub slice_bounds-read_frames-start : goal.slice_bounds-read_frames-start
slice_bounds-read_frames-start c =
    let bytes_are = c.as_slice.ensures.value ∙ c.joined-bytes.ensures in
    let h = finish_in_range c.args.begun.now c.args.piece.now c.in-Whole.len (subst (λ b. c.in-Whole.len ≤ length b) bytes_are c.in-Whole.ensures.0) in
    search rules

pub returns-in-Short-clause-reads : goal.returns-in-Short-clause-reads
returns-in-Short-clause-reads c edition senders stream before is =
    let begun = c.args.begun.now in
    let piece = c.args.piece.now in
    let short = subst IsShort c.as_slice.ensures.value c.in-Short.ensures in
    let now = begun_short edition senders stream c.args.sender c.args.offset before begun piece c.joined-bytes.result is c.joined-bytes.ensures short in
    let none : before ≡ before ++ c.new-frames.result.items = sym (ap (λ new. before ++ new) c.new-frames.ensures.items ∙ append-nil before) in
    subst (λ fs. Reads edition senders (stream ++ piece) fs (Open c.args.sender c.joined-bytes.result c.args.offset)) none now

pub returns-in-Bad-clause-reads : goal.returns-in-Bad-clause-reads
returns-in-Bad-clause-reads c edition senders stream before is =
    let begun = c.args.begun.now in
    let piece = c.args.piece.now in
    let bad = subst (λ b. IsFront b Bad) c.as_slice.ensures.value c.in-Bad.ensures in
    let now = begun_bad edition senders stream c.args.sender c.args.offset before begun piece c.joined-bytes.result is c.joined-bytes.ensures bad in
    let none : before ≡ before ++ c.new-frames.result.items = sym (ap (λ new. before ++ new) c.new-frames.ensures.items ∙ append-nil before) in
    subst (λ fs. Reads edition senders (stream ++ piece) fs (Broken c.args.sender c.args.offset)) none now

pub returns-in_ok-push-in-Whole-clause-reads : goal.returns-in_ok-push-in-Whole-clause-reads
returns-in_ok-push-in-Whole-clause-reads c =
    let begun = c.args.begun.now in
    let piece = c.args.piece.now in
    let f = c.in-Whole.frame in
    let n = c.in-Whole.len in
    let at = n - c.len.result in
    let next = c.saturating_add.result in
    let bytes_are = c.as_slice.ensures.value in
    let cut = subst (λ b. n ≤ length b) bytes_are c.in-Whole.ensures.0 in
    let spells = subst (λ b. Spells (take n b) f) bytes_are c.in-Whole.ensures.1 in
    let at_is : n - length begun ≡ at = ap (λ k. n - k) (sym c.len.ensures) in
    let pushed : f ∷ [] ≡ c.push.new.self.items = sym (c.in_ok-push-in-Whole.ensures.items ∙ ap (λ fs. fs ++ f ∷ []) c.new-frames.ensures.items) in
    IfOk-weaker c.read_frames.result _ _
    (λ progress reads edition senders stream before is.
    let whole = begun_whole edition senders stream c.args.sender c.args.offset next before begun piece c.joined-bytes.result f n is c.joined-bytes.ensures cut spells c.saturating_add.ensures in
    let now = subst (λ fs. Reads edition senders (stream ++ take at piece) (before ++ fs) (Open c.args.sender [] next)) pushed
    (subst (λ k. Reads edition senders (stream ++ take k piece) (before ++ f ∷ []) (Open c.args.sender [] next)) at_is whole) in
    subst (λ b. Reads edition senders b (before ++ progress.frames.items) progress.standing)
    (append_assoc stream (take at piece) (take (length piece - at) (drop at piece)) ∙ ap (λ b. stream ++ b) (ap (λ b. take at piece ++ b) (take_rest piece at) ∙ take-append-drop at piece))
    (reads edition senders (stream ++ take at piece) before now))
    c.read_frames.ensures.reads

pub returns-in_err-push-in-Whole-clause-refused : goal.returns-in_err-push-in-Whole-clause-refused
returns-in_err-push-in-Whole-clause-refused c =
    let f = c.in-Whole.frame in
    let n = c.in-Whole.len in
    let cut = subst (λ b. n ≤ length b) c.as_slice.ensures.value c.in-Whole.ensures.0 in
    let spells = subst (λ b. Spells (take n b) f) c.as_slice.ensures.value c.in-Whole.ensures.1 in
    on_err c.from_residual.result (λ edition senders stream before is.
    begun_wanted edition senders stream c.args.sender c.args.offset before c.args.begun.now c.args.piece.now c.joined-bytes.result f n is c.joined-bytes.ensures cut spells)

pub returns-in_ok-push-in-Whole-clause-refused : goal.returns-in_ok-push-in-Whole-clause-refused
returns-in_ok-push-in-Whole-clause-refused c =
    let f = c.in-Whole.frame in
    let n = c.in-Whole.len in
    let cut = subst (λ b. n ≤ length b) c.as_slice.ensures.value c.in-Whole.ensures.0 in
    let spells = subst (λ b. Spells (take n b) f) c.as_slice.ensures.value c.in-Whole.ensures.1 in
    on_err c.read_frames.result (λ edition senders stream before is.
    begun_wanted edition senders stream c.args.sender c.args.offset before c.args.begun.now c.args.piece.now c.joined-bytes.result f n is c.joined-bytes.ensures cut spells)
