use Rattle.std.proofs.Common.{◌≡◌, ◌≤◌, ◌-◌, [], ◌++◌, length, take, drop, sym, ap, ◌∙◌, subst, arith, rules, append_assoc, length-append, length-take}
use Rattle.std.specs.Prelude.{Contains}
use Rattle.std.proofs.lemmas.List.{take-append-drop, take_rest}
use Rattle.std.proofs.lemmas.Result.{IfOk-weaker, on_err_weaker}
use Rattle.cmh_reader.specs.Stream.{HasMore, Reads}
use Rattle.cmh_reader.specs.declared.standing.Standing.TheVariants.{Open}
use Rattle.cmh_reader.proofs.Hellos.{greeted}
use Rattle.cmh_reader.proofs.reading.greet.Goals as goal

pub slice_bounds-read_frames-count : goal.slice_bounds-read_frames-count
slice_bounds-read_frames-count c = omega (arith, ap length c.joined-bytes.ensures, length-take 6 (c.args.begun.now ++ c.args.piece.now), length-append c.args.begun.now c.args.piece.now)

pub slice_bounds-read_frames-start : goal.slice_bounds-read_frames-start
slice_bounds-read_frames-start c =
    let h : 6 - c.len-taken.result ≤ length c.args.piece.now = omega (arith, ap length c.joined-bytes.ensures, length-take 6 (c.args.begun.now ++ c.args.piece.now), length-append c.args.begun.now c.args.piece.now) in
    search rules

pub returns-clause-reads : goal.returns-clause-reads
returns-clause-reads c =
    let begun = c.args.begun.now in
    let piece = c.args.piece.now in
    let senders = c.args.senders.now in
    let sender = c.in-Some.sender in
    let at = 6 - c.len-taken.result in
    let at_is : 6 - length begun ≡ at = ap (λ k. 6 - k) (sym c.len-taken.ensures) in
    let expected : Contains senders sender = search rules in
    IfOk-weaker c.read_frames.result _ _
    (λ progress reads stream before is.
    let whole = greeted c.args.edition senders stream before begun piece c.as_slice.result.now sender is.1 is.2 c.requires (c.as_slice.ensures.value ∙ c.joined-bytes.ensures) c.in-Some.ensures.some.0 c.in-Some.ensures.some.1 expected in
    let now = subst (λ fs. Reads c.args.edition senders (stream ++ take at piece) (before ++ fs) (Open sender [] 6)) (sym c.new-frames.ensures.items)
    (subst (λ k. Reads c.args.edition senders (stream ++ take k piece) (before ++ []) (Open sender [] 6)) at_is whole) in
    subst (λ b. Reads c.args.edition senders b (before ++ progress.frames.items) progress.standing)
    (append_assoc stream (take at piece) (take (length piece - at) (drop at piece)) ∙ ap (λ b. stream ++ b) (ap (λ b. take at piece ++ b) (take_rest piece at) ∙ take-append-drop at piece))
    (reads c.args.edition senders (stream ++ take at piece) before now))
    c.read_frames.ensures.reads

pub returns-clause-refused : goal.returns-clause-refused
returns-clause-refused c =
    let begun = c.args.begun.now in
    let piece = c.args.piece.now in
    let senders = c.args.senders.now in
    let sender = c.in-Some.sender in
    let at = 6 - c.len-taken.result in
    let at_is : 6 - length begun ≡ at = ap (λ k. 6 - k) (sym c.len-taken.ensures) in
    let expected : Contains senders sender = search rules in
    on_err_weaker c.read_frames.result
    (λ refused stream before is.
    let whole = greeted c.args.edition senders stream before begun piece c.as_slice.result.now sender is.1 is.2 c.requires (c.as_slice.ensures.value ∙ c.joined-bytes.ensures) c.in-Some.ensures.some.0 c.in-Some.ensures.some.1 expected in
    let now = subst (λ fs. Reads c.args.edition senders (stream ++ take at piece) (before ++ fs) (Open sender [] 6)) (sym c.new-frames.ensures.items)
    (subst (λ k. Reads c.args.edition senders (stream ++ take k piece) (before ++ []) (Open sender [] 6)) at_is whole) in
    subst (λ b. HasMore c.args.edition senders b before)
    (append_assoc stream (take at piece) (take (length piece - at) (drop at piece)) ∙ ap (λ b. stream ++ b) (ap (λ b. take at piece ++ b) (take_rest piece at) ∙ take-append-drop at piece))
    (refused c.args.edition senders (stream ++ take at piece) before now))
    c.read_frames.ensures.refused
