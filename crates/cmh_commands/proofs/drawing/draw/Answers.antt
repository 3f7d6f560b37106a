use Rattle.std.proofs.Common.{ℕ, List, Option, Vec, inl, map, subst, sym}
use Rattle.std.specs.Global.{Global}
use Rattle.clap.specs.Matches.{found_of}
use Rattle.cmh_draw.specs.declared.picture.Kind.{Kind as AKind}
use Rattle.cmh_draw3.specs.Epochs.{LongDrawEnds}
use Rattle.cmh_picture.specs.declared.format.Format.{Format as AFormat}
use Rattle.cmh_picture.specs.declared.part.Part.{Part as APart}
use Rattle.cmh_commands.specs.Drawing.{DrawEndsByEdition, DrawsFiles, DrawsNamed, part_between}
use Rattle.cmh_commands.proofs.EpochLemmas.{all_drawn}
use Rattle.cmh_commands.proofs.drawing.draw.Goals as goal

abbrev bytes_of : List (Vec ℕ Global) → List (List ℕ)
bytes_of files = map (λ (file : Vec ℕ Global). file.items) files

abbrev segments_of : List (Vec (Vec ℕ Global) Global) → List (List (List ℕ))
segments_of files = map (λ (segments : Vec (Vec ℕ Global) Global). bytes_of segments.items) files

-- ---- the newest segments, or journals of editions 1 and 2

pub returns-in-Ok-2-clause-draws_named : goal.returns-in-Ok-2-clause-draws_named
returns-in-Ok-2-clause-draws_named g c = λ kind format first last epoch told how from to turned.
    let Ends : Option ℕ → Type 0 = λ e. DrawEndsByEdition c.in-Ok.files.topology.items (bytes_of c.in-Ok.files.journals.items)
    c.kind_of-kind.result c.format_of-format.result c.part_of-part.result e
    c.args.out.now c.draw_by_edition.new.out c.args.err.now c.draw_by_edition.new.err c.draw_by_edition.result in
    let ends : Ends c.epoch_of-epoch.result = subst Ends (sym (c.needs_all.ensures.newest c.if-needs_all.false)) c.draw_by_edition.ensures.ends in
    let Draws : AKind → AFormat → Option APart → Option ℕ → Type 0 = λ k f p e.
    DrawsNamed (g.N.Inputs.holds c.args.inputs.now) (found_of c.args.words.now) k f p e
    c.args.out.now c.draw_by_edition.new.out c.args.err.now c.draw_by_edition.new.err c.draw_by_edition.result in
    subst (λ (k : AKind). Draws k format (part_between first last) epoch) (c.kind_of-kind.ensures kind told)
    (subst (λ (f : AFormat). Draws c.kind_of-kind.result f (part_between first last) epoch) (c.format_of-format.ensures format how)
    (subst (λ (p : Option APart). Draws c.kind_of-kind.result c.format_of-format.result p epoch) (c.part_of-part.ensures first last from to)
    (subst (λ (e : Option ℕ). Draws c.kind_of-kind.result c.format_of-format.result c.part_of-part.result e) (c.epoch_of-epoch.ensures epoch turned)
    (inl (_, _, c.in-Ok.ensures.named, ends)))))

pub returns-in-Ok-2-clause-draws : goal.returns-in-Ok-2-clause-draws
returns-in-Ok-2-clause-draws g c = λ kind format first last epoch told how from to turned.
    let Ends : Option ℕ → Type 0 = λ e. DrawEndsByEdition c.in-Ok.files.topology.items (bytes_of c.in-Ok.files.journals.items)
    c.kind_of-kind.result c.format_of-format.result c.part_of-part.result e
    c.args.out.now c.draw_by_edition.new.out c.args.err.now c.draw_by_edition.new.err c.draw_by_edition.result in
    let ends : Ends c.epoch_of-epoch.result = subst Ends (sym (c.needs_all.ensures.newest c.if-needs_all.false)) c.draw_by_edition.ensures.ends in
    let Draws : AKind → AFormat → Option APart → Option ℕ → Type 0 = λ k f p e.
    DrawsFiles k f p e c.args.out.now c.draw_by_edition.new.out c.args.err.now c.draw_by_edition.new.err c.draw_by_edition.result in
    subst (λ (k : AKind). Draws k format (part_between first last) epoch) (c.kind_of-kind.ensures kind told)
    (subst (λ (f : AFormat). Draws c.kind_of-kind.result f (part_between first last) epoch) (c.format_of-format.ensures format how)
    (subst (λ (p : Option APart). Draws c.kind_of-kind.result c.format_of-format.result p epoch) (c.part_of-part.ensures first last from to)
    (subst (λ (e : Option ℕ). Draws c.kind_of-kind.result c.format_of-format.result c.part_of-part.result e) (c.epoch_of-epoch.ensures epoch turned)
    (inl (_, _, ends)))))

-- ---- all segments

pub returns-in-Ok-all_named-clause-draws_named : goal.returns-in-Ok-all_named-clause-draws_named
returns-in-Ok-all_named-clause-draws_named g c = λ kind format first last epoch told how from to turned.
    let topology = c.in-Ok.files.topology.items in
    let files = bytes_of c.in-Ok.files.journals.items in
    let segments = segments_of c.in-Ok-all_named.files.journals.items in
    let ends = subst (λ (t : List ℕ). LongDrawEnds t segments c.epoch_of-epoch.result c.kind_of-kind.result c.format_of-format.result c.part_of-part.result
    c.args.out.now c.draw_epochs.new.out c.args.err.now c.draw_epochs.new.err c.draw_epochs.result) c.in-Ok-all_named.ensures.topology c.draw_epochs.ensures.ends in
    let Draws : AKind → AFormat → Option APart → Option ℕ → Type 0 = λ k f p e.
    DrawsNamed (g.N.Inputs.holds c.args.inputs.now) (found_of c.args.words.now) k f p e
    c.args.out.now c.draw_epochs.new.out c.args.err.now c.draw_epochs.new.err c.draw_epochs.result in
    subst (λ (k : AKind). Draws k format (part_between first last) epoch) (c.kind_of-kind.ensures kind told)
    (subst (λ (f : AFormat). Draws c.kind_of-kind.result f (part_between first last) epoch) (c.format_of-format.ensures format how)
    (subst (λ (p : Option APart). Draws c.kind_of-kind.result c.format_of-format.result p epoch) (c.part_of-part.ensures first last from to)
    (subst (λ (e : Option ℕ). Draws c.kind_of-kind.result c.format_of-format.result c.part_of-part.result e) (c.epoch_of-epoch.ensures epoch turned)
    (inl (_, _, c.in-Ok.ensures.named, all_drawn topology files segments _ _ _ c.epoch_of-epoch.result (c.needs_all.ensures.all c.if-needs_all.true) ends)))))

pub returns-in-Ok-all_named-clause-draws : goal.returns-in-Ok-all_named-clause-draws
returns-in-Ok-all_named-clause-draws g c = λ kind format first last epoch told how from to turned.
    let topology = c.in-Ok.files.topology.items in
    let files = bytes_of c.in-Ok.files.journals.items in
    let segments = segments_of c.in-Ok-all_named.files.journals.items in
    let ends = subst (λ (t : List ℕ). LongDrawEnds t segments c.epoch_of-epoch.result c.kind_of-kind.result c.format_of-format.result c.part_of-part.result
    c.args.out.now c.draw_epochs.new.out c.args.err.now c.draw_epochs.new.err c.draw_epochs.result) c.in-Ok-all_named.ensures.topology c.draw_epochs.ensures.ends in
    let Draws : AKind → AFormat → Option APart → Option ℕ → Type 0 = λ k f p e.
    DrawsFiles k f p e c.args.out.now c.draw_epochs.new.out c.args.err.now c.draw_epochs.new.err c.draw_epochs.result in
    subst (λ (k : AKind). Draws k format (part_between first last) epoch) (c.kind_of-kind.ensures kind told)
    (subst (λ (f : AFormat). Draws c.kind_of-kind.result f (part_between first last) epoch) (c.format_of-format.ensures format how)
    (subst (λ (p : Option APart). Draws c.kind_of-kind.result c.format_of-format.result p epoch) (c.part_of-part.ensures first last from to)
    (subst (λ (e : Option ℕ). Draws c.kind_of-kind.result c.format_of-format.result c.part_of-part.result e) (c.epoch_of-epoch.ensures epoch turned)
    (inl (_, _, all_drawn topology files segments _ _ _ c.epoch_of-epoch.result (c.needs_all.ensures.all c.if-needs_all.true) ends)))))

pub returns-in-Ok-2-clause-draws_some : goal.returns-in-Ok-2-clause-draws_some
returns-in-Ok-2-clause-draws_some g c =
    let Ends : Option ℕ → Type 0 = λ e. DrawEndsByEdition c.in-Ok.files.topology.items (bytes_of c.in-Ok.files.journals.items)
    c.kind_of-kind.result c.format_of-format.result c.part_of-part.result e
    c.args.out.now c.draw_by_edition.new.out c.args.err.now c.draw_by_edition.new.err c.draw_by_edition.result in
    let ends : Ends c.epoch_of-epoch.result = subst Ends (sym (c.needs_all.ensures.newest c.if-needs_all.false)) c.draw_by_edition.ensures.ends in (
      c.kind_of-kind.result,
      c.format_of-format.result,
      c.part_of-part.result,
      c.epoch_of-epoch.result,
      inl (c.in-Ok.files.topology.items, bytes_of c.in-Ok.files.journals.items, ends),
    )

pub returns-in-Ok-all_named-clause-draws_some : goal.returns-in-Ok-all_named-clause-draws_some
returns-in-Ok-all_named-clause-draws_some g c =
    let topology = c.in-Ok.files.topology.items in
    let files = bytes_of c.in-Ok.files.journals.items in
    let segments = segments_of c.in-Ok-all_named.files.journals.items in
    let ends = subst (λ (t : List ℕ). LongDrawEnds t segments c.epoch_of-epoch.result c.kind_of-kind.result c.format_of-format.result c.part_of-part.result
    c.args.out.now c.draw_epochs.new.out c.args.err.now c.draw_epochs.new.err c.draw_epochs.result) c.in-Ok-all_named.ensures.topology c.draw_epochs.ensures.ends in (
      c.kind_of-kind.result,
      c.format_of-format.result,
      c.part_of-part.result,
      c.epoch_of-epoch.result,
      inl (topology, files, all_drawn topology files segments _ _ _ c.epoch_of-epoch.result (c.needs_all.ensures.all c.if-needs_all.true) ends),
    )
