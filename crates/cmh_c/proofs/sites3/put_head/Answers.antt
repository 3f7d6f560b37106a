use Rattle.std.proofs.Common.{sym, ◌∙◌, arith}
use Rattle.std.proofs.lemmas.List.{length-take-le}
use Rattle.cmh_c.proofs.sites3.put_head.Goals as goal

pub slice_bounds-copy_from_slice-end-2 : goal.slice_bounds-copy_from_slice-end-2
slice_bounds-copy_from_slice-end-2 c =
    let room = c.if-out-bytes.false in
    let long = c.requires in
    sym (length-take-le 71 c.args.out.now (omega (arith, room, long)))

pub copy_from_slice-requires : goal.copy_from_slice-requires
copy_from_slice-requires c =
    let room = c.if-out-bytes.false in
    let long = c.requires in
    length-take-le 71 c.args.out.now (omega (arith, room, long)) ∙ sym long
