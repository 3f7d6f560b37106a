use Rattle.std.proofs.Common.{rules, ◌^◌, ◌-◌, ◌<◌, false, [], get_or, subst}
use Rattle.std.specs.Fmt.{HasWritten, digits, format_spec, padded_integral}
use Rattle.std.proofs.Output.{has_written_append, has_written_of_eq}
use Rattle.std.proofs.lemmas.Fmt.{hex_byte}
use Rattle.std.proofs.lemmas.List.{get_or_default}
use Rattle.cmh_frames.proofs.ListLemmas.{texts_written}
use Rattle.cmh_topology3.specs.World.{byte_text}
use Rattle.cmh_topology3.proofs.world.WorldDisplay.fmt.Goals as goal

pub loop-byte-preserved : goal.loop-byte-preserved
loop-byte-preserved g c = λ plain.
    let bytes = c.as_slice-bytes.result.now in
    let i = c.loop-byte.byte-index in
    let b = get_or bytes i 0 in
    let small : b < 2 ^ 8 = (c.type_inv.bytes i).fits in
    let written : HasWritten g.W.Write.write_str_gives c.loop-byte.f (padded_integral (format_spec 32 0 4 2 (2 ^ 64 - 1)) false [] (digits 16 false b)) c.write.new.self = search rules in
    has_written_of_eq _ _ _ _ _ (texts_written byte_text bytes i b c.loop-byte-test.true (get_or_default bytes i 0 b c.loop-byte-test.true))
    (has_written_append _ _ _ _ _ _ (c.loop-byte.invariant plain) (subst (λ bs. HasWritten g.W.Write.write_str_gives c.loop-byte.f bs c.write.new.self) (hex_byte false b small) written))
