use Rattle.std.proofs.Common.{length, drop, arith, ap, length-drop, length-append}
use Rattle.std.specs.Fmt.{decimal}
use Rattle.std.proofs.lemmas.Fmt.{length-decimal-le}
use Rattle.cmh_text.proofs.short_text.ShortText.put_number.Goals as goal

pub write_digits-self-inside-requires : goal.write_digits-self-inside-requires
write_digits-self-inside-requires c =
    let inside = c.self.inside in
    (omega (arith, length-decimal-le 20 c.args.number (omega arith) (omega arith) c.ranges.number.fits, c.requires, ap length c.self.view_is, length-drop inside.start inside.bytes, c.self.told), omega (arith, c.self.told, c.self.invariant))

pub returns-clause-len : goal.returns-clause-len
returns-clause-len c =
    let written = c.write_digits-self-inside in
    let inside = c.self.inside in
    omega (arith, length-decimal-le 20 c.args.number (omega arith) (omega arith) c.ranges.number.fits, ap length c.self.view_is, length-drop inside.start inside.bytes, c.self.told, ap length written.ensures.written, length-append (decimal c.args.number) (drop inside.start inside.bytes))
