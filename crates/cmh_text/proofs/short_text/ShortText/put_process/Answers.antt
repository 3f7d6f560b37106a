use Rattle.std.proofs.Common.{length, ap, arith, length-append}
use Rattle.std.specs.Fmt.{decimal}
use Rattle.std.proofs.lemmas.Fmt.{length-decimal-le}
use Rattle.cmh_text.proofs.short_text.ShortText.put_process.Goals as goal

pub returns-clause-len : goal.returns-clause-len
returns-clause-len c =
    let number = c.from.result in
    omega (arith, ap length c.put_number.ensures.text, length-append (decimal number) c.args.self.now, c.from.ensures, c.get.ensures.number.most, length-decimal-le 4 number (omega arith) (omega (arith, c.from.ensures, c.get.ensures.number.most)) (omega (arith, c.from.ensures, c.get.ensures.number.most)))
