use Rattle.std.proofs.Common.{arith, sym, ◌∙◌}
use Rattle.std.proofs.lemmas.List.{take_rest}
use Rattle.cmh_frames.proofs.Hellos.{hello_read}
use Rattle.cmh_frames.proofs.hello.decode_hello.Goals as goal

-- the site that was read has the bytes for its hello
pub returns-clause-some : goal.returns-clause-some
returns-clause-some c =
    let found = c.in_ok-site.ensures in
    (rw found.1 found.0, hello_read c.args.bytes.now _ _ _ (take_rest c.args.bytes.now 4) (λ i. omega (arith, c.type_inv.bytes i)) c.requires (sym c.starts_with.ensures.value ∙ c.if-not-starts_with.false) (c.if-bytes-number.false ∙ c.number.ensures) (found.1 ∙ c.read_u16.ensures))
