use Rattle.std.proofs.Common.{sym, drop, length, arith}
use Rattle.std.proofs.lemmas.Bool.Decides.{Decides-eqb}
use Rattle.std.proofs.lemmas.Slice.Eq.{starts_is}
use Rattle.cmh_files.proofs.ReadLemmas.{faulty_first, faulty_second, fewer}
use Rattle.cmh_files.proofs.reading.reading_of.Goals as goal

pub returns-then-not-starts_with : goal.returns-then-not-starts_with
returns-then-not-starts_with c = λ before journal r.
    let begins = (starts_is Decides-eqb c.args.second.now c.args.first.now c.starts_with.result c.starts_with.ensures.value).1 r.grew.0 (sym r.grew.1) in
    let not = c.if-not-starts_with.true in
    cc

pub returns-in_default : goal.returns-in_default
returns-in_default c = λ before journal r. faulty_first c.args.first.now c.args.second.now before journal r c.in_default.field-0 c.in_default.ensures.fault c.in_default.ensures.memory

pub returns-in_default-read_stored : goal.returns-in_default-read_stored
returns-in_default-read_stored c = λ before journal r. faulty_second c.args.first.now c.args.second.now before journal r c.in_default-read_stored.field-0 c.in_default-read_stored.ensures.fault c.in_default-read_stored.ensures.memory

pub returns-then-len : goal.returns-then-len
returns-then-len c = λ before journal r.
    let a = c.len.ensures.value in
    let b = c.len-2.ensures.value in
    let more = c.if-len.true in
    fewer c.args.first.now c.args.second.now before journal r c.in-Ok.earlier c.in-Ok-read_stored.journal c.in-Ok.field-0-1 c.in-Ok-read_stored.field-0-1 c.in-Ok.ensures.ok c.in-Ok-read_stored.ensures.ok (omega (arith, a, b, more))

pub returns : goal.returns
returns c =
    let a = c.len.ensures.value in
    let b = c.len-2.ensures.value in
    let d = c.len-3.ensures.value in
    let few = c.if-len.false in
    record {
      earlier = c.in-Ok.earlier;
      first_tail = c.in-Ok.field-0-1;
      second_tail = c.in-Ok-read_stored.field-0-1;
      first_is = c.in-Ok.ensures.ok;
      second_is = c.in-Ok-read_stored.ensures.ok;
      grew = (drop (length c.args.first.now) c.args.second.now, sym ((starts_is Decides-eqb c.args.second.now c.args.first.now c.starts_with.result c.starts_with.ensures.value).0 (let yes = c.if-not-starts_with.false in cc)));
      before_is = d;
      within = omega (arith, a, b, d, few);
    }
