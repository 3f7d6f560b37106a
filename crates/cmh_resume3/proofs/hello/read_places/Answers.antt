use Rattle.cmh_resume3.proofs.Places.{no_epoch, no_from, no_to}
use Rattle.cmh_resume3.proofs.hello.read_places.Goals as goal

pub returns-in_default-site : goal.returns-in_default-site
returns-in_default-site c =
    let first = c.in-Some.ensures in
    no_from c.args.cursor.now c.in-Some.world c.read_world.new.cursor first.is_one first.bytes_are c.in_default-site.ensures

pub returns-in_default-site-2 : goal.returns-in_default-site-2
returns-in_default-site-2 c =
    let first = c.in-Some.ensures in
    no_to c.args.cursor.now c.in-Some.world c.read_world.new.cursor first.is_one first.bytes_are
    c.in-Some-site.from c.site.new.self c.in-Some-site.ensures.bytes_are c.in_default-site-2.ensures

pub returns-in_default-u32 : goal.returns-in_default-u32
returns-in_default-u32 c =
    let first = c.in-Some.ensures in
    no_epoch c.args.cursor.now c.in-Some.world c.read_world.new.cursor first.is_one first.bytes_are
    c.in-Some-site.from c.site.new.self c.in-Some-site.ensures.bytes_are
    c.in-Some-site-2.to c.site-2.new.self c.in-Some-site-2.ensures.bytes_are c.in_default-u32.ensures.none
