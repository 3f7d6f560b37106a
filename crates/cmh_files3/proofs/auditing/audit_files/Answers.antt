use Rattle.cmh_files3.proofs.auditing.audit_files.Goals as goal

pub finding_on-requires : goal.finding_on-requires
finding_on-requires c = c.in_ok-world.ensures.read.set

pub returns-clause-audits : goal.returns-clause-audits
returns-clause-audits c =
    let read = c.in_ok-world.ensures.read in
    record {
      segments = c.in_ok-world.field-0.segments.items;
      says = read.says;
      read = read.read;
      set = read.set;
      finds = c.in_ok-told.ensures.finding;
    }
