use Rattle.std.proofs.Common.{ℕ, List, Vec, inl, inr, map, subst}
use Rattle.std.specs.Global.{Global}
use Rattle.std.specs.Prelude.{MatchBool}
use Rattle.cmh_console.specs.TopologyFile3.{SaysNoWorld}
use Rattle.cmh_files3.specs.declared.more.More.{More}
use Rattle.cmh_inputs.specs.Editions.{SaysSomeWorld}
use Rattle.cmh_commands.specs.Files.{AuditEndsByEdition}
use Rattle.cmh_commands.specs.Later.{OneBeginsLater}
use Rattle.cmh_commands.proofs.auditing.audit_whole.Goals as goal

abbrev bytes_of : List (Vec ℕ Global) → List (List ℕ)
bytes_of files = map (λ (file : Vec ℕ Global). file.items) files

pub returns-in-Ok-clause-audits_named : goal.returns-in-Ok-clause-audits_named
returns-in-Ok-clause-audits_named g c = λ more asked.
    let topology = c.in-Ok.files.topology.items in
    let says = subst (λ b. MatchBool b (SaysSomeWorld topology) (SaysNoWorld topology)) c.if-files_named.true c.in-Ok.ensures.edition in
    let later = subst (λ (files : List (Vec ℕ Global)). OneBeginsLater (bytes_of files)) c.deref.ensures.value (c.have_later.ensures c.if-have_later.true) in
    inl (topology, bytes_of c.in-Ok.files.journals.items, c.in-Ok.ensures.named, inr (inr (says, later, c.audit_all.ensures)))

pub returns-in-Ok-2-clause-audits_named : goal.returns-in-Ok-2-clause-audits_named
returns-in-Ok-2-clause-audits_named g c = λ more asked.
    let topology = c.in-Ok.files.topology.items in
    let files = bytes_of c.in-Ok.files.journals.items in
    inl (
      topology,
      files,
      c.in-Ok.ensures.named,
      subst (λ (m : More). AuditEndsByEdition m topology files c.args.out.now c.audit_files.new.out c.args.err.now c.audit_files.new.err c.audit_files.result) (c.more_of-more.ensures more asked) c.audit_files.ensures.ends,
    )

pub returns-in-Ok-2-clause-audits : goal.returns-in-Ok-2-clause-audits
returns-in-Ok-2-clause-audits g c = λ more asked.
    let topology = c.in-Ok.files.topology.items in
    let files = bytes_of c.in-Ok.files.journals.items in
    inl (
      topology,
      files,
      subst (λ (m : More). AuditEndsByEdition m topology files c.args.out.now c.audit_files.new.out c.args.err.now c.audit_files.new.err c.audit_files.result) (c.more_of-more.ensures more asked) c.audit_files.ensures.ends,
    )
