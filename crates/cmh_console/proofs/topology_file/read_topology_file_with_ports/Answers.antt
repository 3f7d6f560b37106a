use Rattle.std.proofs.Common.{ap, sym, ◌∙◌}
use Rattle.cmh_console.specs.TopologyParts.{has_repeats}
use Rattle.cmh_console.proofs.TopologyFiles.{no_ports_apart, says_ports}
use Rattle.cmh_console.proofs.topology_file.read_topology_file_with_ports.Goals as goal

pub returns-then-has_repeats-clause-fault : goal.returns-then-has_repeats-clause-fault
returns-then-has_repeats-clause-fault c =
    no_ports_apart c.args.bytes.now _ c.in_ok-ports.ports.items c.in_ok-value.ensures.json c.in_ok-ports.ensures.ports
    (ap has_repeats (sym c.deref.ensures.value) ∙ sym c.has_repeats.ensures ∙ c.if-has_repeats.true)

pub returns-clause-ports : goal.returns-clause-ports
returns-clause-ports c =
    says_ports c.args.bytes.now _ c.in_ok-ports.ports.items c.in_ok-value.ensures.json c.in_ok-ports.ensures.ports
    (ap has_repeats (sym c.deref.ensures.value) ∙ sym c.has_repeats.ensures ∙ c.if-has_repeats.false)
