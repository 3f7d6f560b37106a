-- Out of memory.
use Rattle.std.proofs.Common.{ℕ, ap, arith}
use Rattle.cmh_frames.specs.Topology.{Topology}
use Rattle.cmh_frames.specs.Rules.{Accepts}
use Rattle.cmh_frames.specs.State.{State}
use Rattle.cmh_frames.specs.declared.event.Event.{Event}
use Rattle.cmh_frames.specs.declared.event.Event.TheVariants.{Ask, Reply, Start, Got}
use Rattle.cmh_controller.specs.Refusals.{Holds, Refuses, number_of}
use Rattle.cmh_controller.specs.declared.refusal.Refusal.TheVariants.{Memory}
use Rattle.cmh_controller.proofs.Replaying.{not_accepted}

memory_holds : (t : Topology) (s : ℕ) (v : State) (e : Event) → Accepts t s v e → Holds t s v e Memory
memory_holds t s v (Ask asker targets) a = a
memory_holds t s v (Reply holder asker) a = a
memory_holds t s v (Start i) a = a
memory_holds t s v (Got b frame) a = a

pub memory_alone : (t : Topology) (s : ℕ) (v : State) (e : Event) → Refuses t s v e Memory → Accepts t s v e
memory_alone t s v (Ask asker targets) r = r.holds
memory_alone t s v (Reply holder asker) r = r.holds
memory_alone t s v (Start i) r = r.holds
memory_alone t s v (Got b frame) r = r.holds

-- it may refuse any event that the rules accept
pub wants_memory : (t : Topology) (s : ℕ) (v : State) (e : Event) → Accepts t s v e → Refuses t s v e Memory
wants_memory t s v e a = record {
  holds = memory_holds t s v e a;
  first = λ earlier less h. not_accepted t s v e earlier h (λ is. absurd (omega (arith, less, ap number_of is))) a;
}
