use Rattle.std.proofs.Common.{◌+◌, ◌<◌, ◌^◌, length, subst, sym}
use Rattle.cmh_segment3.specs.declared.links.LinkState.{LinkState}
use Rattle.cmh_node3.proofs.Linking.{countable_at}
use Rattle.cmh_node3.proofs.links.sender_at.Goals as goal

pub sender_of-requires : goal.sender_of-requires
sender_of-requires c = subst (λ (l : LinkState). l.out.acked + length l.out.kept < 2 ^ 64) (sym c.in-Some.ensures) (countable_at c.args.links.now c.args.site c.requires)
