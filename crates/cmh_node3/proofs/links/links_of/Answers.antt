use Rattle.std.proofs.Common.{◌≡◌, ◌∙◌, map, sym, ap, subst, arith}
use Rattle.std.proofs.lemmas.List.{take_all}
use Rattle.cmh_segment3.specs.Base.{IsLinkRow, link_place}
use Rattle.cmh_segment3.specs.Rows.{AreRows}
use Rattle.cmh_node3.specs.Links.{link_of}
use Rattle.cmh_node3.proofs.Linking.{are_rows}
use Rattle.cmh_node3.proofs.links.links_of.Goals as goal

pub returns-clause-rows : goal.returns-clause-rows
returns-clause-rows c = λ can.
    let peers = c.args.peers.now in
    let i = c.loop-peer.peer-index in
    let all : c.new.result ≡ map link_of peers = c.new.ensures ∙ c.loop-peer.invariant.so_far ∙ ap (map link_of) (take_all i peers c.loop-peer-test.false) in
    let past = c.loop-peer-test.false in
    subst (AreRows IsLinkRow link_place) (sym all) (are_rows peers (λ k d inside. c.loop-peer.invariant.rows k d (omega (arith, inside, past))) can)
