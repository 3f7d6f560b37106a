use Rattle.std.proofs.Common.{[], ap, ◌∙◌, arith}
use Rattle.std.proofs.lemmas.List.{get_or_default}
use Rattle.cmh_waits.specs.Held.{Held, is_member}
use Rattle.cmh_waits.proofs.Kept.{kept_got_request}
use Rattle.cmh_waits.proofs.Updates.{rows_added, pair_added, none_added, request_held}
use Rattle.cmh_waits.proofs.local_waits.LocalWaits.got_request.Goals as goal

pub invariant_of-self : goal.invariant_of-self
invariant_of-self c =
    let w = c.self.inside in
    let ms = w.members in
    let lists = w.remote_owed.items in
    let p = c.in-Some.place in
    let at = c.in-Some.ensures in
    let other = ap (λ (v : Held). is_member v c.args.asker) c.self.view_is ∙ c.requires.elsewhere in
    let are = c.self.invariant.1 in
    let up = c.self.invariant.2.ascending in
    let old = c.index_mut.result.now in
    let was = c.index_mut.ensures.value ∙ get_or_default lists p old [] (omega (arith, at.0, are.lists_len)) in (
      c.self.invariant.0,
      rows_added ms w.owed.items lists up are p c.args.holder c.args.asker at.0 at.1 other old was c.insert.result c.insert.new.self c.insert.ensures.ok c.insert.ensures.err,
      kept_got_request c.insert.result _ _ c.args.holder c.args.asker other c.self.invariant.2
          (pair_added ms w.owed.items lists up are p c.args.holder c.args.asker at.0 at.1 other old was c.insert.result c.insert.new.self c.insert.ensures.ok)
          (none_added ms w.owed.items lists up are p c.args.holder c.args.asker at.0 at.1 other old was c.insert.result c.insert.new.self c.insert.ensures.err),
    )

pub returns-in-Some-clause-ok : goal.returns-in-Some-clause-ok
returns-in-Some-clause-ok c =
    let w = c.self.inside in
    let ms = w.members in
    let lists = w.remote_owed.items in
    let p = c.in-Some.place in
    let at = c.in-Some.ensures in
    let other = ap (λ (v : Held). is_member v c.args.asker) c.self.view_is ∙ c.requires.elsewhere in
    let are = c.self.invariant.1 in
    let up = c.self.invariant.2.ascending in
    let old = c.index_mut.result.now in
    let was = c.index_mut.ensures.value ∙ get_or_default lists p old [] (omega (arith, at.0, are.lists_len)) in
    request_held c.insert.result c.args.self.now ms _ _ _ c.args.holder c.args.asker c.self.view_is
    (pair_added ms w.owed.items lists up are p c.args.holder c.args.asker at.0 at.1 other old was c.insert.result c.insert.new.self c.insert.ensures.ok)
