use Rattle.std.proofs.Common.{◌≡◌, [], ◌∷◌, List, sym, subst, rules}
use Rattle.std.specs.List.{insert}
use Rattle.cmh_waits3.specs.declared.wait.Wait.{Wait}
use Rattle.cmh_waits3.specs.Inner.Inserting.{AreInserted, IsPlaceFor}
use Rattle.cmh_waits3.proofs.Rows.{put_at}
use Rattle.cmh_waits3.proofs.wait_list.insert.Goals as goal

pub returns-in-Err-clause-are : goal.returns-in-Err-clause-are
returns-in-Err-clause-are c =
    let ws = c.args.waits.now.items in
    let w : Wait = record { target = c.args.target; since = c.args.since } in
    let place : IsPlaceFor c.args.target c.in-Err.place ws = subst (λ (xs : List Wait). IsPlaceFor c.args.target c.in-Err.place xs) c.deref.ensures.value c.in-Err.ensures.before.1 in
    let are : c.insert.new.self.items ≡ insert ws c.in-Err.place w = search rules in
    subst (λ (xs : List Wait). AreInserted (c.args.target ∷ []) c.args.since ws xs) (sym are) (put_at c.args.target c.args.since ws c.in-Err.place c.requires.ascending place)
