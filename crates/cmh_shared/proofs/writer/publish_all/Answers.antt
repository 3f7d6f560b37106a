use Rattle.std.proofs.Common.{◌≡◌, sym, ◌∙◌, ap, subst}
use Rattle.cmh_shared.specs.Boards.{State}
use Rattle.cmh_shared.proofs.Sight.{sees}
use Rattle.cmh_shared.proofs.writer.publish_all.Goals as goal

pub publish_as-writer-requires : goal.publish_as-writer-requires
publish_as-writer-requires g c next is =
    sees _ _ c.args.writer.desk.shown.value next
    (ap (λ (s : State). s.1.book) is ∙ c.requires.book)
    (λ _. let P : State → Type 0 = λ s. s.0 ≡ s.1.log in subst P (sym is) c.requires.own)
