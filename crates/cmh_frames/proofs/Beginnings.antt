-- Lemmas on beginnings of lists.
pub use Rattle.cmh_runs.proofs.Beginnings.{beginning_refl, beginning_nil, beginning_take, beginning_trans, length-beginning, beginning_push, beginning_more, push_eq, grow, empty_list, some_list}
pub use Rattle.cmh_runs.proofs.Journals.{sendings_of-beginning}
