use Rattle.std.proofs.Common.{◌≡◌, ◌∙◌, ℕ, ◌≤◌, false, List, [], length, sym, ap, subst, rules, nat_cmp, Err}
use Rattle.std.specs.List.{insert}
use Rattle.std.specs.List.Sorted.{IsBinarySearchResult, IsStrictlyIncreasing}
use Rattle.cmh_waits.specs.Rows.{is_in}
use Rattle.cmh_waits.proofs.ListLemmas.{put_increasing}
use Rattle.cmh_dependents.specs.Inner.Known.{AreKnown, known_of}
use Rattle.cmh_dependents.proofs.Known.{missed, known_with, nothing_more}
use Rattle.cmh_dependents.proofs.dependent_sets.place_for.Goals as goal

module _ (c : goal.After-unwrap) where
  abbrev ps : List ℕ
  ps = c.args.processes.now.items

  abbrev lists : List (List ℕ)
  lists = c.args.lists.now.items

  position : IsBinarySearchResult (λ y. nat_cmp y c.args.process) ps (Err c.in-Err.place)
  position = subst (λ (xs : List ℕ). IsBinarySearchResult (λ y. nat_cmp y c.args.process) xs (Err c.in-Err.place)) c.deref.ensures.value c.in-Err.ensures.position

  inside : c.in-Err.place ≤ length ps
  inside = subst (λ (xs : List ℕ). c.in-Err.place ≤ length xs) c.deref.ensures.value c.in-Err.ensures.bound

  up : IsStrictlyIncreasing (insert ps c.in-Err.place c.args.process)
  up = put_increasing ps c.in-Err.place c.args.process c.requires.ascending position

  absent : is_in ps c.args.process ≡ false
  absent = missed ps c.args.process c.requires.ascending c.in-Err.place position

  processes_are : c.insert-in-Err.new.self.items ≡ insert ps c.in-Err.place c.args.process
  processes_are = search rules

  lists_are : c.insert.new.self.items ≡ insert lists c.in-Err.place []
  lists_are = search rules

pub returns-in_ok-insert-in-Err-clause-known : goal.returns-in_ok-insert-in-Err-clause-known
returns-in_ok-insert-in-Err-clause-known c =
    subst (λ (xs : List ℕ). AreKnown xs c.insert.new.self.items) (sym (processes_are c))
    (subst (AreKnown (insert (ps c) c.in-Err.place c.args.process)) (sym (lists_are c)) (known_with (ps c) (lists c) c.requires c.in-Err.place c.args.process (inside c) (up c) (absent c)))

pub returns-in_ok-insert-in-Err-clause-same : goal.returns-in_ok-insert-in-Err-clause-same
returns-in_ok-insert-in-Err-clause-same c =
    ap (λ (xs : List ℕ). known_of xs c.insert.new.self.items) (processes_are c)
    ∙ ap (known_of (insert (ps c) c.in-Err.place c.args.process)) (lists_are c)
    ∙ nothing_more (ps c) (lists c) c.requires c.in-Err.place c.args.process (inside c) (up c) (absent c)
