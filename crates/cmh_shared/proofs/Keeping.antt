-- What the writer's side keeps at each of its steps.
use Rattle.std.proofs.Common.{◌≡◌, ℕ, ◌+◌, ◌<◌, Bool, true, false, cond, nat_lt, List, [], ◌∷◌, ◌++◌, length, fold, Option, Some, None, IfSome, refl, ap, sym, ◌∙◌, subst, arith, length-append}
use Rattle.std.proofs.lemmas.Bool.Decides.{nat_tests}
use Rattle.std.proofs.lemmas.List.{append-nil}
use Rattle.std.specs.Option.{option_to_list}
use Rattle.cmh_runs.specs.Runs.{IsBeginningOf}
use Rattle.logbook.specs.Pages.{Book}
use Rattle.logbook.specs.declared.tokens.Seen.{Seen}
use Rattle.cmh_shared.specs.declared.history.History.{History}
use Rattle.cmh_shared.specs.declared.published.Published.{Published}
use Rattle.cmh_shared.specs.declared.published.Add.{Add}
use Rattle.cmh_shared.specs.Lists.{added}
use Rattle.cmh_shared.specs.Rule.{named}
use Rattle.cmh_shared.specs.Boards.{State, state_of, apply, final, with_stuck, Leads, Keeps}
use Rattle.cmh_runs.proofs.Beginnings.{beginning_nil, beginning_refl, beginning_trans}
use Rattle.cmh_shared.proofs.Fronts.{same_length, whole}

fold_more : (s : State) (ops : List Add) (o : Add) → fold apply s (ops ++ o ∷ []) ≡ apply (fold apply s ops) o
fold_more s [] o = refl
fold_more s (p ∷ ops) o = fold_more (apply s p) ops o

pub final_more : (x : Published) (ops : List Add) (o : Add) → final x (ops ++ o ∷ []) ≡ apply (final x ops) o
final_more x ops o = fold_more (state_of x) ops o

-- the operation that had no place goes after the others
pub unstuck : (b : Book) (log : List ℕ) (n c : ℕ) (x : Published) (ops : List Add) (o : Add) (seat : List ℕ) → Keeps b log n c x ops (Some o) seat → Keeps b log n c x (ops ++ o ∷ []) None seat
unstuck b log n c x ops o seat k =
    let e : final x (ops ++ o ∷ []) ≡ apply (final x ops) o = final_more x ops o in
    record {
      log_length = k.log_length;
      book = k.book;
      shown = k.shown;
      final_book = ap (λ (s : State). s.1.book) e ∙ k.stuck_leads.0;
      final_own = (let P : State → Type 0 = λ s. s.0 ≡ s.1.log in subst P (sym e) k.stuck_leads.1);
      stuck_leads = tt;
      list = subst (λ (s : State). IsBeginningOf s.0 log) (sym e) k.list;
      list_length = k.list_length ∙ ap (λ (s : State). length s.0) (sym e);
      named_seat = k.named_seat;
    }

-- the list is the same
pub unstuck_list : (x : Published) (ops : List Add) (o : Add) → (final x (ops ++ o ∷ [])).0 ≡ with_stuck (final x ops).0 (Some o)
unstuck_list x ops o = ap (λ (s : State). s.0) (final_more x ops o)

pub unstuck_all : (b : Book) (log : List ℕ) (n c : ℕ) (x : Published) (ops : List Add) (stuck : Option Add) (seat : List ℕ) → Keeps b log n c x ops stuck seat → Keeps b log n c x (ops ++ option_to_list stuck) None seat
unstuck_all b log n c x ops None seat k = let P : List Add → Type 0 = λ l. Keeps b log n c x l None seat in subst P (sym (append-nil ops)) k
unstuck_all b log n c x ops (Some o) seat k = unstuck b log n c x ops o seat k

pub unstuck_all_list : (x : Published) (ops : List Add) (stuck : Option Add) → (final x (ops ++ option_to_list stuck)).0 ≡ with_stuck (final x ops).0 stuck
unstuck_all_list x ops None = ap (λ (l : List Add). (final x l).0) (append-nil ops)
unstuck_all_list x ops (Some o) = unstuck_list x ops o

-- all that was pending is published
pub published : (b : Book) (log : List ℕ) (n c : ℕ) (x y : Published) (ops : List Add) (stuck : Option Add) (seat seat' : List ℕ) → Keeps b log n c x ops stuck seat → state_of y ≡ final x ops → IsBeginningOf (final x ops).0 log → seat' ≡ named y.seen.book → Keeps b log n c y [] stuck seat'
published b log n c x y ops stuck seat seat' k e pre named_now =
    let P : State → Type 0 = λ s. s.0 ≡ s.1.log in
    let Q : State → Type 0 = λ s. IfSome stuck (λ o. Leads b s.0 o) in
    let book' : y.seen.book ≡ b = ap (λ (s : State). s.1.book) e ∙ k.final_book in
    record {
      log_length = k.log_length;
      book = book';
      shown = subst (λ (s : State). IsBeginningOf s.0 log) (sym e) pre;
      final_book = book';
      final_own = subst P (sym e) k.final_own;
      stuck_leads = subst Q (sym e) k.stuck_leads;
      list = subst (λ (s : State). IsBeginningOf (with_stuck s.0 stuck) log) (sym e) k.list;
      list_length = k.list_length ∙ ap (λ (s : State). length (with_stuck s.0 stuck)) (sym e);
      named_seat = named_now ∙ ap named book';
    }

added_under : (xs : List ℕ) (p : ℕ) (b : Bool) → IsBeginningOf xs (cond b (xs ++ p ∷ []) xs)
added_under xs p true = (p ∷ [], refl)
added_under xs p false = beginning_refl xs

-- what is final is a beginning of the history, whatever is stuck
pub final_front : (log xs : List ℕ) (stuck : Option Add) → IsBeginningOf (with_stuck xs stuck) log → IsBeginningOf xs log
final_front log xs None p = p
final_front log xs (Some o) p = beginning_trans xs (added xs o.process) log (added_under xs o.process (nat_lt (length xs) 64)) p

-- the history went on
pub longer : (b : Book) (log log' : List ℕ) (n n' c : ℕ) (x : Published) (ops : List Add) (stuck : Option Add) (seat : List ℕ) → Keeps b log n c x ops stuck seat → IsBeginningOf log log' → n' ≡ length log' → Keeps b log' n' c x ops stuck seat
longer b log log' n n' c x ops stuck seat k p e = record {
  log_length = e;
  book = k.book;
  shown = beginning_trans x.list log log' k.shown p;
  final_book = k.final_book;
  final_own = k.final_own;
  stuck_leads = k.stuck_leads;
  list = beginning_trans (with_stuck (final x ops).0 stuck) log log' k.list p;
  list_length = k.list_length;
  named_seat = k.named_seat;
}

pub added_is : (xs : List ℕ) (p : ℕ) → length xs < 64 → added xs p ≡ xs ++ p ∷ []
added_is xs p lt = let t : nat_lt (length xs) 64 ≡ true = grind (arith, nat_tests) in ap (λ (b : Bool). cond b (xs ++ p ∷ []) xs) t

-- one more, where the history was the list
pub one_more : (b : Book) (log : List ℕ) (n c : ℕ) (x : Published) (ops : List Add) (o : Add) (seat : List ℕ) → Keeps b log n c x ops None seat → n ≡ c → c < 64 → o.seen.book ≡ b → o.seen.log ≡ log ++ o.process ∷ []
    → Keeps b o.seen.log (n + 1) (c + 1) x ops (Some o) seat
one_more b log n c x ops o seat k same few book' log' =
    let xs = (final x ops).0 in
    let all : xs ≡ log = whole xs log k.list (omega (arith, k.log_length, k.list_length)) in
    let new : added xs o.process ≡ o.seen.log = added_is xs o.process (omega (arith, k.list_length)) ∙ (ap (λ (l : List ℕ). l ++ o.process ∷ []) all ∙ sym log') in
    let front : IsBeginningOf log o.seen.log = (o.process ∷ [], sym log') in
    record {
      log_length = omega (arith, k.log_length, ap length log', length-append log (o.process ∷ []));
      book = k.book;
      shown = beginning_trans x.list log o.seen.log k.shown front;
      final_book = k.final_book;
      final_own = k.final_own;
      stuck_leads = (book', new);
      list = subst (λ (l : List ℕ). IsBeginningOf (added xs o.process) l) new (beginning_refl (added xs o.process));
      list_length = omega (arith, k.log_length, same, ap length new, ap length log', length-append log (o.process ∷ []));
      named_seat = k.named_seat;
    }

-- a board that was just made: nothing is listed, and what was published is the empty list
pub fresh : (b : Book) (log : List ℕ) (x : Published) (ops : List Add) (seat : List ℕ) → log ≡ [] → ops ≡ [] → x.list ≡ [] → x.seen.book ≡ b → x.seen.log ≡ [] → seat ≡ named b → Keeps b log 0 0 x ops None seat
fresh b log x ops seat no_log no_ops none book' log' named_now =
    let is : final x ops ≡ state_of x = ap (λ (l : List Add). final x l) no_ops in
    let front : IsBeginningOf x.list log = subst (λ (l : List ℕ). IsBeginningOf l log) (sym none) (beginning_nil log) in
    record {
      log_length = ap length (sym no_log);
      book = book';
      shown = front;
      final_book = ap (λ (s : State). s.1.book) is ∙ book';
      final_own = (let P : State → Type 0 = λ s. s.0 ≡ s.1.log in subst P (sym is) (none ∙ sym log'));
      stuck_leads = tt;
      list = subst (λ (s : State). IsBeginningOf s.0 log) (sym is) front;
      list_length = sym (ap (λ (s : State). length s.0) is ∙ ap length none);
      named_seat = named_now;
    }

-- what is published first is what the writer was made with
pub opened : (seen : Seen ℕ ℕ History) (w y : Published) (ops : List Add) → w.list ≡ [] → w.seen ≡ seen → ops ≡ [] → state_of y ≡ final w ops → (y.list ≡ []) × (y.seen ≡ seen)
opened seen w y ops none same no_ops is =
    let e : state_of y ≡ state_of w = is ∙ ap (λ (l : List Add). final w l) no_ops in
    (ap (λ (s : State). s.0) e ∙ none, ap (λ (s : State). s.1) e ∙ same)

-- where as many are published as were listed, all of them are
pub shown_all : (b : Book) (log : List ℕ) (n c : ℕ) (x : Published) (ops : List Add) (stuck : Option Add) (seat : List ℕ) → Keeps b log n c x ops stuck seat → length x.list ≡ c → x.list ≡ with_stuck (final x ops).0 stuck
shown_all b log n c x ops stuck seat k e = same_length x.list (with_stuck (final x ops).0 stuck) log k.shown k.list (e ∙ k.list_length)
