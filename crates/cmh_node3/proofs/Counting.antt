-- What entries got, piece by piece, as a receiver's end counts it.
use Rattle.std.proofs.Common.{◌≡◌, ℕ, ◌+◌, ◌^◌, ◌<◌, ◌≤◌, Bool, true, false, Some, List, [], ◌∷◌, ◌++◌, length, take, drop, get_or, refl, sym, ap, ◌∙◌, arith, append-nil, length-append, take-append-drop}
use Rattle.std.proofs.lemmas.List.{length-take-le, take_more}
use Rattle.cmh_runs.proofs.Journals.{receipts_of-append}
use Rattle.cmh_model3.specs.Entries.{Entry}
use Rattle.cmh_model3.specs.Journals.{message_from, receipts_of}
use Rattle.cmh_model3.specs.declared.frame.Message.{Message}
use Rattle.cmh_wire3.specs.Mark.{mark_on}
use Rattle.cmh_wire3.specs.Wire.{spelled, spelling}
use Rattle.cmh_resume3.proofs.Ends.{marked_more}
use Rattle.cmh_resume3.specs.Receiver.{IsUntaken, Receiver, with_message}
use Rattle.cmh_resume3.specs.declared.receiver.Untaken.{Untaken}
use Rattle.cmh_resume3.specs.declared.receiver.Untaken.TheVariants.{Stale, Full}
use Rattle.cmh_wire3.proofs.Marks.{mark-append}
use Rattle.cmh_node3.specs.Peers.{received, with_messages}

next_of : {X : Type 0} (xs : List X) (i : ℕ) (x : X) → i < length xs → x ≡ get_or xs i x → take (i + 1) xs ≡ take i xs ++ x ∷ []
next_of xs i x inside is = take_more xs i x inside ∙ ap (λ y. take i xs ++ y ∷ []) (sym is)

receipts_next : (from : ℕ) (es : List Entry) (i : ℕ) (e : Entry) → i < length es → e ≡ get_or es i e
    → receipts_of from (take (i + 1) es) ≡ receipts_of from (take i es) ++ message_from from e.event
receipts_next from es i e inside is =
    ap (receipts_of from) (next_of es i e inside is) ∙ receipts_of-append message_from from (take i es) (e ∷ [])
    ∙ ap (λ (l : List Message). receipts_of from (take i es) ++ l) (append-nil (message_from from e.event))

-- an entry that got a message of the site
pub receipt_more : (from : ℕ) (es : List Entry) (i : ℕ) (e : Entry) (m : Message) → i < length es → e ≡ get_or es i e → message_from from e.event ≡ m ∷ []
    → receipts_of from (take (i + 1) es) ≡ receipts_of from (take i es) ++ m ∷ []
receipt_more from es i e m inside is got =
    receipts_next from es i e inside is ∙ ap (λ (l : List Message). receipts_of from (take i es) ++ l) got

-- and one that did not
pub receipt_same : (from : ℕ) (es : List Entry) (i : ℕ) (e : Entry) → i < length es → e ≡ get_or es i e → message_from from e.event ≡ []
    → receipts_of from (take (i + 1) es) ≡ receipts_of from (take i es)
receipt_same from es i e inside is got =
    receipts_next from es i e inside is ∙ ap (λ (l : List Message). receipts_of from (take i es) ++ l) got ∙ append-nil (receipts_of from (take i es))

pub count_more : (b : ℕ) (xs ys : List Message) (m : Message) (n k : ℕ) → ys ≡ xs ++ m ∷ [] → n ≡ b + length xs → k ≡ n + 1 → k ≡ b + length ys
count_more b xs ys m n k is count next = omega (arith, ap (λ (l : List Message). length l) is, length-append xs (m ∷ []), count, next)

pub mark_more : (b : ℕ) (xs ys : List Message) (m : Message) (n k : ℕ) → ys ≡ xs ++ m ∷ [] → n ≡ mark_on b (spelled xs) → k ≡ mark_on n (spelling m) → k ≡ mark_on b (spelled ys)
mark_more b xs ys m n k is mark next =
    next ∙ ap (λ (z : ℕ). mark_on z (spelling m)) mark
    ∙ ap (mark_on (mark_on b (spelled xs))) (sym (append-nil (spelling m)))
    ∙ sym (marked_more b xs (m ∷ []))
    ∙ ap (λ (l : List Message). mark_on b (spelled l)) (sym is)

-- a beginning of the entries got no more than all
pub fewer_receipts : (from : ℕ) (es : List Entry) (i : ℕ) → length (receipts_of from (take i es)) ≤ length (receipts_of from es)
fewer_receipts from es i =
    let all = ap (λ (l : List Entry). length (receipts_of from l)) (take-append-drop i es) in
    let both = ap (λ (l : List Message). length l) (receipts_of-append message_from from (take i es) (drop i es)) in
    let lengths = length-append (receipts_of from (take i es)) (receipts_of from (drop i es)) in
    omega (arith, all, both, lengths)

-- ---- messages that are taken one by one

pub with_more : (xs : List Message) (m : Message) (r : Receiver) → with_messages (xs ++ m ∷ []) r ≡ with_message m (with_messages xs r)
with_more [] m r = refl
with_more (x ∷ xs) m r = with_more xs m (with_message x r)

pub with_next : (xs : List Message) (i : ℕ) (m : Message) (r s : Receiver) → i < length xs → m ≡ get_or xs i m → s ≡ with_messages (take i xs) r
    → with_message m s ≡ with_messages (take (i + 1) xs) r
with_next xs i m r s inside is so_far =
    ap (with_message m) so_far ∙ sym (with_more (take i xs) m r)
    ∙ ap (λ (l : List Message). with_messages l r) (sym (next_of xs i m inside is))

count_with : (xs : List Message) (r : Receiver) → (with_messages xs r).got ≡ r.got + length xs
count_with [] r = omega arith
count_with (x ∷ xs) r = count_with xs (with_message x r) ∙ omega arith

claim_with : (xs : List Message) (r : Receiver) → (with_messages xs r).claim ≡ r.claim
claim_with [] r = refl
claim_with (x ∷ xs) r = claim_with xs (with_message x r)

-- a message of those that can be counted is taken
pub never_untaken : (xs : List Message) (i line : ℕ) (r s : Receiver) (why : Untaken) → i < length xs → s ≡ with_messages (take i xs) r → r.claim ≡ Some line
    → (0 < length xs → r.got + length xs < 2 ^ 64) → IsUntaken line s why → ⊥
never_untaken xs i line r s Stale inside is claimed countable untaken = untaken (ap (λ (x : Receiver). x.claim) is ∙ claim_with (take i xs) r ∙ claimed)
never_untaken xs i line r s Full inside is claimed countable untaken =
    let some : 0 < length xs = omega arith in
    let few : r.got + length xs < 2 ^ 64 = countable some in
    let so_far : length (take i xs) ≡ i = length-take-le i xs (omega arith) in
    let got : s.got ≡ r.got + length (take i xs) = ap (λ (x : Receiver). x.got) is ∙ count_with (take i xs) r in
    let full : s.got ≡ 18446744073709551615 = untaken.1 in
    omega (arith, few, so_far, got, full)

-- ---- a batch

mark_with : (xs : List Message) (r : Receiver) → (with_messages xs r).mark ≡ mark_on r.mark (spelled xs)
mark_with [] r = refl
mark_with (x ∷ xs) r = mark_with xs (with_message x r) ∙ sym (mark-append r.mark (spelling x) (spelled xs))

pub got_received : (xs : List Message) (now : ℕ) (closes : Bool) (r : Receiver) → (received xs now closes r).got ≡ r.got + length xs
got_received xs now true r = count_with xs r
got_received xs now false r = count_with xs r

pub mark_received : (xs : List Message) (now : ℕ) (closes : Bool) (r : Receiver) → (received xs now closes r).mark ≡ mark_on r.mark (spelled xs)
mark_received xs now true r = mark_with xs r
mark_received xs now false r = mark_with xs r

pub synced_received : (xs : List Message) (now : ℕ) (closes : Bool) (r : Receiver) → (received xs now closes r).unsynced ≡ 0
synced_received xs now true r = refl
synced_received xs now false r = refl
