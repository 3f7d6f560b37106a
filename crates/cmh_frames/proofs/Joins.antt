-- Two lists, one after the other, in a row of limited length.
use Rattle.std.proofs.Common.{◌≡◌, ℕ, ◌+◌, ◌-◌, ◌≤◌, min, List, ◌++◌, length, take, sym, ap, ◌∙◌, arith}
use Rattle.std.proofs.lemmas.List.{take_min, length-take-le}
use Rattle.std.proofs.lemmas.Slice.{take-put_mid}
use Rattle.std.proofs.Math.Seq.{take-append-add}
use borrow.Rule.Slice.PartMut.{put_mid}

-- the row after the write
pub joined_at : (bytes new piece : List ℕ) (len taken limit : ℕ) → len ≤ length bytes → len ≤ limit → taken ≡ min (limit - len) (length piece) → new ≡ take taken piece
    → take (len + taken) (put_mid len (len + taken - len) bytes new) ≡ take limit (take len bytes ++ piece)
joined_at bytes new piece len taken limit in_range below taken_is new_is =
    let len_is : length (take len bytes) ≡ len = length-take-le len bytes in_range in
    let count : length new ≡ taken = ap length new_is ∙ length-take-le taken piece (omega arith) in
    take-put_mid len (len + taken - len) bytes new (len + taken) (omega arith) in_range
    ∙ ap (λ part. take len bytes ++ part) (new_is ∙ ap (λ n. take n piece) taken_is ∙ take_min (limit - len) piece)
    ∙ sym (take-append-add (take len bytes) piece (limit - len))
    ∙ ap (λ n. take n (take len bytes ++ piece)) (omega arith)
