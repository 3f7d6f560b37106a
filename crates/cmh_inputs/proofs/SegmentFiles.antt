-- A file is that of one segment at most, and where it is, it has no fault.
use Rattle.std.proofs.Common.{◌≡◌, ◌≢◌, ◌⊎◌, ℕ, ◌<◌, ◌≤◌, List, [], ◌∷◌, ◌++◌, length, drop, max, refl, ap, sym, ◌∙◌, subst, inl, inr, arith, append_assoc, length-append}
use Rattle.std.specs.List.{AllByRecursion}
use Rattle.byteorder.specs.Endian.{big_bytes}
use Rattle.cmh_wire3.proofs.Marks.{mark_below}
use Rattle.cmh_wire3.proofs.Messages.{one_long, one_of}
use Rattle.cmh_wire3.specs.Mark.{first_mark}
use Rattle.cmh_wire3.specs.Wire.{IsLong}
use Rattle.cmh_segment3.specs.declared.base.Base.{Base}
use Rattle.cmh_segment3.specs.declared.entry.Entry.{Entry}
use Rattle.cmh_segment3.specs.declared.head.Header.{Header}
use Rattle.cmh_segment3.specs.declared.segment.Segment.{Segment}
use Rattle.cmh_segment3.specs.declared.segment.SegmentFault.{SegmentFault}
use Rattle.cmh_segment3.specs.declared.segment.SegmentFault.TheVariants.{BadHead, Damaged, Memory}
use Rattle.cmh_segment3.specs.Base.{base_spelling}
use Rattle.cmh_segment3.specs.Chain.{BeginsNoChained, HasChained, chained, next_mark}
use Rattle.cmh_segment3.specs.Entries.{IsWhole, body_spelling, longest_body}
use Rattle.cmh_segment3.specs.Head.{head_mark, head_spelling, header_spelling}
use Rattle.cmh_segment3.specs.Segment.{CanBeCut, DamagedAt, HasBadBody, IsFault, IsSegmentOf, Writes, append_limit, behind_entries, entries_spelling, last_mark, longest_entry, segment_spelling}
use Rattle.cmh_segment3.proofs.Bases.{one_base}
use Rattle.cmh_segment3.proofs.Chains.{front_of_same, next_long}
use Rattle.cmh_segment3.proofs.Heads.{one_header}
use Rattle.cmh_segment3.proofs.OneSegment.{one_reading}

-- ---- one segment

-- two readings of a file
pub record Same (a b : Segment) (x y : ℕ) : Type 0 where
  pub segment : a ≡ b
  pub left : x ≡ y

pub same_segment : (bytes : List ℕ) (a b : Segment) (x y : ℕ) → IsSegmentOf a x bytes → IsSegmentOf b y bytes → Same a b x y
same_segment bytes a b x y A B =
    let one = one_reading bytes a.header b.header a.base b.base a.entries b.entries A.tail B.tail A.writes B.writes in
    record {
      segment = λ i. record { header = one.header i; base = one.base i; entries = one.entries i };
      left = A.left_is ∙ ap length one.tail ∙ sym B.left_is;
    }

-- ---- no fault

regroup : (mark : ℕ) (body x : List ℕ) → chained mark body ++ x ≡ big_bytes 4 (length body) ++ (body ++ (big_bytes 8 (next_mark mark body) ++ x))
regroup mark body x = ap (λ l. big_bytes 4 (length body) ++ l) (append_assoc body (big_bytes 8 (next_mark mark body)) x)

one_chained : (mark : ℕ) (a b x y : List ℕ) → length a ≤ longest_body → length b ≤ longest_body → chained mark a ++ x ≡ chained mark b ++ y → (a ≡ b) × (x ≡ y)
one_chained mark a b x y A B e =
    let all = sym (regroup mark a x) ∙ e ∙ regroup mark b y in
    let count = one_of 4 (length a) (length b) _ _ (omega arith) (omega arith) all in
    let bodies = front_of_same a b (big_bytes 8 (next_mark mark a) ++ x) (big_bytes 8 (next_mark mark b) ++ y) count (ap (drop 4) all) in
    (bodies.0, ap (drop 8) bodies.1)

-- behind some of the entries of a segment stands no body that is none's
no_bad_body : (mark : ℕ) (es fs : List Entry) (x y : List ℕ) → IsLong mark → AllByRecursion IsWhole es → AllByRecursion IsWhole fs → BeginsNoChained (big_bytes 8 (last_mark mark es) ++ x)
    → HasBadBody (big_bytes 8 (last_mark mark fs) ++ y) → entries_spelling mark es ++ x ≡ entries_spelling mark fs ++ y → ⊥
no_bad_body mark [] [] x y long E F none bad e =
    none (bad.there.mark, bad.body) bad.there.rest bad.there.chain (ap (λ l. big_bytes 8 mark ++ l) e ∙ bad.there.bytes_are)
no_bad_body mark [] (f ∷ fs) x y long E F none bad e =
    none (mark, body_spelling f) (entries_spelling (next_mark mark (body_spelling f)) fs ++ y) (record { mark = long; fits = F.0.fits })
    (ap (λ l. big_bytes 8 mark ++ l) (e ∙ append_assoc (chained mark (body_spelling f)) (entries_spelling (next_mark mark (body_spelling f)) fs) y))
no_bad_body mark (g ∷ es) [] x y long E F none bad e =
    let there = bad.there in
    let same = one_long mark there.mark y (chained there.mark bad.body ++ there.rest) long there.chain.mark there.bytes_are in
    let behind : y ≡ chained mark bad.body ++ there.rest = ap (drop 8) there.bytes_are ∙ ap (λ m. chained m bad.body ++ there.rest) (sym same) in
    let bodies = one_chained mark (body_spelling g) bad.body _ _ E.0.fits there.chain.fits
    (sym (append_assoc (chained mark (body_spelling g)) (entries_spelling (next_mark mark (body_spelling g)) es) x) ∙ e ∙ behind) in
    bad.none g E.0 (sym bodies.0)
no_bad_body mark (g ∷ es) (f ∷ fs) x y long E F none bad e =
    let bodies = one_chained mark (body_spelling g) (body_spelling f) _ _ E.0.fits F.0.fits
    (sym (append_assoc (chained mark (body_spelling g)) (entries_spelling (next_mark mark (body_spelling g)) es) x) ∙ e ∙ append_assoc (chained mark (body_spelling f)) (entries_spelling (next_mark mark (body_spelling f)) fs) y) in
    let marks : next_mark mark (body_spelling f) ≡ next_mark mark (body_spelling g) = ap (next_mark mark) (sym bodies.0) in
    no_bad_body (next_mark mark (body_spelling g)) es fs x y (next_long mark (body_spelling g)) E.1 F.1 none
    (subst (λ m. HasBadBody (big_bytes 8 (last_mark m fs) ++ y)) marks bad)
    (bodies.1 ∙ ap (λ m. entries_spelling m fs ++ y) marks)

behind_head : (header : Header) (base : Base) (entries : List Entry) (rest : List ℕ) → segment_spelling header base entries ++ rest
    ≡ header_spelling header ++ (big_bytes 4 (length (base_spelling base)) ++ (base_spelling base ++ (big_bytes 8 (head_mark header base) ++ (entries_spelling (head_mark header base) entries ++ rest))))
behind_head header base entries rest =
    let behind = big_bytes 8 (head_mark header base) ++ entries_spelling (head_mark header base) entries in
    append_assoc (head_spelling header base) behind rest
    ∙ append_assoc (header_spelling header) (big_bytes 4 (length (base_spelling base)) ++ base_spelling base) (behind ++ rest)

no_bad_entry : (bytes : List ℕ) (g : Segment) (left offset : ℕ) → IsSegmentOf g left bytes → (d : DamagedAt bytes offset) → HasBadBody (behind_entries d.header d.base d.entries d.rest) → ⊥
no_bad_entry bytes g left offset is d bad =
    let A = is.writes.segment in
    let B = d.segment in
    let all = sym (behind_head g.header g.base g.entries is.tail) ∙ sym A.bytes_are ∙ B.bytes_are ∙ behind_head d.header d.base d.entries d.rest in
    let headers = one_header g.header d.header _ _ A.header_is B.header_is all in
    let count = one_of 4 (length (base_spelling g.base)) (length (base_spelling d.base)) _ _ A.base_is.fits B.base_is.fits headers.1 in
    let bases = front_of_same (base_spelling g.base) (base_spelling d.base) _ _ count (ap (drop 4) headers.1) in
    let base = one_base g.base d.base A.base_is B.base_is bases.0 in
    let marks : head_mark d.header d.base ≡ head_mark g.header g.base = λ i. head_mark (sym headers.0 i) (sym base i) in
    no_bad_body (head_mark g.header g.base) g.entries d.entries is.tail d.rest (mark_below first_mark (head_spelling g.header g.base) (omega arith)) A.whole B.whole is.writes.tail_is
    (subst (λ m. HasBadBody (big_bytes 8 (last_mark m d.entries) ++ d.rest)) marks bad)
    (ap (drop 8) bases.1 ∙ ap (λ m. entries_spelling m d.entries ++ d.rest) marks)

-- what stands behind the entries can be cut
no_bad_tail : (behind tail : List ℕ) → CanBeCut behind tail → (max append_limit longest_entry < length tail) ⊎ HasChained behind → ⊥
no_bad_tail behind tail cut (inl long) = let short = cut.short in absurd (omega (arith, long, short))
no_bad_tail behind tail cut (inr has) = cut.none has.place (has.there.mark, has.body) has.there.rest has.there.chain has.there.bytes_are

pub no_fault : (bytes : List ℕ) (g : Segment) (left : ℕ) (fault : SegmentFault) → IsSegmentOf g left bytes → IsFault bytes fault → fault ≢ Memory → ⊥
no_fault bytes g left BadHead is none other =
    let mark = head_mark g.header g.base in
    none g.header g.base (entries_spelling mark g.entries ++ is.tail) is.writes.segment.header_is is.writes.segment.base_is
    (is.writes.segment.bytes_are ∙ append_assoc (head_spelling g.header g.base) (big_bytes 8 mark ++ entries_spelling mark g.entries) is.tail)
no_fault bytes g left (Damaged offset) is d other = elim d.damage [
  | inl bad ↦ no_bad_entry bytes g left offset is d bad
  | inr bad ↦
      let later : Writes d.header d.base d.entries d.rest bytes = record { segment = d.segment; tail_is = bad.0 } in
      let one = one_reading bytes g.header d.header g.base d.base g.entries d.entries is.tail d.rest is.writes later in
      no_bad_tail _ d.rest
      (subst (λ (x : List ℕ). CanBeCut (behind_entries d.header d.base d.entries d.rest) x) one.tail
      (subst (λ (b : List ℕ). CanBeCut b is.tail) (λ i. behind_entries (one.header i) (one.base i) (one.entries i) (one.tail i)) is.cut)) bad.1
]
no_fault bytes g left Memory is marked other = other refl

-- the tail is within the file
pub tail_within : (bytes : List ℕ) (g : Segment) (left : ℕ) → IsSegmentOf g left bytes → left ≤ length bytes
tail_within bytes g left is =
    let all = ap length is.writes.segment.bytes_are in
    let parts = length-append (segment_spelling g.header g.base g.entries) is.tail in
    let left_is = is.left_is in
    omega (arith, all, parts, left_is)
