use Rattle.std.proofs.Common.{◌≡◌, ℕ, List, [], length, take, Vec, sym, ap, subst, ◌∙◌, arith}
use Rattle.std.proofs.lemmas.List.{get_or_read, length-set}
use Rattle.std.specs.Global.{Global}
use Rattle.cmh_segment3.specs.declared.entry.Entry.{Entry}
use Rattle.cmh_segment3.specs.declared.segment.Segment.{Segment}
use Rattle.cmh_segment3.specs.Segment.{IsSegmentOf, Writes, segment_spelling}
use Rattle.cmh_inputs.specs.Furthest.{Keeps}
use Rattle.cmh_files.specs.Readings.{file_at}
use Rattle.cmh_inputs.specs.BetweenReads.{count_at, no_segment, segment_at}
use Rattle.cmh_inputs.proofs.Cutting.{cut_more, front_writes, items, keeps_all, keeps_some, set_elsewhere, set_here}
use Rattle.cmh_inputs.proofs.kept.cut.Goals as goal
use Rattle.cmh_inputs.proofs.kept.cut.Goals.{then-taken-i+in_ok-kept, else-taken-i}

pub segment_file-requires : goal.segment_file-requires
segment_file-requires c =
    let i = c.loop-i.i in
    let n = count_at c.args.taken.now i in
    let g = c.index-segments-i.result in
    let inside = c.loop-i-test.true in
    let each = c.requires.segments in
    let file = file_at (items c.args.files.items) i in
    let has = c.requires.files i (omega (arith, inside, each)) in
    let is : IsSegmentOf g has.0 file = subst (λ (x : Segment). IsSegmentOf x has.0 file) (sym (get_or_read c.args.segments.now i g inside c.index-segments-i.is no_segment)) has.1 in
    subst (λ (es : List Entry). Writes g.header g.base es [] (segment_spelling g.header g.base es))
    (sym (c.split_at.ensures.front ∙ ap (take n) c.as_slice-entries.ensures)) (front_writes file g has.0 n is)

pub loop-i-preserved : goal.loop-i-preserved
loop-i-preserved c =
    let i = c.loop-i.i in
    let n = count_at c.args.taken.now i in
    let segments = c.args.segments.now in
    let files = items c.args.files.items in
    let old = c.loop-i.kept.items in
    let new = c.if-taken-i.kept.items in
    let items_of : Vec (Vec ℕ Global) Global → List (Vec ℕ Global) = λ v. v.items in
    let inside = c.loop-i-test.true in
    let each = c.requires.segments in
    let count = c.loop-i.invariant.each in
    let there : c.index-segments-i.result ≡ segment_at segments i = get_or_read segments i c.index-segments-i.result inside c.index-segments-i.is no_segment in
    let g = segment_at segments i in
    let long : length c.as_slice-entries.result.now ≡ length g.entries = ap length c.as_slice-entries.ensures ∙ ap (λ (x : Segment). length x.entries) there in
    elim c.if-taken-i.branch [
      | then-taken-i+in_ok-kept w ↦
          let file = w.in_ok-kept.field-0 in
          let is = ap items_of w.kept-is in
          let few = w.if-taken-i.true in
          let front = w.split_at.ensures.front ∙ ap (take n) (c.as_slice-entries.ensures ∙ ap (λ (x : Segment). x.entries) there) in
          let writes : Writes g.header g.base (take n g.entries) [] file.items =
          subst (λ (es : List Entry). Writes g.header g.base es [] file.items) front
          (subst (λ (x : Segment). Writes x.header x.base w.split_at.result.0.now [] file.items) there w.in_ok-kept.ensures) in
          record {
            each = ap length is ∙ length-set old i file ∙ count;
            done = cut_more segments c.args.taken.now files i (items old) (items new)
                (λ k l. ap (λ (ks : List (Vec ℕ Global)). file_at (items ks) k) is ∙ set_elsewhere old i file k (λ e. omega (arith, e, l)))
                c.loop-i.invariant.done
                (subst (λ (b : List ℕ). Keeps (file_at files i) g n b)
                (sym (ap (λ (ks : List (Vec ℕ Global)). file_at (items ks) i) is ∙ set_here old i file (omega (arith, inside, each, count))))
                (keeps_some (file_at files i) file.items g n (omega (arith, few, long)) writes));
            left = λ k l.
                ap (λ (ks : List (Vec ℕ Global)). file_at (items ks) k) is ∙ set_elsewhere old i file k (λ e. omega (arith, e, l))
                ∙ c.loop-i.invariant.left k (omega (arith, l));
          }
      | else-taken-i w ↦
          let is = ap items_of w.kept-is in
          let past = w.if-taken-i.false in
          let here : file_at (items new) i ≡ file_at files i = ap (λ (ks : List (Vec ℕ Global)). file_at (items ks) i) is ∙ c.loop-i.invariant.left i (omega arith) in
          record {
            each = ap length is ∙ count;
            done = cut_more segments c.args.taken.now files i (items old) (items new)
                (λ k l. ap (λ (ks : List (Vec ℕ Global)). file_at (items ks) k) is)
                c.loop-i.invariant.done
                (keeps_all (file_at files i) (file_at (items new) i) g n (omega (arith, past, long)) here);
            left = λ k l. ap (λ (ks : List (Vec ℕ Global)). file_at (items ks) k) is ∙ c.loop-i.invariant.left k (omega (arith, l));
          }
    ]
