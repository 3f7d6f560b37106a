use Rattle.std.proofs.Common.{◌<◌, ◌+◌, ℕ, List, length, map, take, Vec, sym, ap, ◌∙◌, arith}
use Rattle.std.proofs.lemmas.List.{get_or_read, length-map, length_push}
use Rattle.cmh_journal.specs.File.{file_spelling}
use Rattle.cmh_journal.specs.Journal.{Journal}
use Rattle.std.specs.Global.{Global}
use Rattle.cmh_files.specs.Readings.{file_at}
use Rattle.cmh_files.specs.Stops.{journal_at, length_at, no_journal}
use Rattle.cmh_files.proofs.ReadLemmas.{file_is, keeps_more, keeps_first, keeps_entries}
use Rattle.cmh_files.proofs.common_stop.lengths_of.Goals as goal
use Rattle.cmh_files.proofs.common_stop.lengths_of.Goals.{then-stop-i, else-stop-i}

pub loop-i-preserved : goal.loop-i-preserved
loop-i-preserved c =
    let i = c.loop-i.i in
    let items : Vec ℕ Global → List ℕ = λ f. f.items in
    let firsts = map items c.args.first.now in
    let seconds = map items c.args.second.now in
    let in_second : i < length c.args.second.now = let h = c.loop-i-test.true in omega (arith, h) in
    let count = length-map c.args.second.now items in
    let count_first = length-map c.args.first.now items in
    let r = c.requires.read in
    let long = r.firsts in
    let lengths = r.lengths in
    let each = r.each in
    let inside : i < length seconds = omega (arith, in_second, count) in
    let one = r.read i inside in
    let in_first : i < length c.args.first.now = omega (arith, inside, long, count_first) in
    let in_before : i < length c.args.read.now.before.items = omega (arith, inside, lengths) in
    let in_journals : i < length c.args.read.now.journals.items = omega (arith, inside, each) in
    let before = get_or_read c.args.read.now.before.items i c.index.result.now in_before c.index.ensures 0 in
    record {
      each = ap length c.in_ok-push.ensures.items ∙ length_push c.loop-i.lengths.items c.if-stop-i.length ∙ ap (λ n. n + 1) c.loop-i.invariant.each;
      keeps = keeps_more firsts seconds c.args.read.now.before.items c.args.stop.now c.args.read.now.journals.items i c.loop-i.lengths.items c.push.new.self.items c.if-stop-i.length
          c.in_ok-push.ensures.items c.loop-i.invariant.each c.loop-i.invariant.keeps
          (elim c.if-stop-i.branch [
            | then-stop-i w ↦
                let first_is = file_is c.args.first.now i w.index-first-i.result in_first w.index-first-i.is in
                keeps_first (file_at firsts i) (file_at seconds i) (length_at c.args.read.now.before.items i) (length_at c.args.stop.now i) c.if-stop-i.length (journal_at c.args.read.now.journals.items i) one
                (w.if-stop-i.true ∙ before)
                (w.length-is ∙ w.len-length.ensures ∙ w.index-first-i.result.ok.0 ∙ ap length (sym first_is))
            | else-stop-i w ↦
                let second_is = file_is c.args.second.now i c.index-second-i.result in_second c.index-second-i.is ∙ sym w.deref.ensures.value in
                let journal = get_or_read c.args.read.now.journals.items i w.index-else-stop-i.result.now in_journals w.index-else-stop-i.ensures no_journal in
                keeps_entries (file_at firsts i) (file_at seconds i) (length_at c.args.read.now.before.items i) (length_at c.args.stop.now i) c.if-stop-i.length (journal_at c.args.read.now.journals.items i)
                (λ same. w.if-stop-i.false (same ∙ sym before))
                (ap (λ m. take m (file_at seconds i)) w.length-is ∙ ap (take w.length_of-length.result) second_is ∙ w.length_of-length.ensures
                ∙ ap (λ (j : Journal). file_spelling j.edition j.site (take (length_at c.args.stop.now i) j.entries)) journal)
          ]);
    }
