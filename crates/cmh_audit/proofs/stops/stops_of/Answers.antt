use Rattle.std.proofs.Common.{ℕ, List, Vec, get_or, ap, ◌∙◌, refl, arith}
use Rattle.std.specs.Global.{Global}
use Rattle.cmh_journal.specs.Journal.{Journal}
use Rattle.cmh_audit.proofs.StopLemmas.{stops_none, stops_row, stops_done}
use Rattle.cmh_audit.proofs.stops.stops_of.Goals as goal
use Rattle.cmh_audit.proofs.stops.stops_of.Goals.{in-Some+then-done-len+in_ok-push, in-Some+else-done-len, in_default}

pub loop-site-preserved : goal.loop-site-preserved
loop-site-preserved c =
    let items_of : Vec (ℕ × ℕ) Global → List (ℕ × ℕ) = λ v. v.items in
    let site_of : Journal → ℕ = λ y. y.site in
    elim c.match-place_of.branch [
      | in-Some+then-done-len+in_ok-push w ↦
          let j = w.index-journals-i.result in
          let whole = w.len.ensures.value in
          let less = w.if-done-len.true in
          ap items_of w.rows-is ∙ w.in_ok-push.ensures.items
          ∙ stops_row c.args.sites.now c.args.journals.now c.args.taken.now c.loop-site.site-index c.loop-site-test.true c.requires.once c.requires.each
          c.site-item.result w.in-Some.i (get_or c.args.taken.now w.in-Some.i 0) j c.site-item.is w.in-Some.ensures.0 w.index-journals-i.is (ap site_of w.index-journals-i.is ∙ w.in-Some.ensures.1 j) refl c.loop-site.rows.items (omega (arith, whole, less)) c.loop-site.invariant
      | in-Some+else-done-len w ↦
          let j = w.index-journals-i.result in
          let whole = w.len.ensures.value in
          let less = w.if-done-len.false in
          ap items_of w.rows-is
          ∙ stops_done c.args.sites.now c.args.journals.now c.args.taken.now c.loop-site.site-index c.loop-site-test.true c.requires.once c.requires.each
          c.site-item.result w.in-Some.i (get_or c.args.taken.now w.in-Some.i 0) j c.site-item.is w.in-Some.ensures.0 w.index-journals-i.is (ap site_of w.index-journals-i.is ∙ w.in-Some.ensures.1 j) refl c.loop-site.rows.items (omega (arith, whole, less)) c.loop-site.invariant
      | in_default w ↦ ap items_of w.rows-is ∙ stops_none c.args.sites.now c.args.journals.now c.args.taken.now c.loop-site.site-index c.site-item.result c.loop-site.rows.items c.loop-site-test.true c.site-item.is w.in_default.ensures c.loop-site.invariant
    ]
