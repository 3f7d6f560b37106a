use Rattle.std.proofs.Common.{ℕ, List, Bor, Vec, length, map, ap, sym, ◌∙◌, subst₂, arith}
use Rattle.std.proofs.lemmas.List.{length-map}
use Rattle.std.proofs.lemmas.Result.{on_ok_weaker}
use Rattle.std.proofs.lemmas.Simd.{map-map}
use Rattle.std.proofs.lemmas.Slice.Zip.{AllZip-long}
use Rattle.std.specs.Global.{Global}
use Rattle.cmh_archive3.specs.Recording.{AreSummaries, KeepsEach, last_epoch}
use Rattle.cmh_archive3.specs.declared.summary.Summary.{Summary}
use Rattle.cmh_archive3.proofs.recording.record_audited.Goals as goal

abbrev items : Vec Summary Global → List Summary
items segments = segments.items

abbrev bytes_of : Vec (Vec ℕ Global) Global → List (List ℕ)
bytes_of segments = map (λ (file : Vec ℕ Global). file.items) segments.items

pub keep_each-requires : goal.keep_each-requires
keep_each-requires g c =
    let js = c.in_ok-journals.journals.items in
    let zipped = AllZip-long AreSummaries (map bytes_of c.args.files.now) (map items js) c.in_ok-journals.ensures in
    let opened = ap length c.deref-3.ensures.value in
    let a = length-map js items in
    let b = length-map c.args.files.now bytes_of in
    let count = c.requires.each in
    omega (arith, zipped, opened, a, b, count)

pub returns : goal.returns
returns g c =
    let js = c.in_ok-journals.journals.items in
    let paths = map (λ (path : Bor (List ℕ)). path.now) c.args.paths.now in
    on_ok_weaker c.keep_each.result
    (λ keeps. record {
      journals = map items js;
      read = c.in_ok-journals.ensures;
      keeps = subst₂ (λ (newest : List ℕ) (journals : List (Vec Summary Global)).
          KeepsEach g.K.RecordKeeper.keeps newest paths (map items journals) c.args.keeper.now c.keep_each.new.keeper)
          (c.deref-2.ensures.value ∙ c.in_ok-newest.ensures
          ∙ ap (map (λ (segments : Vec Summary Global). last_epoch segments.items)) c.deref.ensures.value
          ∙ sym (map-map last_epoch items js))
          c.deref-3.ensures.value keeps;
    })
    c.keep_each.ensures
