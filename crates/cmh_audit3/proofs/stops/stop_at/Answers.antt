use Rattle.std.proofs.Common.{◌∙◌, ap, length, sym, get_or}
use Rattle.cmh_segment3.specs.declared.segment.Segment.{Segment}
use Rattle.cmh_audit3.specs.Inner.Survey.{stop_of}
use Rattle.cmh_audit3.proofs.Places.{lefts_in, no_stop, stop_found}
use Rattle.cmh_audit3.proofs.stops.stop_at.Goals as goal

pub returns-in-Some : goal.returns-in-Some
returns-in-Some c =
    let g = c.index-segments-place.result in
    let at = c.in-Some.place in
    c.stop_of.ensures
    ∙ (λ i. stop_of c.args.site (get_or c.args.limits.now at 0) (c.len-left.ensures i) (length (c.as_slice-entries.ensures i)))
    ∙ (λ i. stop_of c.args.site (get_or c.args.limits.now at 0) (length (sym c.index-walks-place.is i).walk) (length (sym c.index-segments-place.is i).entries))
    ∙ stop_found c.args.segments.now c.args.limits.now c.args.walks.now at c.args.site g c.index-walks-place.result c.requires.limits c.requires.walks c.in-Some.ensures.0
    c.index-segments-place.is c.index-walks-place.is (ap (λ (x : Segment). x.header.site) c.index-segments-place.is ∙ c.in-Some.ensures.1 g) c.in-Some.ensures.2

pub returns-in-None : goal.returns-in-None
returns-in-None c = no_stop c.args.segments.now c.args.limits.now (lefts_in c.args.walks.now) c.args.site c.in-None.ensures
