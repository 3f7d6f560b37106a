use Rattle.cmh_bases3.proofs.Fitting.{fit_short, short_fit}
use Rattle.cmh_bases3.proofs.links.links_fit.Goals as goal

pub returns-then-are_link_rows : goal.returns-then-are_link_rows
returns-then-are_link_rows c =
    let links = c.args.links.now in
    let are = rw c.as_slice-rows.ensures at (c.are_link_rows.ensures.0 c.if-are_link_rows.true) in
    let bytes = rw c.as_slice-rows.ensures at c.bytes_of_links.ensures in
    (λ short. short_fit links c.bytes_of_links.result bytes are.0 are.1 short, λ fit. fit_short links c.bytes_of_links.result bytes fit)
