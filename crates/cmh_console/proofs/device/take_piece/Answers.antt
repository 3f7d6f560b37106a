use Rattle.std.proofs.Common.{◌≡◌, ◌<◌, ◌+◌, ◌-◌, ◌++◌, length, take, min, subst, ap, ◌∙◌, rules, arith}
use Rattle.std.specs.Io.BufRead.{FillKeeps}
use Rattle.std.proofs.BufReadLemmas.{Consumes_shown}
use Rattle.cmh_console.proofs.LinesSeen.{piece_fed, take_min}
use Rattle.cmh_console.proofs.device.take_piece.Goals as goal

pub returns-then-is_fed-clause-piece : goal.returns-then-is_fed-clause-piece
returns-then-is_fed-clause-piece g c =
    let shown = c.in-Ok.bytes.now in
    let seen = c.feed_at-seen.result in
    let old = c.args.line.now.items in
    let inside : seen < length shown = c.if-is_fed.true in
    let rested = c.fill_buf.follows.lender-at-none in
    let filled = subst (FillKeeps _ (g.R.Read.remaining rested) (g.R.BufRead.consumable_len rested)) c.in-Ok.is c.fill_buf.follows.holds-at-none in
    let moved = Consumes_shown _ _ _ _ shown (seen + 1) (omega arith) c.in-Ok.ensures.front c.in-Ok.ensures.end filled.0 filled.1 c.consume.ensures.bytes in
    let grows : c.extend_from_slice.new.self.items ≡ old ++ take (min seen (c.args.most - length old)) shown = search rules in
    piece_fed _ _ shown seen c.args.most old _ inside c.feed_at-seen.ensures.before (c.feed_at-seen.ensures.feed inside) moved.0
    (grows ∙ ap (λ xs. old ++ xs) (take_min (c.args.most - length old) seen shown))
