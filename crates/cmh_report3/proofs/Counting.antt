-- Messages counted entry by entry.
use Rattle.std.proofs.Common.{◌≡◌, ℕ, ◌+◌, ◌<◌, List, [], ◌∷◌, ◌++◌, length, get_or, take, sym, ap, ◌∙◌, arith}
use Rattle.cmh_model3.specs.Entries.{WorldEvent}
use Rattle.cmh_report3.specs.Transit.{got_by, got_in, kept, sent_in}
use Rattle.cmh_report3.proofs.Steps.{took}

kept_more : (a b : ℕ) → kept (kept a + b) ≡ kept (a + b)
kept_more a b = omega arith

sent_push : (es : List WorldEvent) (e : WorldEvent) → sent_in (es ++ e ∷ []) ≡ sent_in es + length e.entry.sent
sent_push [] e = omega arith
sent_push (d ∷ es) e = let rest = sent_push es e in omega (arith, rest)

got_push : (es : List WorldEvent) (e : WorldEvent) → got_in (es ++ e ∷ []) ≡ got_in es + got_by e.entry.event
got_push [] e = omega arith
got_push (d ∷ es) e = let rest = got_push es e in omega (arith, rest)

module _ (es : List WorldEvent) (i : ℕ) (e : WorldEvent) (inside : i < length es) (is : e ≡ get_or es i e) where
  pub sent_more : (n : ℕ) → n ≡ kept (sent_in (take i es)) → kept (n + length e.entry.sent) ≡ kept (sent_in (take (i + 1) es))
  sent_more n so_far =
      ap (λ m. kept (m + length e.entry.sent)) so_far ∙ kept_more (sent_in (take i es)) (length e.entry.sent)
      ∙ ap kept (sym (ap sent_in (took es i e inside is) ∙ sent_push (take i es) e))

  pub got_more : (n : ℕ) → n ≡ kept (got_in (take i es)) → kept (n + got_by e.entry.event) ≡ kept (got_in (take (i + 1) es))
  got_more n so_far =
      ap (λ m. kept (m + got_by e.entry.event)) so_far ∙ kept_more (got_in (take i es)) (got_by e.entry.event)
      ∙ ap kept (sym (ap got_in (took es i e inside is) ∙ got_push (take i es) e))
