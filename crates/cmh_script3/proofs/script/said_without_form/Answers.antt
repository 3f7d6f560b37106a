use Rattle.std.proofs.Common.{◌≡◌, ◌∷◌, subst, sym, true≢false, ◌∙◌}
use Rattle.cmh_console.specs.Words.{words_of}
use Rattle.cmh_console.specs.Forms.{AreSilent}
use Rattle.cmh_script3.proofs.Forms.{says_formless}
use Rattle.cmh_script3.proofs.script.said_without_form.Goals as goal

pub returns-in-Some : goal.returns-in-Some
returns-in-Some c =
    let is : words_of c.args.line.now ≡ c.in-Some.name.now ∷ c.next_word.new.self = sym c.new.ensures ∙ c.in-Some.ensures.word in
    says_formless c.args.line.now
    (λ silent. true≢false (sym (subst AreSilent is silent) ∙ sym c.is_comment.ensures ∙ c.if-not-is_comment.true)) c.requires
