-- Messages that the site gave, one after the other.
use Rattle.std.proofs.Common.{◌≡◌, ◌≢◌, ℕ, List, [], ◌∷◌, ◌++◌, Option, None, Some, refl, sym, ap, ◌∙◌, subst, append_assoc, append-nil}
use Rattle.std.proofs.lemmas.Grind.{flat_map-append}
use Rattle.cmh_model3.specs.declared.frame.Message.{Message}
use Rattle.cmh_wire3.specs.Wire.{spelled, spelling}
use Rattle.cmh_node3.specs.Changes.{Gives}
use Rattle.cmh_node3.specs.Nodes.{Node}
use Rattle.cmh_links3.specs.Connections.{Outgoing}
use Rattle.cmh_links3.specs.Speaking.{GivesAll, GivesSo, says}

-- one more behind them
pub spelled_more : (messages : List Message) (message : Message) (bytes : List ℕ)
    → (bytes ++ spelled messages) ++ spelling message ≡ bytes ++ spelled (messages ++ message ∷ [])
spelled_more messages message bytes =
    append_assoc bytes (spelled messages) (spelling message)
    ∙ ap (λ (l : List ℕ). bytes ++ l) (ap (λ (l : List ℕ). spelled messages ++ l) (sym (append-nil (spelling message))) ∙ sym (flat_map-append spelling messages (message ∷ [])))

pub said_more : (messages : List Message) (message : Message) (a b c : Outgoing) → b ≡ says (spelled messages) a → c ≡ says (spelling message) b
    → c ≡ says (spelled (messages ++ message ∷ [])) a
said_more messages message a b c first next =
    next ∙ ap (λ (x : Outgoing). says (spelling message) x) first ∙ ap (λ (l : List ℕ). record a { to_write = l }) (spelled_more messages message a.to_write)

module _ {File : Type 0} where
  pub gives_more : (place now : ℕ) (messages : List Message) (message : Message) (m n o : Node File)
      → GivesAll place now messages m n → GivesSo place now n (Some message) o → GivesAll place now (messages ++ message ∷ []) m o
  gives_more place now [] message m n o same gives = (o, subst (λ (x : Node File). GivesSo place now x (Some message) o) same gives, refl)
  gives_more place now (first ∷ messages) message m n o (c, one, others) gives =
      (c, one, gives_more place now messages message c n o others gives)

  pub gives_here : (place q now : ℕ) (m n : Node File) (given : Option Message) → (m.sealed ≡ None → Gives q now m given n)
      → (m.sealed ≢ None → (given ≡ None) × (n ≡ m)) → q ≡ place → GivesSo place now m given n
  gives_here place q now m n given when_open when_sealed same = subst (λ (x : ℕ). GivesSo x now m given n) same (when_open, when_sealed)
