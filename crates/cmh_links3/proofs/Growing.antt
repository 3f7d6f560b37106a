-- How a site's journal grows.
use Rattle.std.proofs.Common.{◌≡◌, ℕ, Bool, List, [], ◌++◌, Option, sym, subst, append_assoc, append-nil}
use Rattle.cmh_model3.specs.Entries.{Entry as Step}
use Rattle.cmh_model3.specs.declared.frame.Message.{Message}
use Rattle.cmh_station3.specs.Files.{Held}
use Rattle.cmh_node3.specs.Nodes.{IsExact, Node, StaysExact}
use Rattle.cmh_node3.specs.Steps.{NotTakes, Takes}
use Rattle.cmh_node3.specs.declared.receiving.NotTaken.{NotTaken}
use Rattle.cmh_node3.specs.declared.receiving.NotTaken.TheVariants.{Sealed, Stale, Failed}
use Rattle.cmh_node3.specs.declared.receiving.Taken.{Taken}
use Rattle.cmh_node3.specs.declared.settling.StepFault.TheVariants.{Memory, Disk}
use Rattle.cmh_links3.specs.Growing.{Grows}

module _ {File : Type 0} (told : File → Option Held) (has_failed : File → Bool) where
  pub grows_stays : (a b : Node File) → StaysExact told has_failed a b → Grows told has_failed a b
  grows_stays a b stays = record {
    grown = λ steps exact. ([], subst (λ (l : List Step). IsExact told has_failed b l) (sym (append-nil steps)) (stays steps exact));
  }

  pub grows_same : (a b : Node File) → b ≡ a → Grows told has_failed a b
  grows_same a b same = grows_stays a b (λ steps exact. subst (λ (n : Node File). IsExact told has_failed n steps) (sym same) exact)

  pub grows_then : (a b c : Node File) → Grows told has_failed a b → Grows told has_failed b c → Grows told has_failed a c
  grows_then a b c first next = record {
    grown = λ steps exact.
        let one = first.grown steps exact in
        let two = next.grown (steps ++ one.0) one.1 in
        (one.0 ++ two.0, subst (λ (l : List Step). IsExact told has_failed c l) (append_assoc steps one.0 two.0) two.1);
  }

  pub grows_takes : (place line : ℕ) (messages : List Message) (now : ℕ) (a : Node File) (taken : Taken) (b : Node File)
      → Takes told has_failed place line messages now a taken b → Grows told has_failed a b
  grows_takes place line messages now a taken b t = record { grown = λ steps exact. (_, t.exact steps exact) }

  pub grows_not : (place line : ℕ) (messages : List Message) (a : Node File) (why : NotTaken) (b : Node File)
      → NotTakes told has_failed place line messages a why b → Grows told has_failed a b
  grows_not place line messages a Sealed b n = grows_same a b n.1
  grows_not place line messages a Stale b n = grows_same a b n.2
  grows_not place line messages a (Failed Memory) b n = grows_stays a b n.fails.exact
  grows_not place line messages a (Failed Disk) b n = grows_stays a b n.fails.exact
