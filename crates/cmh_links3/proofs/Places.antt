-- A site has as many peers as before.
use Rattle.std.proofs.Common.{◌≡◌, ◌≢◌, ℕ, Bool, List, length, Option, None, Some, refl, sym, ap, ◌∙◌}
use Rattle.std.proofs.lemmas.List.{length-set}
use Rattle.cmh_model3.specs.Entries.{Entry as Step}
use Rattle.cmh_model3.specs.declared.frame.Message.{Message}
use Rattle.cmh_station3.specs.Files.{Held}
use Rattle.cmh_resume3.specs.Receiver.{Receiver}
use Rattle.cmh_resume3.specs.Sender.{Sender}
use Rattle.cmh_node3.specs.PeerChanges.{ChangesInto, ChangesOut}
use Rattle.cmh_node3.specs.declared.happening.Action.{Action}
use Rattle.cmh_node3.specs.declared.happening.Happening.{Happening}
use Rattle.cmh_node3.specs.declared.peer.Peer.{Peer}
use Rattle.cmh_node3.specs.Nodes.{Node}
use Rattle.cmh_node3.specs.Steps.{GivenSo, Takes}
use Rattle.cmh_node3.specs.declared.receiving.Taken.{Taken}
use Rattle.cmh_node3.specs.declared.sealed.Sealed.{Sealed}
use Rattle.cmh_node3.specs.declared.sealed.Sealed.TheVariants.{Disk, Memory, Mismatch}
use Rattle.cmh_links3.specs.Speaking.{Does, GivesSo}

out_length : (place : ℕ) (Changes : Sender → Sender → Type 0) (xs ys : List Peer) → ChangesOut place Changes xs ys → length ys ≡ length xs
out_length place Changes xs ys c = ap length c.after ∙ length-set xs place (record c.peer { out = c.out })

into_length : (place : ℕ) (Changes : Receiver → Receiver → Type 0) (xs ys : List Peer) → ChangesInto place Changes xs ys → length ys ≡ length xs
into_length place Changes xs ys c = ap length c.after ∙ length-set xs place (record c.peer { into = c.into })

given_length : (s : Option Sealed) (steps : List Step) (xs ys : List Peer) → GivenSo s steps xs ys → length ys ≡ length xs
given_length None steps xs ys g = g.same_length
given_length (Some Memory) steps xs ys g = g.same_length
given_length (Some Disk) steps xs ys g = absurd g
given_length (Some (Mismatch peer mismatch)) steps xs ys g = absurd g

module _ {File : Type 0} where
  sealed_or_open : (m n : Node File) (s : Option Sealed) → m.sealed ≡ s → (m.sealed ≡ None → length n.peers ≡ length m.peers)
      → (m.sealed ≢ None → n ≡ m) → length n.peers ≡ length m.peers
  sealed_or_open m n None is when_open when_sealed = when_open is
  sealed_or_open m n (Some why) is when_open when_sealed =
      ap (λ (x : Node File). length x.peers) (when_sealed (λ none. absurd (cc (sym is ∙ none))))

  pub does_length : (place : ℕ) (what : Happening) (now : ℕ) (m : Node File) (action : Action) (n : Node File)
      → Does place what now m action n → length n.peers ≡ length m.peers
  does_length place what now m action n d =
      sealed_or_open m n m.sealed refl (λ e. out_length place _ m.peers n.peers (d.0 e).at_end) (λ e. (d.1 e).1)

  pub gives_length : (place now : ℕ) (m : Node File) (given : Option Message) (n : Node File)
      → GivesSo place now m given n → length n.peers ≡ length m.peers
  gives_length place now m given n g =
      sealed_or_open m n m.sealed refl (λ e. out_length place _ m.peers n.peers (g.0 e).at_end) (λ e. (g.1 e).1)

  pub takes_length : (told : File → Option Held) (has_failed : File → Bool) (place line : ℕ) (messages : List Message) (now : ℕ)
      (a : Node File) (taken : Taken) (b : Node File)
      → Takes told has_failed place line messages now a taken b → length b.peers ≡ length a.peers
  takes_length told has_failed place line messages now a taken b t =
      given_length b.sealed _ t.between b.peers t.given ∙ into_length place _ a.peers t.between t.at_end
