-- What was taken of what was heard.
use Rattle.std.proofs.Common.{◌≡◌, ◌≢◌, ℕ, suc, ◌<◌, ◌≤◌, Bool, List, [], length, take, drop, Option, Some, refl, sym, ap, ◌∙◌, subst, inl, inr, arith}
use Rattle.cmh_model3.specs.declared.frame.Message.{Message}
use Rattle.cmh_wire3.specs.Wire.{spelled}
use Rattle.cmh_resume3.specs.Hello.{IsReplyFront}
use Rattle.cmh_resume3.specs.Stream.{IsAcknowledgementFront, IsItemFront, item_spelling}
use Rattle.cmh_resume3.specs.declared.item.Item.TheVariants as item
use Rattle.cmh_resume3.specs.declared.item.ItemFront.TheVariants.{Whole}
use Rattle.cmh_resume3.specs.declared.refusal.Mismatch.{Mismatch}
use Rattle.cmh_resume3.specs.declared.acknowledgement.AcknowledgementFront.TheVariants as Said
use Rattle.cmh_resume3.specs.declared.answer.ReplyFront.TheVariants as Reply
use Rattle.cmh_station3.specs.Files.{Held}
use Rattle.cmh_node3.specs.Changes.{Tells}
use Rattle.cmh_node3.specs.Nodes.{Node, epoch_of}
use Rattle.cmh_links3.specs.Connections.{Incoming, Outgoing, with_unread}
use Rattle.cmh_links3.specs.Hearing.{IsBatch}
use Rattle.cmh_links3.specs.Listening as heard
use Rattle.cmh_links3.specs.Speaking.{HearsAcknowledgement, HearsMany, HearsNext, HearsReply, IsPlacedSo}
use Rattle.cmh_links3.specs.declared.onward.Onward.{Onward}
use Rattle.cmh_links3.specs.declared.onward.Onward.TheVariants.{Close}
use Rattle.cmh_links3.specs.declared.outgoing.Next.TheVariants as next
use Rattle.cmh_links3.proofs.Hearing.{in_front}

-- ---- on a connection that was accepted

module _ {File : Type 0} (told : File → Option Held) (has_failed : File → Bool) where
  -- the messages of a batch were given to the site
  pub takes_batch : (place now : ℕ) (bytes : List ℕ) (count : ℕ) (messages : List Message) (a s : Incoming) (m : Node File) (onward : Onward)
      (b : Incoming) (n : Node File) → bytes ≡ a.unread → IsBatch bytes count messages → s ≡ with_unread (drop count a.unread) a
      → heard.Gives told has_failed place messages now s m onward b n → heard.HearsMessages told has_failed place now a m onward b n
  takes_batch place now bytes count messages a s m onward b n are batch left gives = record {
    messages = messages;
    rest = drop count a.unread;
    unread = in_front a.unread (spelled messages) count (ap (take count) (sym are) ∙ batch.spell);
    few = batch.few;
    given = subst (λ (x : Incoming). heard.Gives told has_failed place messages now x m onward b n) left gives;
  }

  -- what the cases of an item come to
  pub listens_messages : (place now : ℕ) (a : Incoming) (m : Node File) (onward : Onward) (b : Incoming) (n : Node File) (message : Message) (count : ℕ)
      → IsItemFront a.unread (Whole (item.Message message) count) → heard.TakesMessages told has_failed place now a m onward b n
      → heard.Listens told has_failed place now a m onward b n
  listens_messages place now a m onward b n message count front (inl heard) = inl heard
  listens_messages place now a m onward b n message count front (inr out) = inr (inr (inr (inr (record {
    front = Whole (item.Message message) count;
    is_front = front;
    hopeless = tt;
    stays = out.stays;
    closes = out.closes;
  }))))

  pub listens_note : (place now : ℕ) (a s : Incoming) (m : Node File) (onward : Onward) (b : Incoming) (n : Node File) (epoch count : ℕ)
      → epoch ≤ epoch_of m → IsItemFront a.unread (Whole (item.Note epoch) count) → s ≡ with_unread (drop count a.unread) a
      → heard.Gives told has_failed place [] now s m onward b n → heard.Listens told has_failed place now a m onward b n
  listens_note place now a s m onward b n epoch count no_later front left gives = inr (inl (record {
    epoch = epoch;
    no_later = no_later;
    rest = drop count a.unread;
    unread = in_front a.unread (item_spelling (item.Note epoch)) count front.2;
    given = subst (λ (x : Incoming). heard.Gives told has_failed place [] now x m onward b n) left gives;
  }))

  pub listens_later : (place now : ℕ) (a : Incoming) (m : Node File) (epoch count : ℕ) → IsItemFront a.unread (Whole (item.Note epoch) count)
      → epoch_of m < epoch → heard.Listens told has_failed place now a m Close a m
  listens_later place now a m epoch count front later = inr (inr (inr (inr (record {
    front = Whole (item.Note epoch) count;
    is_front = front;
    hopeless = later;
    stays = record { connection = refl; node = refl };
    closes = refl;
  }))))

  pub listens_refusal : (place now line : ℕ) (a s : Incoming) (m n : Node File) (mismatch : Mismatch) (count : ℕ)
      → IsItemFront a.unread (Whole (item.Refused mismatch) count) → s ≡ with_unread (drop count a.unread) a → line ≡ a.line
      → Tells place line mismatch m n → heard.Listens told has_failed place now a m Close s n
  listens_refusal place now line a s m n mismatch count front left same tells = inr (inr (inl (record {
    mismatch = mismatch;
    rest = drop count a.unread;
    unread = in_front a.unread (item_spelling (item.Refused mismatch)) count front.2;
    tells = subst (λ (l : ℕ). Tells place l mismatch m n) same tells;
    connection = left;
    closes = refl;
  })))

  -- the site has such a place
  pub hears_there : (p : Option ℕ) (place now : ℕ) (a : Incoming) (m : Node File) (onward : Onward) (b : Incoming) (n : Node File)
      → p ≡ Some place → place < length m.peers → heard.Listens told has_failed place now a m onward b n
      → heard.HearsNext told has_failed p now a m onward b n
  hears_there p place now a m onward b n is within listens =
      subst (λ (q : Option ℕ). heard.HearsNext told has_failed q now a m onward b n) (sym is)
      ((λ (_ : place < length m.peers). listens), (λ (far : length m.peers ≤ place). absurd (omega (arith, within, far))))

-- ---- on one that a site dials

module _ {File : Type 0} where
  pub hears_more : (count now : ℕ) (a : Outgoing) (m : Node File) (c : Outgoing) (o : Node File) (b : Outgoing) (n : Node File)
      → HearsMany count now a m c o → HearsNext now c o next.Taken b n → HearsMany (suc count) now a m b n
  hears_more count now a m c o b n many more = (c, o, many, more)

  pub placed_then : (a : Outgoing) (m : Node File) (b : Outgoing) (n : Node File) (c : Outgoing) (o : Node File)
      → IsPlacedSo a m b n → IsPlacedSo b n c o → IsPlacedSo a m c o
  placed_then a m b n c o first more = record { place = more.place ∙ first.place; peers = more.peers ∙ first.peers }

  pub hears_bad_reply : (now : ℕ) (a : Outgoing) (m : Node File) (bytes : List ℕ) → bytes ≡ a.unread → IsReplyFront bytes Reply.Bad
      → HearsReply now a m next.Close a m
  hears_bad_reply now a m bytes are bad = record {
    front = Reply.Bad;
    is_front = subst (λ (l : List ℕ). IsReplyFront l Reply.Bad) are bad;
    by = (refl, record { connection = refl; node = refl });
  }

  pub hears_bad_acknowledgement : (now : ℕ) (a : Outgoing) (m : Node File) (bytes : List ℕ) → bytes ≡ a.unread
      → IsAcknowledgementFront bytes Said.Bad → HearsAcknowledgement now a m next.Close a m
  hears_bad_acknowledgement now a m bytes are bad = record {
    front = Said.Bad;
    is_front = subst (λ (l : List ℕ). IsAcknowledgementFront l Said.Bad) are bad;
    by = (refl, record { connection = refl; node = refl });
  }
