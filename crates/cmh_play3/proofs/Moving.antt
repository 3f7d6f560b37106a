-- Messages that are put on links and taken off them.
use Rattle.std.proofs.Common.{◌≡◌, ℕ, ◌+◌, ◌<◌, ◌&&◌, ◌==◌, Bool, true, false, List, [], ◌∷◌, ◌++◌, length, get_or, take, drop, if◌then◌else◌, refl, sym, ap, ◌∙◌, append-nil, append_assoc}
use Rattle.std.proofs.lemmas.List.{take_more}
use Rattle.cmh_runs.proofs.Sent.{to-append}
use Rattle.cmh_model3.specs.declared.frame.Message.{Message}
use Rattle.cmh_model3.specs.Journals.{frames_to}

put : (here there : Bool) (old sent : List Message) (m : Message)
    → (old ++ (if here then sent else [])) ++ (if here && there then m ∷ [] else []) ≡ old ++ (if here then sent ++ (if there then m ∷ [] else []) else [])
put true there old sent m = append_assoc old sent (if there then m ∷ [] else [])
put false there old sent m = append-nil (old ++ [])

-- one message more on the links of a site
pub sent_more : (xs : List (ℕ × Message)) (i : ℕ) (x : ℕ × Message) → i < length xs → x ≡ get_or xs i x → (from a b : ℕ) (old before after : List Message)
    → before ≡ old ++ (if from == a then frames_to b (take i xs) else [])
    → after ≡ before ++ (if (from == a) && (x.0 == b) then x.1 ∷ [] else [])
    → after ≡ old ++ (if from == a then frames_to b (take (i + 1) xs) else [])
sent_more xs i x inside is from a b old before after so_far puts =
    puts ∙ ap (λ q. q ++ (if (from == a) && (x.0 == b) then x.1 ∷ [] else [])) so_far
    ∙ put (from == a) (x.0 == b) old (frames_to b (take i xs)) x.1
    ∙ ap (λ q. old ++ (if from == a then q else []))
    (sym (to-append b (take i xs) (x ∷ [])) ∙ ap (frames_to b) (ap (λ y. take i xs ++ y ∷ []) is ∙ sym (take_more xs i x inside)))

-- a message is off its link, and the other links are as they were
pub got_off : (here there : Bool) (old : List Message) (m : Message)
    → (if here && there then drop 1 old else old) ≡ drop (length (if there then (if here then m ∷ [] else []) else [])) old
got_off true true old m = refl
got_off true false old m = refl
got_off false true old m = refl
got_off false false old m = refl
