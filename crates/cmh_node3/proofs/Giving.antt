-- What entries send, piece by piece, as a sender's end is given it.
use Rattle.std.proofs.Common.{◌≡◌, ◌≢◌, ◌⊎◌, inl, inr, arith, zero, suc, ℕ, ◌+◌, ◌≤◌, ◌<◌, ◌==◌, Bool, true, false, if◌then◌else◌, List, [], ◌∷◌, ◌++◌, length, take, drop, get_or, refl, sym, ap, ◌∙◌, subst, append_assoc, append-nil, take-append-drop}
use Rattle.std.specs.Prelude.{slice_set}
use Rattle.std.proofs.lemmas.Bool.{cases_eq}
use Rattle.std.proofs.lemmas.Grind.{get_or-set_at}
use Rattle.std.proofs.lemmas.List.{get_or-set_other, get_or_default, length-set, take_more}
use Rattle.cmh_runs.specs.Journals.{frames_to, sendings_of}
use Rattle.cmh_runs.proofs.Journals.{sendings_of-append}
use Rattle.cmh_runs.proofs.Sent.{to-append}
use Rattle.cmh_model3.specs.Entries.{Entry}
use Rattle.cmh_model3.specs.declared.frame.Message.{Message}
use Rattle.cmh_resume3.specs.Sender.{Sender}
use Rattle.cmh_node3.specs.Peers.{AtEach, IsGiven, IsGivenPart, WasGiven, WasGivenPart, with_all}
use Rattle.cmh_node3.specs.declared.peer.Peer.{Peer}

-- ---- sender's ends

pub given_none : (s : Sender) → WasGiven [] s s
given_none s = ap (λ (k : List Message). record s { kept = k }) (sym (append-nil s.kept))

pub given_more : (s a b : Sender) (xs ys all : List Message) → WasGiven xs s a → WasGiven ys a b → all ≡ xs ++ ys → WasGiven all s b
given_more s a b xs ys all first next is =
    next ∙ ap (with_all ys) first
    ∙ ap (λ (k : List Message). record s { kept = k }) (append_assoc s.kept xs ys ∙ ap (λ (l : List Message). s.kept ++ l) (sym is))

pub part_none : (s : Sender) (xs all rest : List Message) → xs ++ rest ≡ all → (a b : Sender) → WasGiven xs s a → b ≡ a → WasGivenPart all s b
part_none s xs all rest is a b first same = record { part = xs; begins = (rest, is); after = same ∙ first }

pub part_more : (s a b : Sender) (xs ys rest all : List Message) → WasGiven xs s a → WasGivenPart ys a b → xs ++ (ys ++ rest) ≡ all → WasGivenPart all s b
part_more s a b xs ys rest all first next is = record {
  part = xs ++ next.part;
  begins = (
    next.begins.0 ++ rest,
    append_assoc xs next.part (next.begins.0 ++ rest)
        ∙ ap (λ (l : List Message). xs ++ l) (sym (append_assoc next.part next.begins.0 rest) ∙ ap (λ (l : List Message). l ++ rest) next.begins.1)
        ∙ is,
  );
  after = given_more s a b xs next.part (xs ++ next.part) first next.after refl;
}

-- ---- frames of one entry

next_of : {X : Type 0} (xs : List X) (i : ℕ) (x : X) → i < length xs → x ≡ get_or xs i x → take (i + 1) xs ≡ take i xs ++ x ∷ []
next_of xs i x inside is = take_more xs i x inside ∙ ap (λ y. take i xs ++ y ∷ []) (sym is)

pub frame_here : (to : ℕ) (sent : List (ℕ × Message)) (i : ℕ) (x : ℕ × Message) → i < length sent → x ≡ get_or sent i x → (x.0 == to) ≡ true
    → frames_to to (take (i + 1) sent) ≡ frames_to to (take i sent) ++ x.1 ∷ []
frame_here to sent i x inside is here =
    ap (frames_to to) (next_of sent i x inside is) ∙ to-append to (take i sent) (x ∷ [])
    ∙ ap (λ (z : Bool). frames_to to (take i sent) ++ (if z then x.1 ∷ [] else [])) here

pub frame_away : (to : ℕ) (sent : List (ℕ × Message)) (i : ℕ) (x : ℕ × Message) → i < length sent → x ≡ get_or sent i x → (x.0 == to) ≡ false
    → frames_to to (take (i + 1) sent) ≡ frames_to to (take i sent)
frame_away to sent i x inside is away =
    ap (frames_to to) (next_of sent i x inside is) ∙ to-append to (take i sent) (x ∷ [])
    ∙ ap (λ (z : Bool). frames_to to (take i sent) ++ (if z then x.1 ∷ [] else [])) away ∙ append-nil (frames_to to (take i sent))

-- the frames so far and those behind them are all
pub frames_all : (to : ℕ) (sent : List (ℕ × Message)) (i : ℕ) → frames_to to (take i sent) ++ frames_to to (drop i sent) ≡ frames_to to sent
frames_all to sent i = sym (to-append to (take i sent) (drop i sent)) ∙ ap (frames_to to) (take-append-drop i sent)

-- ---- entries

pub entry_more : (to : ℕ) (es : List Entry) (i : ℕ) (e : Entry) → i < length es → e ≡ get_or es i e
    → sendings_of to (take (i + 1) es) ≡ sendings_of to (take i es) ++ frames_to to e.sent
entry_more to es i e inside is =
    ap (sendings_of to) (next_of es i e inside is) ∙ sendings_of-append to (take i es) (e ∷ [])
    ∙ ap (λ (l : List Message). sendings_of to (take i es) ++ l) (append-nil (frames_to to e.sent))

pub entries_all : (to : ℕ) (es : List Entry) (i : ℕ) (e : Entry) → i < length es → e ≡ get_or es i e
    → sendings_of to (take i es) ++ (frames_to to e.sent ++ sendings_of to (drop (i + 1) es)) ≡ sendings_of to es
entries_all to es i e inside is =
    sym (append_assoc (sendings_of to (take i es)) (frames_to to e.sent) (sendings_of to (drop (i + 1) es)))
    ∙ ap (λ (l : List Message). l ++ sendings_of to (drop (i + 1) es)) (sym (entry_more to es i e inside is))
    ∙ sym (sendings_of-append to (take (i + 1) es) (drop (i + 1) es))
    ∙ ap (sendings_of to) (take-append-drop (i + 1) es)

-- ---- peers

given_is_part : (es : List Entry) (a b : Peer) → IsGiven es a b → IsGivenPart es a b
given_is_part es a b g = record {
  site = g.site;
  into = g.into;
  out = record { part = sendings_of a.site es; begins = ([], append-nil (sendings_of a.site es)); after = g.out };
}

none_is_part : (es : List Entry) (a b : Peer) → b ≡ a → IsGivenPart es a b
none_is_part es a b same = record {
  site = ap (λ (p : Peer). p.site) same;
  into = ap (λ (p : Peer). p.into) same;
  out = record { part = []; begins = (sendings_of a.site es, refl); after = ap (λ (p : Peer). p.out) same ∙ given_none a.out };
}

-- all peers before a place were given all, the one there a part, and those behind it nothing
pub part_at_each : (es : List Entry) (before now : List Peer) (k : ℕ) (p : Peer) (out : Sender) → k < length before → length now ≡ length before → p ≡ get_or now k p
    → ((j : ℕ) (d e : Peer) → j < k → IsGiven es (get_or before j d) (get_or now j e)) → ((j : ℕ) (d : Peer) → k ≤ j → get_or now j d ≡ get_or before j d)
    → WasGivenPart (sendings_of p.site es) p.out out → AtEach (IsGivenPart es) before (slice_set now k (record p { out = out }))
part_at_each es before now k p out inside same is done rest part =
    let q : Peer = record p { out = out } in
    record {
      same_length = length-set now k q ∙ same;
      each = λ j d e within.
          elim (cases_eq j k) [
            | inl here ↦
                let old : get_or before j d ≡ p = sym (rest j d (omega (arith, here))) ∙ ap (λ (i : ℕ). get_or now i d) here ∙ get_or_default now k d p (omega (arith, inside, same)) ∙ sym is in
                let new : get_or (slice_set now k q) j e ≡ q = get_or-set_at now k j q e here (omega (arith, inside, same)) in
                subst (λ (x : Peer). IsGivenPart es x (get_or (slice_set now k q) j e)) (sym old)
                (subst (λ (x : Peer). IsGivenPart es p x) (sym new) (record { site = refl; into = refl; out = part }))
            | inr far ↦
                let new : get_or (slice_set now k q) j e ≡ get_or now j e = get_or-set_other now k j q e far in
                subst (λ (x : Peer). IsGivenPart es (get_or before j d) x) (sym new) (elim (order j k far) [
                  | inl below ↦ given_is_part es (get_or before j d) (get_or now j e) (done j d e below)
                  | inr above ↦ none_is_part es (get_or before j d) (get_or now j e)
                      (get_or_default now j e d (omega (arith, within, same)) ∙ rest j d (omega (arith, above)))
                ])
          ];
    }
  where
    order : (j k : ℕ) → j ≢ k → (j < k) ⊎ (k < j)
    order zero zero far = absurd (far refl)
    order zero (suc k) far = inl (omega arith)
    order (suc j) zero far = inr (omega arith)
    order (suc j) (suc k) far = elim (order j k (λ e. far (ap suc e))) [
      | inl below ↦ inl (omega (arith, below))
      | inr above ↦ inr (omega (arith, above))
    ]
