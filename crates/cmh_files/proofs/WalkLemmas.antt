-- Walks through the entries of a journal.
use Rattle.std.proofs.Common.{◌≡◌, ◌≢◌, ℕ, zero, suc, ◌+◌, ◌<◌, ◌≤◌, ◌==◌, Bool, true, false, List, [], ◌∷◌, ◌++◌, length, take, drop, if◌then◌else◌, refl, sym, ap, ◌∙◌, arith, length-append}
use Rattle.std.specs.Prelude.{MatchBool}
use Rattle.std.proofs.lemmas.List.{append-nil}
use Rattle.cmh_frames.specs.declared.frame.Frame.{Frame}
use Rattle.cmh_frames.specs.declared.event.Event.{Event}
use Rattle.cmh_frames.specs.declared.event.Event.TheVariants.{Ask, Reply, Start, Got}
use Rattle.cmh_frames.specs.Entries.{Entry}
use Rattle.cmh_frames.specs.Journals.{frame_from, frames_to, receipts_of, sendings_of}
use Rattle.cmh_frames.proofs.Journals.{receipts_of-append, sendings_of-append}
use Rattle.cmh_journal.specs.Journal.{Journal}
use Rattle.cmh_files.specs.Inner.Counts.{one_at}
use Rattle.cmh_files.specs.Inner.Steps.{Goes, GoesPast, StandsAt}
use Rattle.cmh_files.specs.declared.walk.Walk.{Walk}

-- ---- the frames of one entry

-- the first of some frames counts at the site to which it goes
pub count_to : (s : ℕ) (x : ℕ × Frame) (xs : List (ℕ × Frame)) → length (frames_to s (x ∷ xs)) ≡ one_at x.0 s + length (frames_to s xs)
count_to s x xs = by_case (x.0 == s)
  where
    by_case : (b : Bool) → length (if b then x.1 ∷ frames_to s xs else frames_to s xs) ≡ (if b then 1 else 0) + length (frames_to s xs)
    by_case true = omega arith
    by_case false = omega arith

pub count_from : (s from : ℕ) (frame : Frame) → length (frame_from s (Got from frame)) ≡ one_at from s
count_from s from frame = by_case (from == s)
  where
    by_case : (b : Bool) → length (if b then frame ∷ [] else []) ≡ (if b then 1 else 0)
    by_case true = refl
    by_case false = refl

pub count_none : (s : ℕ) (event : Event) → ((from : ℕ) (frame : Frame) → event ≢ Got from frame) → length (frame_from s event) ≡ 0
count_none s (Ask asker targets) other = refl
count_none s (Reply holder asker) other = refl
count_none s (Start of) other = refl
count_none s (Got from frame) other = absurd (other from frame refl)

-- ---- the entry behind the first n

next_behind : (es : List Entry) (n : ℕ) (e : Entry) (rest : List Entry) → drop n es ≡ e ∷ rest → (n < length es) × (rest ≡ drop (suc n) es) × (take (suc n) es ≡ take n es ++ e ∷ [])
next_behind [] zero e rest is = let h : [] ≡ e ∷ rest = is in absurd (cc)
next_behind [] (suc n) e rest is = let h : [] ≡ e ∷ rest = is in absurd (cc)
next_behind (x ∷ es) zero e rest is = let h : x ∷ es ≡ e ∷ rest = is in let same : x ≡ e = cc in (omega arith, cc, ap (λ (y : Entry). y ∷ []) same)
next_behind (x ∷ es) (suc n) e rest is = let h = next_behind es n e rest is in let l = h.0 in (omega (arith, l), h.1, ap (λ (ys : List Entry). x ∷ ys) h.2)

pub none_behind : (es : List Entry) (n : ℕ) → drop n es ≡ [] → length es ≤ n
none_behind [] n none = omega arith
none_behind (x ∷ es) zero none = let h : x ∷ es ≡ [] = none in absurd (cc)
none_behind (x ∷ es) (suc n) none = let h = none_behind es n none in omega (arith, h)

-- the walk stands behind one entry more
pub goes_on : (j : Journal) (n : ℕ) (old new : Walk) (entry : Entry) → StandsAt j n old → GoesPast entry old new → StandsAt j (n + 1) new
goes_on j n old new entry at goes =
    let next = next_behind j.entries n entry new.left (sym at.left ∙ goes.left) in
    let room = next.0 in
    let one : suc n ≡ n + 1 = omega arith in
    let kept : take (n + 1) j.entries ≡ take n j.entries ++ entry ∷ [] = ap (λ m. take m j.entries) (sym one) ∙ next.2 in
    record {
      site = goes.site ∙ at.site;
      within = omega (arith, room);
      limited = at.limited;
      left = next.1 ∙ ap (λ m. drop m j.entries) one;
      sent = λ s. goes.sent s ∙ ap (λ m. m + length (frames_to s entry.sent)) (at.sent s) ∙ sym (ap (λ (es : List Entry). length (sendings_of s es)) kept ∙ sent_more s (take n j.entries) entry);
      got = λ s. goes.got s ∙ ap (λ m. m + length (frame_from s entry.event)) (at.got s) ∙ sym (ap (λ (es : List Entry). length (receipts_of s es)) kept ∙ got_more s (take n j.entries) entry);
    }
  where
    sent_more : (s : ℕ) (es : List Entry) (e : Entry) → length (sendings_of s (es ++ e ∷ [])) ≡ length (sendings_of s es) + length (frames_to s e.sent)
    sent_more s es e =
        ap length (sendings_of-append s es (e ∷ [])) ∙ length-append (sendings_of s es) (sendings_of s (e ∷ []))
        ∙ ap (λ (fs : List Frame). length (sendings_of s es) + length fs) (append-nil (frames_to s e.sent))

    got_more : (s : ℕ) (es : List Entry) (e : Entry) → length (receipts_of s (es ++ e ∷ [])) ≡ length (receipts_of s es) + length (frame_from s e.event)
    got_more s es e =
        ap length (receipts_of-append s es (e ∷ [])) ∙ length-append (receipts_of s es) (receipts_of s (e ∷ []))
        ∙ ap (λ (fs : List Frame). length (receipts_of s es) + length fs) (append-nil (frame_from s e.event))

-- a step that has an entry before it goes on
pub step_on : (j : Journal) (n : ℕ) (old new : Walk) (went : Bool) → MatchBool went (Goes old new) ((old.left ≡ []) × (new ≡ old)) → n < length j.entries → StandsAt j n old → StandsAt j (n + 1) new
step_on j n old new true goes l at = goes_on j n old new goes.0 at goes.1
step_on j n old new false ended l at = absurd (let h = none_behind j.entries n (sym at.left ∙ ended.0) in omega (arith, h))

-- more entries have as many receipts or more
pub more_got : (s : ℕ) (es : List Entry) (m n : ℕ) → m ≤ n → length (receipts_of s (take m es)) ≤ length (receipts_of s (take n es))
more_got s es zero n l = omega arith
more_got s es (suc m) zero l = absurd (omega arith)
more_got s [] (suc m) (suc n) l = omega arith
more_got s (e ∷ es) (suc m) (suc n) l =
    let h = more_got s es m n (omega arith) in
    let a = length-append (frame_from s e.event) (receipts_of s (take m es)) in
    let b = length-append (frame_from s e.event) (receipts_of s (take n es)) in
    omega (arith, h, a, b)
