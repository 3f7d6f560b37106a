-- The forms of lines.
use Rattle.std.proofs.Common.{◌≡◌, ◌≢◌, ◌+◌, ◌==◌, ℕ, false, true, true≢false, List, [], ◌∷◌, length, take, get_or, None, Some, refl, sym, ap, subst, ◌∙◌, codes, ◌⊎◌, inl, inr}
use Rattle.std.specs.Prelude.{if◌then◌else◌, slice_index}
use Rattle.std.proofs.lemmas.Bool.{cases_eq, eq-eqb, ne_eqb}
use Rattle.cmh_model3.specs.declared.event.Event.TheVariants.{Ask, Reply, Withdraw, Got, Turn}
use Rattle.cmh_console.specs.Words.{words_of}
use Rattle.cmh_console.specs.Forms.{SpellNumbers, is_comment, AreSilent, ReadsAll}
use Rattle.cmh_script3.specs.Script.{Say, Says}
use Rattle.cmh_script3.specs.Forms.{name_of, Fits, IsFormOf, AreOf}
use Rattle.cmh_script3.specs.declared.script.Command.TheVariants.{Act, WithdrawAll, Deliver, Cut, Report}
use Rattle.cmh_script3.specs.declared.script.Form.{Form}
use Rattle.cmh_script3.specs.declared.script.Form.TheVariants.{Edition as EditionForm, Site as SiteForm, Ask as AskForm, Reply as ReplyForm, Start as StartForm, Withdraw as WithdrawForm, Deliver as DeliverForm, Cut as CutForm, Report as ReportForm}
use Rattle.cmh_script3.specs.declared.script.Line.{Line}
use Rattle.cmh_script3.specs.declared.script.Line.TheVariants.{Silent, Bad, Edition as Edition_line, Site, Command as Command_line}

-- ---- a form has a name of its own

-- the length of a name and its third byte tell it from the others
key : List ℕ → ℕ
key name = length name + slice_index name 2

form_at : ℕ → Form
form_at n = if n == 112 then EditionForm else (if n == 120 then SiteForm else (if n == 110 then AskForm else (if n == 117 then ReplyForm
    else (if n == 102 then StartForm else (if n == 115 then DeliverForm else (if n == 119 then CutForm else (if n == 124 then WithdrawForm else ReportForm)))))))

told : (form : Form) → form_at (key (name_of form)) ≡ form
unfolding key form_at
told EditionForm = refl
told SiteForm = refl
told AskForm = refl
told ReplyForm = refl
told StartForm = refl
told WithdrawForm = refl
told DeliverForm = refl
told CutForm = refl
told ReportForm = refl

name_unique : (one other : Form) → name_of one ≡ name_of other → one ≡ other
name_unique one other same = sym (told one) ∙ ap (λ name. form_at (key name)) same ∙ told other

-- no line that begins with one is a comment
name_plain : (form : Form) → is_comment (name_of form) ≡ false
name_plain EditionForm = refl
name_plain SiteForm = refl
name_plain AskForm = refl
name_plain ReplyForm = refl
name_plain StartForm = refl
name_plain WithdrawForm = refl
name_plain DeliverForm = refl
name_plain CutForm = refl
name_plain ReportForm = refl

-- ---- what is delivered and cut is a link

pub deliver_link : (ns : List ℕ) (line : Line) → Fits DeliverForm ns line → (ends : ℕ × ℕ) × (ns ≡ ends.0 ∷ ends.1 ∷ [])
deliver_link ns (Command_line (Deliver from to)) fits = ((from, to), fits)
deliver_link ns (Command_line (Act process event)) fits = absurd fits
deliver_link ns (Command_line (WithdrawAll process)) fits = absurd fits
deliver_link ns (Command_line (Cut from to)) fits = absurd fits
deliver_link ns (Command_line Report) fits = absurd fits
deliver_link ns Silent fits = absurd fits
deliver_link ns Bad fits = absurd fits
deliver_link ns Edition_line fits = absurd fits
deliver_link ns (Site row) fits = absurd fits

pub cut_link : (ns : List ℕ) (line : Line) → Fits CutForm ns line → (ends : ℕ × ℕ) × (ns ≡ ends.0 ∷ ends.1 ∷ [])
cut_link ns (Command_line (Cut from to)) fits = ((from, to), fits)
cut_link ns (Command_line (Act process event)) fits = absurd fits
cut_link ns (Command_line (WithdrawAll process)) fits = absurd fits
cut_link ns (Command_line (Deliver from to)) fits = absurd fits
cut_link ns (Command_line Report) fits = absurd fits
cut_link ns Silent fits = absurd fits
cut_link ns Bad fits = absurd fits
cut_link ns Edition_line fits = absurd fits
cut_link ns (Site row) fits = absurd fits

-- ---- what words say, by the form of their first

comment_said : (word : List ℕ) → take 1 word ≡ codes "#" → is_comment word ≡ true
comment_said [] is = absurd (cc is)
comment_said (byte ∷ bytes) is = eq-eqb byte 35 (ap (λ l. get_or l 0 0) is)

comment_says : (word : List ℕ) → is_comment word ≡ true → take 1 word ≡ codes "#"
comment_says [] is = absurd (cc is)
comment_says (byte ∷ bytes) is = elim (cases_eq byte 35) [
  | inl same ↦ ap (λ b. b ∷ []) same
  | inr far ↦ absurd (true≢false (sym is ∙ ne_eqb byte 35 far))
]

silent_says : (words : List (List ℕ)) → AreSilent words → Say words Silent
silent_says [] silent = tt
silent_says (word ∷ words) silent = comment_says word silent

no_cons : (k : ℕ) (ks : List ℕ) → k ∷ ks ≢ []
no_cons k ks = λ e. cc e

cons_no : (k : ℕ) (ks : List ℕ) → k ∷ ks ≡ [] → ⊥
cons_no k ks e = cc e

fits_says : (form : Form) (behind : List (List ℕ)) (numbers : List ℕ) (line : Line) → SpellNumbers behind numbers → Fits form numbers line
    → Say (name_of form ∷ behind) line
fits_says EditionForm behind numbers Edition_line spell fits = (refl, subst (SpellNumbers behind) fits spell)
fits_says SiteForm behind numbers (Site row) spell fits = (refl, subst (SpellNumbers behind) fits spell)
fits_says AskForm behind numbers (Command_line (Act process (Ask asker []))) spell fits = absurd (fits.1 refl)
fits_says AskForm behind numbers (Command_line (Act process (Ask asker (k ∷ ks)))) spell fits =
    ((refl, subst (SpellNumbers behind) fits.0 spell), fits.2)
fits_says ReplyForm behind numbers (Command_line (Act process (Reply holder asker))) spell fits =
    ((refl, subst (SpellNumbers behind) fits.0 spell), fits.1)
fits_says StartForm behind numbers (Command_line (Act process (Ask asker []))) spell fits =
    ((refl, subst (SpellNumbers behind) fits.0 spell), fits.2)
fits_says StartForm behind numbers (Command_line (Act process (Ask asker (k ∷ ks)))) spell fits = absurd (cons_no k ks fits.1)
fits_says WithdrawForm behind numbers (Command_line (Act process (Withdraw asker targets))) spell fits =
    ((refl, subst (SpellNumbers behind) fits.0 spell), fits.1, fits.2)
fits_says WithdrawForm behind numbers (Command_line (WithdrawAll process)) spell fits = (refl, subst (SpellNumbers behind) fits spell)
fits_says DeliverForm behind numbers (Command_line (Deliver from to)) spell fits = (refl, subst (SpellNumbers behind) fits spell)
fits_says CutForm behind numbers (Command_line (Cut from to)) spell fits = (refl, subst (SpellNumbers behind) fits spell)
fits_says ReportForm behind numbers (Command_line Report) spell fits = (refl, subst (SpellNumbers behind) fits spell)
fits_says form behind numbers line spell fits = absurd fits

said_fits : (words : List (List ℕ)) (line : Line) → Say words line → AreSilent words ⊎ AreOf words line
said_fits [] Silent say = inl tt
said_fits [] line say = inl tt
said_fits (word ∷ behind) Silent say = inl (comment_said word say)
said_fits (word ∷ behind) Bad say = absurd say
said_fits (word ∷ behind) Edition_line say =
    inr (record { form = EditionForm; behind = behind; numbers = 3 ∷ []; words_are = ap (λ w. w ∷ behind) say.0; spell = say.1; fits = refl })
said_fits (word ∷ behind) (Site row) say =
    inr (record { form = SiteForm; behind = behind; numbers = row.0 ∷ row.1; words_are = ap (λ w. w ∷ behind) say.0; spell = say.1; fits = refl })
said_fits (word ∷ behind) (Command_line (Act process (Ask asker []))) say =
    inr (record { form = StartForm; behind = behind; numbers = asker ∷ []; words_are = ap (λ w. w ∷ behind) say.0.0; spell = say.0.1; fits = (refl, refl, say.1) })
said_fits (word ∷ behind) (Command_line (Act process (Ask asker (k ∷ ks)))) say =
    inr (record { form = AskForm; behind = behind; numbers = asker ∷ k ∷ ks; words_are = ap (λ w. w ∷ behind) say.0.0; spell = say.0.1; fits = (refl, no_cons k ks, say.1) })
said_fits (word ∷ behind) (Command_line (Act process (Reply holder asker))) say =
    inr (record { form = ReplyForm; behind = behind; numbers = holder ∷ asker ∷ []; words_are = ap (λ w. w ∷ behind) say.0.0; spell = say.0.1; fits = (refl, say.1) })
said_fits (word ∷ behind) (Command_line (Act process (Withdraw asker targets))) say =
    inr (record { form = WithdrawForm; behind = behind; numbers = asker ∷ targets; words_are = ap (λ w. w ∷ behind) say.0.0; spell = say.0.1; fits = (refl, say.1, say.2) })
said_fits (word ∷ behind) (Command_line (Act process (Got from clock frame))) say = absurd say
said_fits (word ∷ behind) (Command_line (Act process (Turn clock))) say = absurd say
said_fits (word ∷ behind) (Command_line (WithdrawAll process)) say =
    inr (record { form = WithdrawForm; behind = behind; numbers = process ∷ []; words_are = ap (λ w. w ∷ behind) say.0; spell = say.1; fits = refl })
said_fits (word ∷ behind) (Command_line (Deliver from to)) say =
    inr (record { form = DeliverForm; behind = behind; numbers = from ∷ to ∷ []; words_are = ap (λ w. w ∷ behind) say.0; spell = say.1; fits = refl })
said_fits (word ∷ behind) (Command_line (Cut from to)) say =
    inr (record { form = CutForm; behind = behind; numbers = from ∷ to ∷ []; words_are = ap (λ w. w ∷ behind) say.0; spell = say.1; fits = refl })
said_fits (word ∷ behind) (Command_line Report) say =
    inr (record { form = ReportForm; behind = behind; numbers = []; words_are = ap (λ w. w ∷ behind) say.0; spell = say.1; fits = refl })

says_line : (bytes : List ℕ) (line : Line) → Say (words_of bytes) line → Says bytes line
says_line bytes Silent say = say
says_line bytes Bad say = absurd say
says_line bytes Edition_line say = say
says_line bytes (Site row) say = say
says_line bytes (Command_line command) say = say

-- a line that fits the form of its first word is said
pub says_form : (bytes : List ℕ) (form : Form) (behind : List (List ℕ)) → words_of bytes ≡ name_of form ∷ behind
    → (line : Line) → ReadsAll (Fits form) behind (Some line) → Says bytes line
says_form bytes form behind is line reads =
    says_line bytes line (subst (λ (ws : List (List ℕ)). Say ws line) (sym is) (fits_says form behind reads.numbers line reads.spell reads.is_of))

-- of words without a form
pub says_silent : (bytes : List ℕ) → AreSilent (words_of bytes) → Says bytes Silent
says_silent bytes silent = silent_says (words_of bytes) silent

pub says_formless : (bytes : List ℕ) → (AreSilent (words_of bytes) → ⊥) → IsFormOf (words_of bytes) None → Says bytes Bad
says_formless bytes loud none = λ line say. elim (said_fits (words_of bytes) line say) [
  | inl silent ↦ loud silent
  | inr of ↦ none of.form of.behind of.words_are
]

-- ---- words that begin with a name

first : List (List ℕ) → List ℕ
first [] = []
first (word ∷ words) = word

rest : List (List ℕ) → List (List ℕ)
rest [] = []
rest (word ∷ words) = words

module _ (form : Form) (behind : List (List ℕ)) where
  name_is : (line : Line) (a : AreOf (name_of form ∷ behind) line) → name_of form ≡ name_of a.form
  unfolding first
  name_is line a = ap first a.words_are

  spell_is : (line : Line) (a : AreOf (name_of form ∷ behind) line) → SpellNumbers behind a.numbers
  unfolding rest
  spell_is line a = subst (λ (ws : List (List ℕ)). SpellNumbers ws a.numbers) (sym (ap rest a.words_are)) a.spell

  -- they say nothing where no line of the form has the numbers that stand after it
  pub says_bad : (bytes : List ℕ) → words_of bytes ≡ name_of form ∷ behind → ReadsAll (Fits form) behind None → Says bytes Bad
  says_bad bytes is none = λ line say. unsaid line (subst (λ (ws : List (List ℕ)). Say ws line) is say)
    where
      unfit : (line : Line) → AreOf (name_of form ∷ behind) line → ⊥
      unfit line a =
          let forms : a.form ≡ form = name_unique a.form form (sym (name_is line a)) in
          none line (record {
            numbers = a.numbers;
            spell = spell_is line a;
            is_of = subst (λ (f : Form). Fits f a.numbers line) forms a.fits;
          })

      unsaid : (line : Line) → Say (name_of form ∷ behind) line → ⊥
      unsaid line say = elim (said_fits (name_of form ∷ behind) line say) [
        | inl silent ↦ true≢false (sym silent ∙ name_plain form)
        | inr of ↦ unfit line of
      ]
