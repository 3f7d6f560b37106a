-- What a controller keeps after rows of a process were put back.
use Rattle.std.proofs.Common.{◌≡◌, ◌≢◌, ℕ, Bool, true, false, ◌&&◌, List, ◌==◌, if◌then◌else◌, Option, None, Some, refl, sym, ap, ◌∙◌, inl, inr}
use Rattle.std.specs.Prelude.{IfSome}
use Rattle.std.proofs.Math.Path.{fun_ext}
use Rattle.std.proofs.lemmas.Bool.{cases_eq, eq-eqb, ne_eqb}
use Rattle.cmh_model3.specs.Laws.{JournalFacts}
use Rattle.cmh_model3.specs.Lists.{in_list}
use Rattle.cmh_waits3.specs.Held.{Held, since_of, waits_of}
use Rattle.cmh_controller3.specs.Controller.{Controller, Kept, home_of, owed_of, state_kept, state_of}
use Rattle.cmh_controller3.specs.Inner.Kept.{IsKept}
use Rattle.cmh_controller3.specs.Tables.{flags_of, marks_of, pairs_of}
use Rattle.cmh_controller3.specs.WaysBack.{FitsRows, flags_back, marks_back, owed_back, pairs_back, rows_back, since_back, waits_back}
use Rattle.cmh_controller3.specs.declared.mark_row.Mark.{Mark}
use Rattle.cmh_controller3.specs.declared.rows.Rows.{Rows}
use Rattle.cmh_controller3.proofs.After.{kept_is}
use Rattle.cmh_controller3.proofs.Back.{back_kept}
use Rattle.cmh_controller3.proofs.Kept.{AsLarge}

-- what is the same of two tables is the same after a row of both was put back
pairs_same : (f g : ℕ → ℕ → Bool) (p : ℕ) (o : Option (List ℕ)) (x y : ℕ) → f x y ≡ g x y → pairs_back f p o x y ≡ pairs_back g p o x y
pairs_same f g p None x y same = same
pairs_same f g p (Some row) x y same = go (x == p)
  where
    go : (z : Bool) → (if z then in_list row else f x) y ≡ (if z then in_list row else g x) y
    go true = refl
    go false = same

-- what is in the table is in the row that was put back, or was in the table
pairs_from : (f : ℕ → ℕ → Bool) (p : ℕ) (o : Option (List ℕ)) (Known : ℕ → Type 0) → ((x y : ℕ) → f x y ≡ true → Known y) → IfSome o (λ row. (y : ℕ) → in_list row y ≡ true → Known y)
    → (x y : ℕ) → pairs_back f p o x y ≡ true → Known y
pairs_from f p None Known before row x y h = before x y h
pairs_from f p (Some row) Known before put x y h = go (x == p) h
  where
    go : (z : Bool) → (if z then in_list row else f x) y ≡ true → Known y
    go true there = put y there
    go false there = before x y there

module _ (c : Controller) (rows : Rows) (waits : Held) (leaving owed : List (List ℕ)) (marks : List (List Mark)) (declared : List Bool)
    (waits_are : waits_of waits ≡ waits_back (waits_of c.kept.waits) rows.process rows.waits) (since_are : since_of waits ≡ since_back (since_of c.kept.waits) rows.process rows.waits)
    (leaving_are : pairs_of leaving ≡ pairs_back (pairs_of c.kept.leaving) rows.process rows.leaving) (owed_are : pairs_of owed ≡ pairs_back (pairs_of c.kept.owed) rows.process rows.owed)
    (marks_are : marks_of marks ≡ marks_back (marks_of c.kept.marks) rows.process rows.forgotten) (flags_are : flags_of declared ≡ flags_back (flags_of c.kept.declared) rows.process rows.forgotten) where
  abbrev home : ℕ → ℕ
  home = home_of c

  abbrev s : ℕ
  s = c.site

  abbrev new : Kept
  new = record c.kept { waits = waits; leaving = leaving; owed = owed; marks = marks; declared = declared; clock = rows.clock }

  owed_put : owed_of home s waits owed ≡ owed_back home s (waits_back (waits_of c.kept.waits) rows.process rows.waits) (pairs_back (owed_of home s c.kept.waits c.kept.owed) rows.process rows.owed)
  owed_put = fun_ext λ x. fun_ext λ y. elim (cases_eq (home y) s) [
    | inl e ↦
        ap (λ z. if z then (home x == s) && in_list (waits_of waits y) x else pairs_of owed x y) (eq-eqb (home y) s e)
        ∙ ap (λ (f : ℕ → List ℕ). (home x == s) && in_list (f y) x) waits_are
        ∙ sym (ap (λ z. if z then (home x == s) && in_list (waits_back (waits_of c.kept.waits) rows.process rows.waits y) x else pairs_back (owed_of home s c.kept.waits c.kept.owed) rows.process rows.owed x y) (eq-eqb (home y) s e))
    | inr n ↦
        let away = ne_eqb (home y) s n in
        ap (λ z. if z then (home x == s) && in_list (waits_of waits y) x else pairs_of owed x y) away
        ∙ ap (λ (f : ℕ → ℕ → Bool). f x y) owed_are
        ∙ pairs_same (pairs_of c.kept.owed) (owed_of home s c.kept.waits c.kept.owed) rows.process rows.owed x y
        (sym (ap (λ z. if z then (home x == s) && in_list (waits_of c.kept.waits y) x else pairs_of c.kept.owed x y) away))
        ∙ sym (ap (λ z. if z then (home x == s) && in_list (waits_back (waits_of c.kept.waits) rows.process rows.waits y) x else pairs_back (owed_of home s c.kept.waits c.kept.owed) rows.process rows.owed x y) away)
  ]

  pub put_is : state_kept home s new ≡ rows_back home s rows (state_of c)
  put_is = kept_is home s new (rows_back home s rows (state_of c)) waits_are since_are leaving_are owed_put marks_are flags_are refl refl

  pub put_kept : IsKept home s c.kept → JournalFacts home s (rows_back home s rows (state_of c)) → FitsRows home s rows → AsLarge c.kept new → IsKept home s new
  put_kept kept facts fits large =
      back_kept home s (rows_back home s rows (state_of c)) c.kept new kept facts put_is large
      (λ k j h. pairs_from (pairs_of c.kept.owed) rows.process rows.owed (λ y. (home y ≢ 0) × (home y ≢ s)) kept.askers (known rows.owed fits.owed) k j (sym (ap (λ (f : ℕ → ℕ → Bool). f k j) owed_are) ∙ h))
      kept.asked
    where
      known : (o : Option (List ℕ)) → IfSome o (λ row. (home rows.process ≡ s) × ((j : ℕ) → in_list row j ≡ true → (home j ≢ 0) × (home j ≢ s)))
          → IfSome o (λ row. (j : ℕ) → in_list row j ≡ true → (home j ≢ 0) × (home j ≢ s))
      known None h = h
      known (Some row) h = h.1
