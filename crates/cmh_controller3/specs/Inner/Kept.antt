-- What every controller keeps.
use Rattle.std.specs.Prelude.{◌≡◌, ◌≢◌, ℕ, ◌<◌, true, length, ◌==◌}
use Rattle.cmh_model3.specs.Laws.{JournalFacts}
use Rattle.cmh_waits3.specs.Held.{is_member}
use Rattle.cmh_controller3.specs.Controller.{Kept, state_kept}
use Rattle.cmh_controller3.specs.Tables.{pairs_of, stamps_of}

-- the numbers of the site's processes are below this
abbrev pub HasRoom : (ℕ → ℕ) → ℕ → ℕ → Type 0
HasRoom home s room = (p : ℕ) → home p ≡ s → p < room

-- The facts of the state of every journal hold, whoever is in the table of the owed is known and of another site, only
-- processes of the site have asked, and there is room for each of them.
pub record IsKept (home : ℕ → ℕ) (s : ℕ) (kept : Kept) : Type 0 where
  pub site : 0 < s
  pub facts : JournalFacts home s (state_kept home s kept)
  pub members : (p : ℕ) → (home p == s) ≡ is_member kept.waits p
  pub askers : (k j : ℕ) → pairs_of kept.owed k j ≡ true → (home j ≢ 0) × (home j ≢ s)
  pub asked : (p : ℕ) → stamps_of kept.stamps p ≢ 0 → home p ≡ s
  pub leaving_room : HasRoom home s (length kept.leaving)
  pub owed_room : HasRoom home s (length kept.owed)
  pub marks_room : HasRoom home s (length kept.marks)
  pub declared_room : HasRoom home s (length kept.declared)
  pub stamps_room : HasRoom home s (length kept.stamps)
