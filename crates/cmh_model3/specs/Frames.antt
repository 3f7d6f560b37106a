-- Messages of a link, counted by what they say of a wait.
use Rattle.std.specs.Prelude.{ℕ, ◌+◌, Bool, false, ◌&&◌, List, [], ◌∷◌, ◌==◌, if◌then◌else◌}
use Rattle.cmh_model3.specs.declared.frame.Frame.{Frame}
use Rattle.cmh_model3.specs.declared.frame.Frame.TheVariants.{Reply as Reply_frame}
use Rattle.cmh_model3.specs.declared.frame.Message.{Message}

abbrev pub bit : Bool → ℕ
bit b = if b then 1 else 0

-- how many messages pass the test
abbrev pub count : (Message → Bool) → List Message → ℕ
count test [] = 0
count test (x ∷ xs) = bit (test x) + count test xs

abbrev pub frame_replies : ℕ → ℕ → Frame → Bool
frame_replies k j (Reply_frame holder asker) = (holder == k) && (asker == j)
frame_replies k j frame = false

-- the message is the reply of k to j
abbrev pub is_reply : ℕ → ℕ → Message → Bool
is_reply k j m = frame_replies k j m.frame
