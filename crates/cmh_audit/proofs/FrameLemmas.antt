-- The derived comparison of frames tells them apart.
use Rattle.std.proofs.Common.{◌≡◌, ℕ, ◌&&◌, ◌==◌, true, refl}
use Rattle.std.proofs.lemmas.Bool.{and_parts, and_from, eqb-true, eq-eqb}
use Rattle.cmh_frames.specs.declared.frame.Frame.{Frame}
use Rattle.cmh_frames.specs.declared.frame.Frame.TheVariants.{Request, Reply, Probe}
use Rattle.cmh_frames.specs.contracts.frame.FramePartialEq.TheImpl.{eq-value}

request_same : (a h b k : ℕ) → a ≡ b → h ≡ k → Request (a, h) ≡ Request (b, k)
request_same a h b k p q = λ i. Request (p i, q i)

reply_same : (a h b k : ℕ) → a ≡ b → h ≡ k → Reply (a, h) ≡ Reply (b, k)
reply_same a h b k p q = λ i. Reply (p i, q i)

probe_same : (i a h j b k : ℕ) → i ≡ j → a ≡ b → h ≡ k → Probe (i, a, h) ≡ Probe (j, b, k)
probe_same i a h j b k o p q = λ z. Probe (o z, p z, q z)

pub frame_same : (x y : Frame) → eq-value.it x y ≡ true → x ≡ y
frame_same (Request (a, h)) (Request (b, k)) e = let p = and_parts (a == b) (h == k) e in request_same a h b k (eqb-true a b p.0) (eqb-true h k p.1)
frame_same (Request (a, h)) (Reply (b, k)) e = absurd (cc)
frame_same (Request (a, h)) (Probe (j, b, k)) e = absurd (cc)
frame_same (Reply (a, h)) (Request (b, k)) e = absurd (cc)
frame_same (Reply (a, h)) (Reply (b, k)) e = let p = and_parts (a == b) (h == k) e in reply_same a h b k (eqb-true a b p.0) (eqb-true h k p.1)
frame_same (Reply (a, h)) (Probe (j, b, k)) e = absurd (cc)
frame_same (Probe (i, a, h)) (Request (b, k)) e = absurd (cc)
frame_same (Probe (i, a, h)) (Reply (b, k)) e = absurd (cc)
frame_same (Probe (i, a, h)) (Probe (j, b, k)) e = let p = and_parts (i == j) ((a == b) && (h == k)) e in let q = and_parts (a == b) (h == k) p.1 in probe_same i a h j b k (eqb-true i j p.0) (eqb-true a b q.0) (eqb-true h k q.1)

pub frame_eq_self : (x : Frame) → eq-value.it x x ≡ true
frame_eq_self (Request (a, h)) = and_from (a == a) (h == h) (eq-eqb a a refl) (eq-eqb h h refl)
frame_eq_self (Reply (a, h)) = and_from (a == a) (h == h) (eq-eqb a a refl) (eq-eqb h h refl)
frame_eq_self (Probe (i, a, h)) = and_from (i == i) ((a == a) && (h == h)) (eq-eqb i i refl) (and_from (a == a) (h == h) (eq-eqb a a refl) (eq-eqb h h refl))
