-- A message has one spelling, and it begins no other.
use Rattle.std.proofs.Common.{◌≡◌, ℕ, ◌^◌, ◌<◌, List, ◌++◌, get_or, drop, sym, ap, ◌∙◌, arith}
use Rattle.byteorder.specs.Endian.{big_bytes, big_number}
use Rattle.byteorder.specs.Numbers.{big_number-reads_back}
use Rattle.cmh_runs.specs.Number.{IsNumber}
use Rattle.cmh_model3.specs.declared.frame.Frame.{Frame}
use Rattle.cmh_model3.specs.declared.frame.Frame.TheVariants.{Request, Reply, Withdraw, Probe}
use Rattle.cmh_model3.specs.declared.frame.Message.{Message}
use Rattle.cmh_wire3.specs.Wire.{IsFrame, IsLong, IsMessage, IsPair, kind_of, numbers_of, pair_spelling, spelling}

-- so many bytes are those of one number
pub one_of : (n x y : ℕ) (r s : List ℕ) → x < 256 ^ n → y < 256 ^ n → big_bytes n x ++ r ≡ big_bytes n y ++ s → x ≡ y
one_of n x y r s below other e = sym (big_number-reads_back n x r below) ∙ ap (big_number n) e ∙ big_number-reads_back n y s other

pub one_long : (x y : ℕ) (r s : List ℕ) → IsLong x → IsLong y → big_bytes 8 x ++ r ≡ big_bytes 8 y ++ s → x ≡ y
one_long x y r s below other e = one_of 8 x y r s below other e

pub one_process : (x y : ℕ) (r s : List ℕ) → IsNumber x → IsNumber y → big_bytes 2 x ++ r ≡ big_bytes 2 y ++ s → x ≡ y
one_process x y r s X Y e = one_of 2 x y r s (let most = X.most in omega arith) (let most = Y.most in omega arith) e

pub one_pair : (p q : ℕ × ℕ) (r s : List ℕ) → IsPair p → IsPair q → pair_spelling p ++ r ≡ pair_spelling q ++ s → (p ≡ q) × (r ≡ s)
one_pair p q r s P Q e =
    let first = one_process p.0 q.0 (big_bytes 2 p.1 ++ r) (big_bytes 2 q.1 ++ s) P.first Q.first e in
    let second = one_process p.1 q.1 r s P.second Q.second (ap (drop 2) e) in
    ((λ i. (first i, second i)), ap (drop 4) e)

one_frame : (f g : Frame) (r s : List ℕ) → IsFrame f → IsFrame g → kind_of f ≡ kind_of g → numbers_of f ++ r ≡ numbers_of g ++ s → (f ≡ g) × (r ≡ s)
one_frame (Request j k) (Request l m) r s F G same e = let one = one_pair (j, k) (l, m) r s F G e in (ap (λ (p : ℕ × ℕ). Request p.0 p.1) one.0, one.1)
one_frame (Reply j k) (Reply l m) r s F G same e = let one = one_pair (j, k) (l, m) r s F G e in (ap (λ (p : ℕ × ℕ). Reply p.0 p.1) one.0, one.1)
one_frame (Withdraw j k) (Withdraw l m) r s F G same e = let one = one_pair (j, k) (l, m) r s F G e in (ap (λ (p : ℕ × ℕ). Withdraw p.0 p.1) one.0, one.1)
one_frame (Probe i n j k) (Probe o m l p) r s F G same e =
    let stamp = one_long n m (big_bytes 2 i ++ (pair_spelling (j, k) ++ r)) (big_bytes 2 o ++ (pair_spelling (l, p) ++ s)) F.0 G.0 e in
    let origin = one_process i o (pair_spelling (j, k) ++ r) (pair_spelling (l, p) ++ s) F.1 G.1 (ap (drop 8) e) in
    let one = one_pair (j, k) (l, p) r s F.2 G.2 (ap (drop 10) e) in
    ((λ t. Probe (origin t) (stamp t) ((one.0 t).0) ((one.0 t).1)), one.1)
one_frame (Request j k) (Reply l m) r s F G same e = absurd (omega arith)
one_frame (Request j k) (Withdraw l m) r s F G same e = absurd (omega arith)
one_frame (Request j k) (Probe o m l p) r s F G same e = absurd (omega arith)
one_frame (Reply j k) (Request l m) r s F G same e = absurd (omega arith)
one_frame (Reply j k) (Withdraw l m) r s F G same e = absurd (omega arith)
one_frame (Reply j k) (Probe o m l p) r s F G same e = absurd (omega arith)
one_frame (Withdraw j k) (Request l m) r s F G same e = absurd (omega arith)
one_frame (Withdraw j k) (Reply l m) r s F G same e = absurd (omega arith)
one_frame (Withdraw j k) (Probe o m l p) r s F G same e = absurd (omega arith)
one_frame (Probe i n j k) (Request l m) r s F G same e = absurd (omega arith)
one_frame (Probe i n j k) (Reply l m) r s F G same e = absurd (omega arith)
one_frame (Probe i n j k) (Withdraw l m) r s F G same e = absurd (omega arith)

pub one_message : (m n : Message) (r s : List ℕ) → IsMessage m → IsMessage n → spelling m ++ r ≡ spelling n ++ s → (m ≡ n) × (r ≡ s)
one_message m n r s M N e =
    let kind : kind_of m.frame ≡ kind_of n.frame = ap (λ l. get_or l 0 0) e in
    let clock = one_long m.clock n.clock (numbers_of m.frame ++ r) (numbers_of n.frame ++ s) M.clock N.clock (ap (drop 1) e) in
    let one = one_frame m.frame n.frame r s M.frame N.frame kind (ap (drop 9) e) in
    ((λ i. record { clock = clock i; frame = one.0 i }), one.1)
