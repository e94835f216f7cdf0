-- What is left of so many bytes: after bytes, after what follows, and what all of it comes to.
use Prim.Native.Nat.{ℕ, zero, suc, ◌-◌, ◌≤◌, ◌<◌}
use native.Mathlib.Omega.{arith}
use mathlib.Core.Path.{◌≡◌, refl, ap, ◌∙◌}
use mathlib.Core.Logic.{⊎_elim}
use mathlib.Core.List.{List, [], ◌∷◌, ◌++◌, map}
use lib.ListN.{length}
use borrow.Author.Tests.{lt-ltb, le-ltb}
use Rattle.std.specs.Prelude.{Result, Ok, Err, IfOk}
use Rattle.model.specs.declared.Refusal.{Refusal}
use Rattle.model.specs.declared.Refusal.TheVariants as Why
use Rattle.model.specs.Texts.{Piece, byte, fault, Spelled, whole, broken, behind, spelled}
use Rattle.theory.proofs.Tests.{decide}
use Rattle.writer_measuring.specs.Packing.{limit}
use Rattle.writer_measuring.specs.Measured.{measured, spent}

-- ---- a fault and bytes

pub at-fault : (k : Refusal) (n : ℕ) → Err k ≡ measured n (fault k ∷ [])
unfolding measured
at-fault k n = refl

pub none_left : (n k : ℕ) → n < k → Err Why.Text ≡ spent n k
none_left n k h = simp (lt-ltb n k h)

pub some_left : (n k : ℕ) → k ≤ n → Ok (n - k) ≡ spent n k
some_left n k h = simp (le-ltb n k h)

pub spent-bytes : (bs : List ℕ) (n : ℕ) → spent n (length bs) ≡ measured n (map byte bs)
unfolding measured
spent-bytes [] n = simp (le-ltb n 0 (omega arith)) (ap Ok (omega arith))
spent-bytes (b ∷ bs) zero = simp (lt-ltb 0 (length (b ∷ bs)) (omega arith))
spent-bytes (b ∷ bs) (suc n) =
    ⊎_elim
    (λ (h : n < length bs). simp (lt-ltb (suc n) (length (b ∷ bs)) (omega arith))
    (simp (lt-ltb n (length bs) h) at (spent-bytes bs n)))
    (λ (h : length bs ≤ n). simp (le-ltb (suc n) (length (b ∷ bs)) (omega arith)) (
    let e : suc n - suc (length bs) ≡ n - length bs = omega arith in
    ap Ok e ∙ (simp (le-ltb n (length bs) h) at (spent-bytes bs n))))
    (decide n (length bs))

-- ---- what follows

pub measured_on : (ps qs : List Piece) (n m : ℕ) → Ok m ≡ measured n ps → measured m qs ≡ measured n (ps ++ qs)
unfolding measured
measured_on [] qs n m e = let f : m ≡ n = cc in ap (λ (k : ℕ). measured k qs) f
measured_on (fault k ∷ ps) qs n m e = cc
measured_on (byte b ∷ ps) qs zero m e = cc
measured_on (byte b ∷ ps) qs (suc n) m e = measured_on ps qs n m e

pub measured-stop : (ps qs : List Piece) (n : ℕ) (k : Refusal) → Err k ≡ measured n ps → Err k ≡ measured n (ps ++ qs)
unfolding measured
measured-stop [] qs n k e = cc
measured-stop (fault j ∷ ps) qs n k e = e
measured-stop (byte b ∷ ps) qs zero k e = e
measured-stop (byte b ∷ ps) qs (suc n) k e = measured-stop ps qs n k e

-- no more is left than there was
pub measured-fits : (ps : List Piece) (n : ℕ) → n < limit → IfOk (measured n ps) (λ (m : ℕ). m < limit)
unfolding measured
measured-fits [] n l = l
measured-fits (fault k ∷ ps) n l = tt
measured-fits (byte b ∷ ps) zero l = tt
measured-fits (byte b ∷ ps) (suc n) l = measured-fits ps n (omega arith)

-- ---- what it comes to

abbrev pub left_of : ℕ → Spelled → Result ℕ Refusal
left_of n (whole bs) = Ok (n - length bs)
left_of n (broken k) = Err k

left_behind : (b n : ℕ) (x : Spelled) → left_of n x ≡ left_of (suc n) (behind b x)
left_behind b n (whole bs) = ap Ok (omega arith)
left_behind b n (broken k) = refl

pub measured-spelled : (ps : List Piece) (n : ℕ) → measured n ps ≡ left_of n (spelled n ps)
unfolding measured spelled
measured-spelled [] n = ap Ok (omega arith)
measured-spelled (fault k ∷ ps) n = refl
measured-spelled (byte b ∷ ps) zero = refl
measured-spelled (byte b ∷ ps) (suc n) = measured-spelled ps n ∙ left_behind b n (spelled n ps)
