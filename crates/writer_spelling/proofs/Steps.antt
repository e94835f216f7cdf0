-- How a writer goes on: past a byte, over what follows a place that it reached, and what all of it comes to; and what it takes that
-- no piece refuses.
use Prim.Native.Nat.{ℕ, zero, suc, ◌+◌, ◌-◌, ◌≤◌, ◌<◌}
use native.Mathlib.Omega.{arith}
use native.Mathlib.Numerals.{add-one}
use mathlib.Core.Path.{◌≡◌, refl, sym, ap, ◌∙◌, subst}
use mathlib.Core.Logic.{⊎_elim}
use mathlib.Core.List.{List, [], ◌∷◌, ◌++◌, map}
use lib.ListN.{length, set, length-set}
use lib.Seq.{sets}
use borrow.Author.Tests.{le-leb, lt-leb}
use Rattle.model.specs.declared.Refusal.{Refusal}
use Rattle.model.specs.Texts.{Piece, byte, fault, Spelled, whole, broken, behind, spelled}
use Rattle.theory.proofs.Tests.{decide}
use Rattle.writer_spelling.specs.Going.{Walked, reached, stopped, goes, and_then, Arrives}

pub one_byte : (b : ℕ) (ps : List Piece) (at : ℕ) (t : List ℕ) → at < length t
    → goes ps (at + 1) (set t at b) ≡ goes (byte b ∷ ps) at t
unfolding goes
one_byte b ps at t h = simp (lt-leb _ _ h)

pub goes-append : (ps qs : List Piece) (at : ℕ) (t : List ℕ)
    → and_then (goes ps at t) (λ n u. goes qs n u) ≡ goes (ps ++ qs) at t
unfolding goes
goes-append [] qs at t = refl
goes-append (fault k ∷ ps) qs at t = refl
goes-append (byte b ∷ ps) qs at t =
    ⊎_elim
    (λ (h : at < length t). simp (lt-leb _ _ h) (goes-append ps qs (at + 1) (set t at b)))
    (λ (h : length t ≤ at). simp (le-leb _ _ h))
    (decide at (length t))

-- from the place that was reached
pub on_from : (ps qs : List Piece) (n at : ℕ) (t u : List ℕ) → reached n u ≡ goes ps at t → goes qs n u ≡ goes (ps ++ qs) at t
on_from ps qs n at t u gone = ap (λ (x : Walked). and_then x (λ m v. goes qs m v)) gone ∙ goes-append ps qs at t

-- ---- no piece refuses

pub no_fault : (k : Refusal) (ps : List Piece) (at : ℕ) (t : List ℕ) → fault k ∷ [] ≡ ps → Arrives (goes ps at t) → ⊥
unfolding goes
no_fault k ps at t e a = subst (λ (qs : List Piece). Arrives (goes qs at t)) (sym e) a

pub room_for : (b : ℕ) (ps : List Piece) (at : ℕ) (t : List ℕ) → Arrives (goes (byte b ∷ ps) at t) → at < length t
unfolding goes
room_for b ps at t a =
    ⊎_elim
    (λ (h : at < length t). h)
    (λ (h : length t ≤ at). absurd (simp (le-leb _ _ h) at a))
    (decide at (length t))

first_arrives : (x : Walked) (next : ℕ → List ℕ → Walked) → Arrives (and_then x next) → Arrives x
first_arrives (reached n t) next a = tt
first_arrives (stopped k) next a = a

pub arrives_first : (ps qs : List Piece) (at : ℕ) (t : List ℕ) → Arrives (goes (ps ++ qs) at t) → Arrives (goes ps at t)
arrives_first ps qs at t a = first_arrives (goes ps at t) (λ n u. goes qs n u)
    (subst Arrives (sym (goes-append ps qs at t)) a)

bytes-room : (bs : List ℕ) (at : ℕ) (t : List ℕ) → at ≤ length t → Arrives (goes (map byte bs) at t)
    → at + length bs ≤ length t
bytes-room [] at t l a = omega arith
bytes-room (b ∷ bs) at t l a =
    let h = room_for b (map byte bs) at t a in
    let m = bytes-room bs (at + 1) (set t at b) (omega (arith, length-set t at b))
    (subst Arrives (sym (one_byte b (map byte bs) at t h)) a) in
    omega (arith, length-set t at b)

pub room_for_bytes : (bs : List ℕ) (at : ℕ) (t : List ℕ) → 1 ≤ length bs → Arrives (goes (map byte bs) at t)
    → at + length bs ≤ length t
room_for_bytes [] at t l a = absurd (omega arith)
room_for_bytes (b ∷ bs) at t l a = bytes-room (b ∷ bs) at t (omega (arith, room_for b (map byte bs) at t a)) a

-- ---- what it comes to

-- of bytes t from a place on, by the pieces' bytes or why they have none
abbrev pub comes : ℕ → List ℕ → Spelled → Walked
comes at t (whole bs) = reached (at + length bs) (sets t at bs)
comes at t (broken k) = stopped k

comes-behind : (b at : ℕ) (t : List ℕ) (x : Spelled) → comes (suc at) (set t at b) x ≡ comes at t (behind b x)
comes-behind b at t (whole bs) = ap (λ (n : ℕ). reached n (sets (set t at b) (suc at) bs)) (omega arith)
comes-behind b at t (broken k) = refl

pub goes-spelled : (ps : List Piece) (at n : ℕ) (t : List ℕ) → at + n ≡ length t → goes ps at t ≡ comes at t (spelled n ps)
unfolding goes spelled
goes-spelled [] at n t e = ap (λ (k : ℕ). reached k t) (omega arith)
goes-spelled (fault k ∷ ps) at n t e = refl
goes-spelled (byte b ∷ ps) at zero t e = simp (le-leb (length t) at (omega arith))
goes-spelled (byte b ∷ ps) at (suc n) t e =
    simp (lt-leb (length t) at (omega arith)) (
    ap (λ (k : ℕ). goes ps k (set t at b)) (add-one at)
    ∙ goes-spelled ps (suc at) n (set t at b) (omega (arith, length-set t at b))
    ∙ comes-behind b at t (spelled n ps))

bytes_whole : (bs : List ℕ) (n : ℕ) → length bs ≤ n → spelled n (map byte bs) ≡ whole bs
unfolding spelled
bytes_whole [] n h = refl
bytes_whole (b ∷ bs) zero h = absurd (omega arith)
bytes_whole (b ∷ bs) (suc n) h = ap (behind b) (bytes_whole bs n (omega arith))

pub bytes_fit : (bs : List ℕ) (at : ℕ) (t : List ℕ) → at + length bs ≤ length t
    → reached (at + length bs) (sets t at bs) ≡ goes (map byte bs) at t
bytes_fit bs at t h =
    sym
    (goes-spelled (map byte bs) at (length t - at) t (omega arith)
    ∙ ap (comes at t) (bytes_whole bs (length t - at) (omega arith)))

-- one, two and three bytes, as the code sets them
module _ (at : ℕ) (t : List ℕ) where
  pub one-fits : (b : ℕ) → at + 1 ≤ length t → reached (at + 1) (set t at b) ≡ goes (byte b ∷ []) at t
  one-fits b h = bytes_fit (b ∷ []) at t h

  pub two_fit : (b c : ℕ) → at + 2 ≤ length t
      → reached (at + 2) (set (set t at b) (at + 1) c) ≡ goes (byte b ∷ byte c ∷ []) at t
  two_fit b c h =
      ap (λ (k : ℕ). reached (at + 2) (set (set t at b) k c)) (add-one at) ∙ bytes_fit (b ∷ c ∷ []) at t h

  pub three_fit : (b c d : ℕ) → at + 3 ≤ length t
      → reached (at + 3) (set (set (set t at b) (at + 1) c) (at + 2) d) ≡ goes (byte b ∷ byte c ∷ byte d ∷ []) at t
  three_fit b c d h =
      let two : at + 2 ≡ suc (suc at) = omega arith in
      ap (λ (k : ℕ). reached (at + 3) (set (set (set t at b) k c) (at + 2) d)) (add-one at)
      ∙ (ap (λ (k : ℕ). reached (at + 3) (set (set (set t at b) (suc at) c) k d)) two
      ∙ bytes_fit (b ∷ c ∷ d ∷ []) at t h)
