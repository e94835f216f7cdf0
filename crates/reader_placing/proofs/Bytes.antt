-- The bytes from a place on: the first of them, and what follows a part.
use Prim.Native.Nat.{ℕ, zero, suc, ◌+◌, ◌<◌}
use native.Mathlib.Omega.{arith}
use native.Mathlib.Numerals.{add-one}
use mathlib.Core.Path.{◌≡◌, sym, ap, ◌∙◌}
use mathlib.Core.List.{List, [], ◌∷◌, ◌++◌}
use lib.ListN.{length, get_or, drop}
use lib.Seq.{drop-drop, drop-append_seam}

pub record First (T : List ℕ) (p : ℕ) (b : ℕ) (bs : List ℕ) : Type 0 where
  pub inside : p < length T
  pub is : get_or T p 0 ≡ b
  pub rest : drop (p + 1) T ≡ bs

first-suc : (T : List ℕ) (p b : ℕ) (bs : List ℕ) → drop p T ≡ b ∷ bs → (p < length T) × (get_or T p 0 ≡ b) × (drop (suc p) T ≡ bs)
first-suc [] zero b bs e = let z : ◌≡◌ {A = ℕ} 0 1 = cc in absurd (omega arith)
first-suc [] (suc p) b bs e = let z : ◌≡◌ {A = ℕ} 0 1 = cc in absurd (omega arith)
first-suc (a ∷ T) zero b bs e = (omega arith, cc, cc)
first-suc (a ∷ T) (suc p) b bs e = let h = first-suc T p b bs e in (omega (arith, h.0), h.1, h.2)

pub first_of_lem : (T : List ℕ) (p b : ℕ) (bs : List ℕ) → drop p T ≡ b ∷ bs → First T p b bs
first_of_lem T p b bs e =
    let h = first-suc T p b bs e in
    record { inside = h.0; is = h.1; rest = rw (add-one p) h.2 }

-- what follows a part
pub after : (T : List ℕ) (p : ℕ) (part rest : List ℕ) → drop p T ≡ part ++ rest → drop (p + length part) T ≡ rest
after T p part rest e = sym (drop-drop (length part) p T) ∙ ap (λ (l : List ℕ). drop (length part) l) e ∙ drop-append_seam part rest

-- and a byte more
pub after-mark : (T : List ℕ) (p : ℕ) (part : List ℕ) (b : ℕ) (rest : List ℕ) → drop p T ≡ part ++ (b ∷ rest)
    → drop (p + length part + 1) T ≡ rest
after-mark T p part b rest e = (first_of_lem T (p + length part) b rest (after T p part (b ∷ rest) e)).rest

-- a part that is there is within
pub part-within : (T : List ℕ) (p : ℕ) (part : List ℕ) (b : ℕ) (rest : List ℕ) → drop p T ≡ part ++ (b ∷ rest)
    → p + length part < length T
part-within T p part b rest e = (first_of_lem T (p + length part) b rest (after T p part (b ∷ rest) e)).inside
