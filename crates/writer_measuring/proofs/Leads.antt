-- A tuple's pieces as the writer comes to them are those of the tuple.
use Prim.Native.Nat.{ℕ, ◌+◌, ◌-◌, ◌≤◌, ◌<◌}
use native.Mathlib.Omega.{arith}
use native.Mathlib.Numerals.{add-one}
use mathlib.Core.Path.{◌≡◌, refl, sym, ap, ◌∙◌}
use mathlib.Core.Logic.{⊎_elim}
use mathlib.Core.List.{List, [], ◌∷◌, ◌++◌, map}
use lib.ListN.{length, take, drop, get_or, length-take, length-drop, length-map, drop_of_length-le}
use lib.Seq.{drop-cons}
use borrow.Author.Tests.{eq-eqb, ne_eqb}
use Rattle.model.specs.Texts.{opener, comma, Piece, byte, joined, enclosed}
use Rattle.theory.proofs.Tests.{same?}
use Rattle.writer_measuring.specs.Forms.{fields_at}
use Rattle.writer_measuring.specs.Tuples.{no_fields, lead, lead_bytes, closer_of, from_field}

pub length-lead : (n f : ℕ) → lead_bytes n ≡ length (lead n f)
length-lead n f =
    ⊎_elim
    (λ (e : n ≡ 1). simp (eq-eqb n 1 e))
    (λ (o : n ≡ 1 → ⊥).
    ⊎_elim
    (λ (z : f ≡ 0). simp (ne_eqb n 1 o, eq-eqb f 0 z))
    (λ (z : f ≡ 0 → ⊥). simp (ne_eqb n 1 o, ne_eqb f 0 z))
    (same? f 0))
    (same? n 1)

-- ---- a tuple

-- from its second field on
others-joined : (n f : ℕ) → (n ≡ 1 → ⊥) → (f ≡ 0 → ⊥) → (ps : List (List Piece)) → from_field n f ps ≡ joined byte ps
unfolding from_field joined
others-joined n f o z [] = simp (ne_eqb n 1 o)
others-joined n f o z (p ∷ ps) =
    simp (ne_eqb n 1 o, ne_eqb f 0 z)
    (ap (λ (qs : List Piece). byte comma ∷ p ++ qs) (others-joined n (f + 1) o (λ e. omega arith) ps))

several_joined : (n : ℕ) → (n ≡ 1 → ⊥) → (p : List Piece) (ps : List (List Piece))
    → from_field n 0 (p ∷ ps) ≡ byte opener ∷ p ++ joined byte ps
unfolding from_field
several_joined n o p ps =
    simp (ne_eqb n 1 o)
    (ap (λ (qs : List Piece). byte opener ∷ p ++ qs) (others-joined n (0 + 1) o (λ e. omega arith) ps))

all-joined : (ps : List (List Piece)) → (length ps ≡ 0 → ⊥) → from_field (length ps) 0 ps ≡ enclosed byte ps
unfolding from_field enclosed
all-joined [] some = absurd (some refl)
all-joined (p ∷ []) some = refl
all-joined (p ∷ q ∷ ps) some = several_joined (length (p ∷ q ∷ ps)) (λ e. omega arith) p (q ∷ ps)

module _ (H : List ℕ) (i n : ℕ) (within : i + n < length H) where
  length_fields : length (fields_at H i n) ≡ n
  length_fields = simp (length-take, length-drop) (omega arith)

  -- the fields as the code takes them
  abbrev pub taken : List ℕ
  taken = take (i + 1 + n - (i + 1)) (drop (i + 1) H)

  pub taken_lem : taken ≡ fields_at H i n
  taken_lem = ap (λ (k : ℕ). take k (drop (i + 1) H)) (omega arith)

  pub more_fields : (f : ℕ) → f < length taken → f < n
  more_fields f h = omega (arith, ap length taken_lem, length_fields)

  pub no_more_fields : (f : ℕ) → length taken ≤ f → n ≤ f
  no_more_fields f h = omega (arith, ap length taken_lem, length_fields)

module _ (v : ℕ → List Piece) (H : List ℕ) (i n : ℕ) (within : i + n < length H) where
  pub no_fields_lem : n ≡ 0 → map byte no_fields ≡ enclosed byte (map v (fields_at H i n))
  unfolding enclosed
  no_fields_lem z = rw z

  pub all-fields : (n ≡ 0 → ⊥) → from_field n 0 (map v (fields_at H i n)) ≡ enclosed byte (map v (fields_at H i n))
  all-fields some =
      let e = length-map (fields_at H i n) v ∙ length_fields H i n within in
      ap (λ (k : ℕ). from_field k 0 (map v (fields_at H i n))) (sym e)
      ∙ all-joined (map v (fields_at H i n)) (λ z. some (sym e ∙ z))

  -- the next field, after its lead
  pub next_field : (f : ℕ) → f < n
      → map byte (lead n f) ++ (v (get_or (fields_at H i n) f 0) ++ from_field n (f + 1) (map v (drop (f + 1) (fields_at H i n))))
      ≡ from_field n f (map v (drop f (fields_at H i n)))
  unfolding from_field
  next_field f h =
      let l : f < length (fields_at H i n) = omega (arith, length_fields H i n within) in
      rw (drop-cons (fields_at H i n) f 0, add-one f)

  pub last_field : (f : ℕ) → n ≤ f → byte (closer_of n) ∷ [] ≡ from_field n f (map v (drop f (fields_at H i n)))
  unfolding from_field
  last_field f h =
      let l : length (fields_at H i n) ≤ f = omega (arith, length_fields H i n within) in
      ap (λ (ws : List ℕ). from_field n f (map v ws)) (sym (drop_of_length-le (fields_at H i n) l))
