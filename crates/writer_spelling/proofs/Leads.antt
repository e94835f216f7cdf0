-- A lead, by the number of fields and the field's.
use Prim.Native.Nat.{ℕ, ◌≤◌}
use native.Mathlib.Omega.{arith}
use mathlib.Core.Path.{◌≡◌, subst}
use mathlib.Core.Logic.{⊎_elim}
use mathlib.Core.List.{[], ◌∷◌}
use lib.ListN.{length}
use borrow.Author.Tests.{eq-eqb, ne_eqb}
use Rattle.model.specs.Texts.{opener, comma, one_opener}
use Rattle.theory.proofs.Tests.{same?}
use Rattle.writer_measuring.specs.Tuples.{lead, lead_bytes}
use Rattle.writer_measuring.proofs.Leads.{length-lead}

pub lead-alone : (n f : ℕ) → n ≡ 1 → one_opener ≡ lead n f
lead-alone n f e = simp (eq-eqb n 1 e)

module _ (n f : ℕ) (several : n ≡ 1 → ⊥) where
  pub lead-first : f ≡ 0 → opener ∷ [] ≡ lead n f
  lead-first z = simp (ne_eqb n 1 several, eq-eqb f 0 z)

  pub lead-other : (f ≡ 0 → ⊥) → comma ∷ [] ≡ lead n f
  lead-other z = simp (ne_eqb n 1 several, ne_eqb f 0 z)

pub some-lead : (n f : ℕ) → 1 ≤ length (lead n f)
some-lead n f =
    let bytes : 1 ≤ lead_bytes n = ⊎_elim
    (λ (e : n ≡ 1). simp (eq-eqb n 1 e) (omega arith))
    (λ (o : n ≡ 1 → ⊥). simp (ne_eqb n 1 o) (omega arith))
    (same? n 1) in
    subst (λ (k : ℕ). 1 ≤ k) (length-lead n f) bytes
