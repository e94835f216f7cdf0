-- A tiling is read off its headers alone: the same in another heap, and with one more object at its end.
use Prim.Native.Nat.{ℕ, zero, suc, ◌+◌, ◌≤◌, ◌<◌}
use native.Mathlib.Omega.{arith}
use mathlib.Core.Path.{◌≡◌, refl, sym, ap, ◌∙◌, subst}
use mathlib.Core.Logic.{⊎_elim}
use mathlib.Core.Bool.{true, false}
use mathlib.Core.List.{List, [], ◌∷◌, ◌++◌}
use lib.Dec.{ltb}
use borrow.Author.Tests.{ltb-true, ltb-false, eqb-true, eq-eqb, lt-ltb}
use Rattle.model.specs.Headers.{Layout}
use Rattle.model.specs.Objects.{size}
use Rattle.model.specs.Soundness.{tiles, headers_from}
use Rattle.model.specs.Words.{at}
use Rattle.theory.proofs.Members.{In, in_tail, in_self}
use Rattle.theory.proofs.Tests.{by_test}
use Rattle.theory.proofs.Tiling.{tiles-step, tiles_le, tiles_more, tiles_here, headers-more, headers-end}
use Rattle.theory.proofs.Tiling.{headers_here}

module _ (Y : Layout) where
  -- a tiling is read off its headers alone
  pub tiles-same : (H H' : List ℕ) (e n i : ℕ) → tiles Y H e n i ≡ true
      → ((j : ℕ) → In j (headers_from Y H e n i) → at H' j ≡ at H j)
      → (tiles Y H' e n i ≡ true) × (headers_from Y H' e n i ≡ headers_from Y H e n i)
  unfolding tiles headers_from
  tiles-same H H' e zero i t f = (t, refl)
  tiles-same H H' e (suc n) i t f =
      ⊎_elim
      (λ (l : ltb i e ≡ true).
      let a = tiles-step Y H e n i t (ltb-true i e l) in
      let m = headers-more Y H e n i l in
      let w : at H' i ≡ at H i = f i (rw m (in_self i (headers_from Y H e n (i + size Y H i)))) in
      let z : size Y H' i ≡ size Y H i = ap (λ x. Y.count_of x + 1) w in
      let ih = tiles-same H H' e n (i + size Y H i) a.1
      (λ j g. f j (rw m (in_tail j i (headers_from Y H e n (i + size Y H i)) g))) in (
        tiles_more Y H' e n i (ltb-true i e l) (ap (λ x. Y.is_header x) w ∙ a.0) (rw z ih.0),
        headers-more Y H' e n i l ∙ ap (λ x. i ∷ headers_from Y H' e n (i + x)) z ∙ ap (λ x. i ∷ x) ih.1 ∙ sym m,
      ))
      (λ (l : ltb i e ≡ false).
      let q : i ≡ e = let b = tiles_le Y H e (suc n) i t in let c : e ≤ i = ltb-false i e l in omega arith in
      (rw (eq-eqb i e q), headers-end Y H' e n i l ∙ sym (headers-end Y H e n i l)))
      (by_test (ltb i e))

  -- one object at the end of a tiling
  one_more : (H' : List ℕ) (e e' n : ℕ) → Y.is_header (at H' e) ≡ true → e' ≡ e + size Y H' e
      → (tiles Y H' e' (suc n) e ≡ true) × (headers_from Y H' e' (suc n) e ≡ e ∷ [])
  one_more H' e e' n k q =
      let l : e < e' = omega arith in (
        tiles_more Y H' e' n e l k (rw (← q) (tiles_here Y H' e' n)),
        headers-more Y H' e' n e (lt-ltb e e' l) ∙ ap (λ x. e ∷ headers_from Y H' e' n x) (sym q)
            ∙ ap (λ x. e ∷ x) (headers_here Y H' e' n),
      )

  pub tiles_snoc : (H H' : List ℕ) (e e' n n' i : ℕ) → tiles Y H e n i ≡ true
      → ((j : ℕ) → In j (headers_from Y H e n i) → at H' j ≡ at H j)
      → Y.is_header (at H' e) ≡ true → e' ≡ e + size Y H' e → n < n'
      → (tiles Y H' e' n' i ≡ true) × (headers_from Y H' e' n' i ≡ headers_from Y H e n i ++ (e ∷ []))
  unfolding tiles headers_from
  tiles_snoc H H' e e' n zero i t f k q l = absurd (omega arith)
  tiles_snoc H H' e e' zero (suc n') i t f k q l =
      let z : i ≡ e = eqb-true i e t in
      subst (λ x. (tiles Y H' e' (suc n') x ≡ true) × (headers_from Y H' e' (suc n') x ≡ e ∷ [])) (sym z)
      (one_more H' e e' n' k q)
  tiles_snoc H H' e e' (suc n) (suc n') i t f k q l =
      ⊎_elim
      (λ (b : ltb i e ≡ true).
      let u : i < e = ltb-true i e b in
      let a = tiles-step Y H e n i t u in
      let m = headers-more Y H e n i b in
      let w : at H' i ≡ at H i = f i (rw m (in_self i (headers_from Y H e n (i + size Y H i)))) in
      let z : size Y H' i ≡ size Y H i = ap (λ x. Y.count_of x + 1) w in
      let v : i < e' = omega arith in
      let ih = tiles_snoc H H' e e' n n' (i + size Y H i) a.1
      (λ j g. f j (rw m (in_tail j i (headers_from Y H e n (i + size Y H i)) g))) k q (omega arith) in (
        tiles_more Y H' e' n' i v (ap (λ x. Y.is_header x) w ∙ a.0) (rw z ih.0),
        headers-more Y H' e' n' i (lt-ltb i e' v) ∙ ap (λ x. i ∷ headers_from Y H' e' n' (i + x)) z ∙ ap (λ x. i ∷ x) ih.1
            ∙ ap (λ x. x ++ (e ∷ [])) (sym m),
      ))
      (λ (b : ltb i e ≡ false).
      let z : i ≡ e = let c = tiles_le Y H e (suc n) i t in let d : e ≤ i = ltb-false i e b in omega arith in
      let o = one_more H' e e' n' k q in
      (rw z o.0, ap (λ x. headers_from Y H' e' (suc n') x) z ∙ o.1 ∙ ap (λ x. x ++ (e ∷ [])) (sym (headers-end Y H e n i b))))
      (by_test (ltb i e))
