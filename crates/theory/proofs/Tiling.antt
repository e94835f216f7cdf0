-- A tiling: its steps, the objects in it, that they stand apart, and their words.
use Prim.Native.Nat.{ℕ, zero, suc, ◌+◌, ◌-◌, ◌≤◌, ◌<◌}
use native.Mathlib.Omega.{arith}
use mathlib.Core.Path.{◌≡◌, refl}
use mathlib.Core.Logic.{⊎_elim}
use mathlib.Core.Bool.{true, false, ◌&&◌}
use mathlib.Core.List.{List, [], ◌∷◌}
use lib.Dec.{ltb, eqb}
use lib.ListN.{length, length-append}
use borrow.Author.Tests.{ltb-true, ltb-false, eqb-true, eq-eqb, ne_eqb, lt-ltb, le-ltb}
use Rattle.model.specs.Collection.{cells}
use Rattle.model.specs.Discovery.{packed, words_before}
use Rattle.model.specs.Headers.{Layout}
use Rattle.model.specs.Objects.{size}
use Rattle.model.specs.Soundness.{tiles, headers_from}
use Rattle.model.specs.Words.{at}
use Rattle.theory.proofs.Members.{In, in-nil, in_tail, in_self, in_cons, in_other}
use Rattle.theory.proofs.Objects.{cells-length}
use Rattle.theory.proofs.Tests.{by_test, decide, or_cases, and_both}

module _ (Y : Layout) where
  -- where the tiling starts before its end, it has a header there and goes on behind the object
  pub tiles-step : (H : List ℕ) (e n i : ℕ) → tiles Y H e (suc n) i ≡ true → i < e
      → (Y.is_header (at H i) ≡ true) × (tiles Y H e n (i + size Y H i) ≡ true)
  unfolding tiles
  tiles-step H e n i h l =
      let no : eqb i e ≡ false = ne_eqb i e (λ q. omega arith) in
      let g : (ltb i e && Y.is_header (at H i) && tiles Y H e n (i + size Y H i)) ≡ true = rw no at h in
      let a = and_both (ltb i e && Y.is_header (at H i)) _ g in
      ((and_both (ltb i e) _ a.0).1, a.1)

  pub tiles_le : (H : List ℕ) (e n i : ℕ) → tiles Y H e n i ≡ true → i ≤ e
  unfolding tiles
  tiles_le H e zero i h = let q = eqb-true i e h in omega arith
  tiles_le H e (suc n) i h =
      ⊎_elim
      (λ (q : eqb i e ≡ true). let z : i ≡ e = eqb-true i e q in omega arith)
      (λ (g : (ltb i e && Y.is_header (at H i) && tiles Y H e n (i + size Y H i)) ≡ true).
      let a = and_both (ltb i e && Y.is_header (at H i)) _ g in
      let b : i < e = ltb-true i e (and_both (ltb i e) _ a.0).0 in
      omega arith)
      (or_cases (eqb i e) _ h)

  pub tiles_more : (H : List ℕ) (e n i : ℕ) → i < e → Y.is_header (at H i) ≡ true → tiles Y H e n (i + size Y H i) ≡ true
      → tiles Y H e (suc n) i ≡ true
  unfolding tiles
  tiles_more H e n i l k t = rw (ne_eqb i e (λ z. omega arith), lt-ltb i e l, k, t)

  pub tiles_here : (H : List ℕ) (e n : ℕ) → tiles Y H e n e ≡ true
  unfolding tiles
  tiles_here H e zero = eq-eqb e e refl
  tiles_here H e (suc n) = rw (eq-eqb e e refl)

  pub headers-more : (H : List ℕ) (e n i : ℕ) → ltb i e ≡ true
      → headers_from Y H e (suc n) i ≡ i ∷ headers_from Y H e n (i + size Y H i)
  unfolding headers_from
  headers-more H e n i l = rw l

  pub headers-end : (H : List ℕ) (e n i : ℕ) → ltb i e ≡ false → headers_from Y H e (suc n) i ≡ []
  unfolding headers_from
  headers-end H e n i l = rw l

  pub headers_here : (H : List ℕ) (e n : ℕ) → headers_from Y H e n e ≡ []
  unfolding headers_from
  headers_here H e zero = refl
  headers_here H e (suc n) = rw (le-ltb e e (omega arith))

  -- each header of the tiling
  pub record Tile (H : List ℕ) (i e j : ℕ) : Type 0 where
    pub from : i ≤ j
    pub clear : Y.is_header (at H j) ≡ true
    pub within : j + size Y H j ≤ e

  pub headers_tile : (H : List ℕ) (e n i j : ℕ) → tiles Y H e n i ≡ true → In j (headers_from Y H e n i) → Tile H i e j
  unfolding headers_from
  headers_tile H e zero i j t h = in-nil j h
  headers_tile H e (suc n) i j t h =
      ⊎_elim
      (λ (l : ltb i e ≡ true).
      let a = tiles-step H e n i t (ltb-true _ _ l) in
      let r = tiles_le H e n (i + size Y H i) a.1 in
      ⊎_elim
      (λ (q : j ≡ i). rw q (record { from = omega arith; clear = a.0; within = r }))
      (λ (m : In j (headers_from Y H e n (i + size Y H i))).
      let ih = headers_tile H e n (i + size Y H i) j a.1 m in
      record { from = omega (arith, ih.from); clear = ih.clear; within = ih.within })
      (in_cons j i (headers_from Y H e n (i + size Y H i)) (rw (headers-more H e n i l) at h)))
      (λ (l : ltb i e ≡ false). in-nil j (rw (headers-end H e n i l) at h))
      (by_test (ltb i e))

  -- two headers of a tiling do not overlap
  pub headers-apart : (H : List ℕ) (e n i j k : ℕ) → tiles Y H e n i ≡ true → In j (headers_from Y H e n i)
      → In k (headers_from Y H e n i) → j < k → j + size Y H j ≤ k
  unfolding headers_from
  headers-apart H e zero i j k t a b l = in-nil j a
  headers-apart H e (suc n) i j k t a b l =
      ⊎_elim
      (λ (q : ltb i e ≡ true).
      let u = tiles-step H e n i t (ltb-true i e q) in
      let m = headers-more H e n i q in
      let rest = headers_from Y H e n (i + size Y H i) in
      ⊎_elim
      (λ (x : j ≡ i).
      ⊎_elim
      (λ (y : k ≡ i). absurd (omega arith))
      (λ (y : In k rest). let g = (headers_tile H e n (i + size Y H i) k u.1 y).from in rw x (omega arith))
      (in_cons k i rest (rw m at b)))
      (λ (x : In j rest).
      ⊎_elim
      (λ (y : k ≡ i). let g = (headers_tile H e n (i + size Y H i) j u.1 x).from in absurd (omega arith))
      (λ (y : In k rest). headers-apart H e n (i + size Y H i) j k u.1 x y l)
      (in_cons k i rest (rw m at b)))
      (in_cons j i rest (rw m at a)))
      (λ (q : ltb i e ≡ false). in-nil j (rw (headers-end H e n i q) at a))
      (by_test (ltb i e))

  -- every word of the tiled part is one of some object
  pub headers_cover : (H : List ℕ) (e n i j : ℕ) → tiles Y H e n i ≡ true → i ≤ j → j < e
      → (k : ℕ) × In k (headers_from Y H e n i) × (k ≤ j) × (j < k + size Y H k)
  unfolding headers_from tiles
  headers_cover H e zero i j t l u = absurd (let q = eqb-true i e t in omega arith)
  headers_cover H e (suc n) i j t l u =
      let b : ltb i e ≡ true = lt-ltb i e (omega arith) in
      let a = tiles-step H e n i t (omega arith) in
      let rest = headers_from Y H e n (i + size Y H i) in
      rw (headers-more H e n i b)
      (⊎_elim
      (λ (d : j < i + size Y H i). (i, in_self i rest, l, d))
      (λ (d : i + size Y H i ≤ j).
      let c = headers_cover H e n (i + size Y H i) j a.1 d u in
      (c.0, in_tail c.0 i rest c.1, c.2, c.3))
      (decide j (i + size Y H i)))

  -- as many words stand before a header as before its object
  pub headers-before : (H : List ℕ) (e n i j : ℕ) → e ≤ length H → tiles Y H e n i ≡ true → In j (headers_from Y H e n i)
      → i + words_before (cells Y H) (headers_from Y H e n i) j ≡ j
  unfolding headers_from words_before
  headers-before H e zero i j w t m = in-nil j m
  headers-before H e (suc n) i j w t m =
      ⊎_elim
      (λ (l : ltb i e ≡ true).
      let a = tiles-step H e n i t (ltb-true _ _ l) in
      let r = tiles_le H e n (i + size Y H i) a.1 in
      let rest = headers_from Y H e n (i + size Y H i) in
      rw (headers-more H e n i l)
      (⊎_elim
      (λ (q : eqb j i ≡ true). let z = eqb-true j i q in rw q (omega arith))
      (λ (q : eqb j i ≡ false).
      let ih = headers-before H e n (i + size Y H i) j w a.1 (in_other j i rest (rw (headers-more H e n i l) at m) q) in
      rw (q, cells-length Y H i (omega arith)) (omega arith))
      (by_test (eqb j i))))
      (λ (l : ltb i e ≡ false). in-nil j (rw (headers-end H e n i l) at m))
      (by_test (ltb i e))

  -- the objects' words are the words of the tiled part
  pub headers-words : (H : List ℕ) (e n i : ℕ) → e ≤ length H → tiles Y H e n i ≡ true
      → length (packed (cells Y H) (headers_from Y H e n i)) ≡ e - i
  unfolding headers_from packed tiles
  headers-words H e zero i w t = let q = eqb-true i e t in omega arith
  headers-words H e (suc n) i w t =
      ⊎_elim
      (λ (l : ltb i e ≡ true).
      let a = tiles-step H e n i t (ltb-true _ _ l) in
      let r = tiles_le H e n (i + size Y H i) a.1 in
      let ih = headers-words H e n (i + size Y H i) w a.1 in
      rw (headers-more H e n i l, length-append, cells-length Y H i (omega arith), ih) (omega arith))
      (λ (l : ltb i e ≡ false).
      let b = ltb-false i e l in
      rw (headers-end H e n i l) (omega arith))
      (by_test (ltb i e))
