-- Copies packed from an index on are tiled, and their headers stand where `words_before` says.
use Prim.Native.Nat.{ℕ, zero, suc, ◌+◌, ◌≤◌, ◌<◌}
use native.Mathlib.Omega.{arith}
use native.Mathlib.Nat.{add-zero}
use mathlib.Core.Path.{◌≡◌, refl, sym, ap, ◌∙◌}
use mathlib.Core.Bool.{true}
use mathlib.Core.List.{List, [], ◌∷◌, ◌++◌, map}
use lib.ListN.{length, get_or, take, length-append}
use borrow.Author.Tests.{eq-eqb, ne_eqb, lt-ltb, le-ltb}
use Rattle.model.specs.Collection.{cells}
use Rattle.model.specs.Discovery.{packed, words_before}
use Rattle.model.specs.Headers.{Layout}
use Rattle.model.specs.Objects.{size}
use Rattle.model.specs.Soundness.{tiles, headers_from}
use Rattle.model.specs.Words.{at}
use Rattle.theory.proofs.Members.{In, Out, in_tail, in_self, in_out, map_in, Distinct, at_in}
use Rattle.theory.proofs.Tiling.{tiles_more}

module _ (Y : Layout) where
  -- copies packed from i on are tiled, and their headers stand where `before` says
  pub words_before_here : (H o : List ℕ) (j : ℕ) → words_before (cells Y H) (j ∷ o) j ≡ 0
  unfolding words_before
  words_before_here H o j = rw (eq-eqb j j refl)

  pub words_before-there : (H o : List ℕ) (j x : ℕ) → Out j o → In x o
      → words_before (cells Y H) (j ∷ o) x ≡ length (cells Y H j) + words_before (cells Y H) o x
  unfolding words_before
  words_before-there H o j x u m = rw (ne_eqb x j (in_out x j o m u))

  pub words_before-nth : (H o : List ℕ) (k : ℕ) → Distinct o → k < length o
      → words_before (cells Y H) o (get_or o k 0) ≡ length (packed (cells Y H) (take k o))
  unfolding packed
  words_before-nth H [] k u l = absurd (omega arith)
  words_before-nth H (j ∷ o) zero u l = words_before_here H o j
  words_before-nth H (j ∷ o) (suc k) u l =
      words_before-there H o j (get_or o k 0) u.0 (at_in o k (omega arith))
      ∙ ap (λ x. length (cells Y H j) + x) (words_before-nth H o k u.1 (omega arith))
      ∙ sym (length-append (cells Y H j) (packed (cells Y H) (take k o)))

  pub record Copied (H H' : List ℕ) (i : ℕ) (o : List ℕ) (x : ℕ) : Type 0 where
    pub head : at H' (i + words_before (cells Y H) o x) ≡ at H x
    pub clear : Y.is_header (at H x) ≡ true
    pub whole : length (cells Y H x) ≡ size Y H x

  pub copies-tiled : (H H' o : List ℕ) (e i n : ℕ) → Distinct o → e ≡ i + length (packed (cells Y H) o) → length o ≤ n
      → ((x : ℕ) → In x o → Copied H H' i o x)
      → (tiles Y H' e n i ≡ true) × (headers_from Y H' e n i ≡ map (λ x. i + words_before (cells Y H) o x) o)
  unfolding tiles headers_from packed
  copies-tiled H H' [] e i zero u q l f = let z : i ≡ e = omega arith in (eq-eqb i e z, refl)
  copies-tiled H H' [] e i (suc n) u q l f =
      let z : i ≡ e = omega arith in
      (rw (eq-eqb i e z), rw (le-ltb i e (omega arith)))
  copies-tiled H H' (j ∷ o) e i zero u q l f = absurd (omega arith)
  copies-tiled H H' (j ∷ o) e i (suc n) u q l f =
      let c = f j (in_self j o) in
      let b = words_before_here H o j in
      let hd : at H' i ≡ at H j = rw (b, add-zero) at c.head in
      let sz : size Y H' i ≡ length (cells Y H j) = ap (λ w. Y.count_of w + 1) hd ∙ sym c.whole in
      let le : length (cells Y H j ++ packed (cells Y H) o) ≡ length (cells Y H j) + length (packed (cells Y H) o) =
      length-append (cells Y H j) (packed (cells Y H) o) in
      let pos : 1 ≤ length (cells Y H j) = omega (arith, c.whole) in
      let ih = copies-tiled H H' o e (i + size Y H' i) n u.1 (omega arith) (omega arith)
      (λ x m.
      let d = f x (in_tail x j o m) in
      let t = words_before-there H o j x u.0 m in
      let a : i + words_before (cells Y H) (j ∷ o) x ≡ i + size Y H' i + words_before (cells Y H) o x = omega arith in
      record { head = rw a at d.head; clear = d.clear; whole = d.whole }) in (
        tiles_more Y H' e n i (omega arith) (ap (λ w. Y.is_header w) hd ∙ c.clear) ih.0,
        rw (lt-ltb i e (omega arith), ih.1, b, add-zero)
            (ap (λ x. i ∷ x)
            (map_in (λ x. i + size Y H' i + words_before (cells Y H) o x) (λ x. i + words_before (cells Y H) (j ∷ o) x) o
            (λ x m. let t = words_before-there H o j x u.0 m in omega arith))),
      )
