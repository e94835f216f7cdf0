-- A walk over headers from i to e, with the words left as the number of turns: more turns change nothing,
-- and how it goes on from one header to the next.
use Prim.Native.Nat.{ℕ, zero, suc, ◌+◌, ◌-◌, ◌≤◌, ◌<◌}
use native.Mathlib.Omega.{arith}
use mathlib.Core.Path.{◌≡◌, refl, sym, ap, ◌∙◌}
use mathlib.Core.Bool.{Bool, true, or-false}
use mathlib.Core.List.{List, [], ◌∷◌}
use lib.Dec.{eqb}
use borrow.Author.Tests.{lt-ltb, le-ltb}
use Rattle.model.specs.Headers.{Layout}
use Rattle.model.specs.Objects.{size}
use Rattle.model.specs.Soundness.{all, tiles, headers_from}
use Rattle.theory.proofs.Tiling.{tiles-step, tiles_le, headers-more, headers-end}

module _ (Y : Layout) (H : List ℕ) (e : ℕ) where
  -- at the end and past it
  pub tiles-past : (n i : ℕ) → e ≤ i → tiles Y H e n i ≡ eqb i e
  unfolding tiles
  tiles-past zero i l = refl
  tiles-past (suc n) i l = rw (le-ltb i e l) (or-false (eqb i e))

  headers-past : (n i : ℕ) → e ≤ i → headers_from Y H e n i ≡ []
  unfolding headers_from
  headers-past zero i l = refl
  headers-past (suc n) i l = headers-end Y H e n i (le-ltb i e l)

  -- as many turns as words are enough
  tiles_enough : (n m i : ℕ) → e - i ≤ n → e - i ≤ m → tiles Y H e n i ≡ tiles Y H e m i
  unfolding tiles
  tiles_enough zero m i a b = sym (tiles-past m i (omega arith))
  tiles_enough (suc n) zero i a b = tiles-past (suc n) i (omega arith)
  tiles_enough (suc n) (suc m) i a b = rw (tiles_enough n m (i + size Y H i) (omega arith) (omega arith))

  headers_enough : (n m i : ℕ) → e - i ≤ n → e - i ≤ m → headers_from Y H e n i ≡ headers_from Y H e m i
  unfolding headers_from
  headers_enough zero m i a b = sym (headers-past m i (omega arith))
  headers_enough (suc n) zero i a b = headers-past (suc n) i (omega arith)
  headers_enough (suc n) (suc m) i a b = rw (headers_enough n m (i + size Y H i) (omega arith) (omega arith))

  module _ (i : ℕ) (more : i < e) where
    -- one turn
    pub tiles_turn : tiles Y H e (e - i) i ≡ true → tiles Y H e (e - (i + size Y H i)) (i + size Y H i) ≡ true
    tiles_turn t =
        let s : e - i ≡ suc (e - i - 1) = omega arith in
        tiles_enough (e - (i + size Y H i)) (e - i - 1) (i + size Y H i) (omega arith) (omega arith)
        ∙ (tiles-step Y H e (e - i - 1) i (rw s at t) more).1

    pub headers_turn : headers_from Y H e (e - i) i ≡ i ∷ headers_from Y H e (e - (i + size Y H i)) (i + size Y H i)
    headers_turn =
        let s : e - i ≡ suc (e - i - 1) = omega arith in
        ap (λ (n : ℕ). headers_from Y H e n i) s
        ∙ headers-more Y H e (e - i - 1) i (lt-ltb i e more)
        ∙ ap (λ (hs : List ℕ). i ∷ hs) (headers_enough (e - i - 1) (e - (i + size Y H i)) (i + size Y H i) (omega arith) (omega arith))

    -- the object there ends in time
    pub tile_within : tiles Y H e (e - i) i ≡ true → i + size Y H i ≤ e
    tile_within t = tiles_le Y H e (e - (i + size Y H i)) (i + size Y H i) (tiles_turn t)

  -- no header is left to test
  pub all-ended : (q : ℕ → Bool) (i : ℕ) → e ≤ i → all q (headers_from Y H e (e - i) i) ≡ true
  all-ended q i d = ap (all q) (headers-past (e - i) i d)
