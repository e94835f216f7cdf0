-- When a heap is sound. Document 01, "Values and objects", and for code words document 02's Q-1.
use Rattle.std.specs.Prelude.{ℕ, zero, suc, ◌+◌, ◌-◌, ◌%◌, Bool, true, not, cond, ◌&&◌, ◌||◌, List, [], ◌∷◌, ltb, eqb, take, drop}
use Rattle.model.specs.Words.{State, at, half_words, first_word, other_first, free}
use Rattle.model.specs.Values.{is_address, is_null}
use Rattle.model.specs.Headers.{Layout}
use Rattle.model.specs.Shape.{bad_shape}
use Rattle.model.specs.Objects.{is_traced, index, kind, size, field_words}
use Rattle.model.specs.Discovery.{mem}

abbrev pub all : {A : Type 0} → (A → Bool) → List A → Bool
all p [] = true
all p (x ∷ xs) = p x && all p xs

-- the words from i up to e
abbrev pub span : List ℕ → ℕ → ℕ → List ℕ
span H i e = take (e - i) (drop i H)

abbrev pub all_zero : List ℕ → ℕ → ℕ → Bool
all_zero H i e = all is_null (span H i e)

module _ (Y : Layout) where
  -- objects with headers that are not forwarded tile the words from i to e exactly, n objects at most
  unfoldable pub tiles : List ℕ → ℕ → ℕ → ℕ → Bool
  tiles H e zero i = eqb i e
  tiles H e (suc n) i =
      let rest = tiles H e n (i + size Y H i) in
      eqb i e || (ltb i e && Y.is_header (at H i) && rest)

  -- the headers' indexes of that tiling
  unfoldable pub headers_from : List ℕ → ℕ → ℕ → ℕ → List ℕ
  headers_from H e zero i = []
  headers_from H e (suc n) i = let rest = i ∷ headers_from H e n (i + size Y H i) in cond (ltb i e) rest []

  -- the used part: from the half's first word to the free index. No tiling has more objects than it has words.
  abbrev pub is_tiled : State → Bool
  is_tiled s = tiles s.heap (free s) (free s - first_word s) (first_word s)

  abbrev pub headers : State → List ℕ
  headers s = headers_from s.heap (free s) (free s - first_word s) (first_word s)

  -- odd, 0, a code word, or the address of a header among hs
  unfoldable pub is_value : List ℕ → ℕ → Bool
  is_value hs w = not (is_address w) || (eqb (w % 4) 0 && mem (index Y w) hs)

  -- each field of the object at i, if it is traced
  unfoldable pub fields_are_values : List ℕ → List ℕ → ℕ → Bool
  fields_are_values H hs i = not (is_traced (kind Y H i)) || all (is_value hs) (field_words Y H i)

  -- SHAPE does not apply; word 0 is 0; the idle half is all 0; the current half from the free index on is 0; objects tile
  -- the used part exactly; each root and each field of a traced object is odd, 0, a code word, or the address of a header of
  -- that tiling
  unfoldable pub sound : State → Bool
  sound s =
      let H = s.heap in
      let S = half_words H in
      let hs = headers s in
      not (bad_shape s) && is_null (at H 0) && all_zero H (other_first s) (other_first s + S)
      && all_zero H (free s) (first_word s + S)
      && is_tiled s
      && all (is_value hs) s.roots
      && all (fields_are_values H hs) hs
