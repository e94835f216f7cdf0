-- A collection with p words of the copies passed: what the collector's loop keeps. Document 01 does not name this state; a
-- collection cut into slices will, and the collector is proved by it.
--
--     the other half:   passed words, final | other words of copies, as the old objects hold them | zeros
--     the old half:     as it was, but each copied object's header holds the mark of its new address
use Rattle.std.specs.Prelude.{ℕ, ◌+◌, List, [], ◌∷◌, ◌++◌, map, length, take, drop, set}
use Rattle.model.specs.Words.{State, with_heap, with_roots, with_free, half_words, other, first_word, other_first}
use Rattle.model.specs.Headers.{Layout}
use Rattle.model.specs.Objects.{address}
use Rattle.model.specs.Discovery.{packed, words_before}
use Rattle.model.specs.Collection.{Cell, still, value, build, filled, cells, order_at, rename, settle}

-- the word of a cell as the old object holds it
abbrev pub old_word : Cell → ℕ
old_word (still w) = w
old_word (value w) = w

module _ (Y : Layout) where
  -- the headers of the objects is of the order o hold the marks of their new addresses
  unfoldable pub marked : List ℕ → List ℕ → ℕ → List ℕ → List ℕ
  marked H o b [] = H
  marked H o b (i ∷ is) = set (marked H o b is) i (Y.mark (address Y (b + words_before (cells Y H) o i)))

  -- with the objects of the order o copied and p words of the copies passed
  unfoldable pub stage : State → List ℕ → ℕ → State
  stage s o p =
      let H = s.heap in
      let S = half_words H in
      let b = other_first s in
      let cs = packed (cells Y H) o in
      with_free (other s.«record».half) (b + length cs)
      (with_roots (map (rename Y H o b) s.roots)
      (with_heap
      (build (other s.«record».half)
      (filled S (map (settle Y H o b) (take p cs) ++ map old_word (drop p cs)))
      (take S (drop (first_word s) (marked H o b o))))
      s))

  abbrev pub during : State → ℕ → State
  during s p = stage s (order_at Y s p) p
