-- What a collection leaves, to the word, and what it counts. Document 01, "Collection, to the word"; document 02, Q-3. No algorithm
-- is said here: the order in which objects are met, their copies end to end in that order, and every address renamed by it.
use Rattle.std.specs.Prelude.{ℕ, ◌+◌, ◌-◌, cond, List, [], ◌∷◌, ◌++◌, map, length, replicate}
use Rattle.std.proofs.Math.Option.{Option, none, some}
use Rattle.model.specs.declared.Half.{Half}
use Rattle.model.specs.declared.Half.TheVariants.{A, B}
use Rattle.model.specs.declared.Kind.{Kind}
use Rattle.model.specs.declared.Kind.TheVariants.{Traced, Untraced}
use Rattle.model.specs.declared.Counts.{Counts}
use Rattle.model.specs.Words.{State, with_heap, with_roots, with_free, at, half_words, other, other_first}
use Rattle.model.specs.Values.{is_address}
use Rattle.model.specs.Headers.{Layout}
use Rattle.model.specs.Objects.{is_traced, address, index, kind, field_words}
use Rattle.model.specs.Discovery.{packed, words_before, found}

-- a word of an object: `still w`, a header or a raw word, or `value w`, a field of a traced object
pub data Cell : Type 0 where
  still : ℕ → Cell
  value : ℕ → Cell

abbrev pub field_cell : Kind → ℕ → Cell
field_cell Traced w = value w
field_cell Untraced w = still w

-- how many of some words are object addresses: each counts as often as it stands there
unfoldable pub addresses_in : List ℕ → ℕ
addresses_in [] = 0
addresses_in (w ∷ ws) = cond (is_address w) 1 0 + addresses_in ws

-- the halves put together again: word 0, then half A, then half B
abbrev pub build : Half → List ℕ → List ℕ → List ℕ
build A new old = 0 ∷ new ++ old
build B new old = 0 ∷ old ++ new

-- a run of words and zeros after it, n words in all
abbrev pub filled : ℕ → List ℕ → List ℕ
filled n ws = ws ++ replicate (n - length ws) 0

module _ (Y : Layout) where
  -- the cells of the object at i, header first
  abbrev pub cells : List ℕ → ℕ → List Cell
  cells H i = still (at H i) ∷ map (field_cell (kind Y H i)) (field_words Y H i)

  -- the object that a word leads to: none where it is odd, 0 or a code word
  unfoldable pub word_leads : ℕ → Option ℕ
  word_leads w = cond (is_address w) (some (index Y w)) none

  abbrev pub cell_leads : Cell → Option ℕ
  cell_leads (still w) = none
  cell_leads (value w) = word_leads w

  -- the headers' indexes in the order in which the objects are met, roots by rising number, then p words of the copies
  unfoldable pub order_at : State → ℕ → List ℕ
  order_at s p = found (cells s.heap) (still 0) cell_leads (map word_leads s.roots) p

  -- the whole order. A sound heap's reachable objects have no more words than a half, so that S steps pass all of them.
  abbrev pub order : State → List ℕ
  order s = order_at s (half_words s.heap)

  -- L, the words of the objects of the order
  unfoldable pub live : State → ℕ
  live s = length (packed (cells s.heap) (order s))

  -- the object addresses in the fields of the object at i, if it is traced; and in those of the objects of a list
  abbrev pub addresses_of : List ℕ → ℕ → ℕ
  addresses_of H i = cond (is_traced (kind Y H i)) (addresses_in (field_words Y H i)) 0

  unfoldable pub addresses_among : List ℕ → List ℕ → ℕ
  addresses_among H [] = 0
  addresses_among H (i ∷ o) = addresses_of H i + addresses_among H o

  -- what a collection counts: L, the objects of the order, and the object addresses in the roots and in the fields of the
  -- order's traced objects
  unfoldable pub counts : State → Counts
  counts s = record {
    live = live s;
    objects = length (order s);
    addresses = addresses_in s.roots + addresses_among s.heap (order s);
  }

  -- what a word becomes, where the copies of the order o stand packed from the index b on
  unfoldable pub rename : List ℕ → List ℕ → ℕ → ℕ → ℕ
  rename H o b w = cond (is_address w) (address Y (b + words_before (cells H) o (index Y w))) w

  abbrev pub settle : List ℕ → List ℕ → ℕ → Cell → ℕ
  settle H o b (still w) = w
  settle H o b (value w) = rename H o b w

  -- what is left where the objects of the order o are copied in that order: the copies from the first word of the other half
  -- on, the old half and all words past the copies 0, the record at the word past the copies
  unfoldable pub copied : List ℕ → State → State
  copied o s =
      let H = s.heap in
      let S = half_words H in
      let b = other_first s in
      let ws = map (settle H o b) (packed (cells H) o) in
      with_free (other s.«record».half) (b + length ws)
      (with_roots (map (rename H o b) s.roots)
      (with_heap (build (other s.«record».half) (filled S ws) (replicate S 0)) s))

  abbrev pub collected : State → State
  collected s = copied (order s) s
