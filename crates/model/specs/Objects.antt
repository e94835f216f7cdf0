-- The object whose header stands at an index, and what it is to name one. Document 01, "Values and objects".
use Rattle.std.specs.Prelude.{ℕ, ◌+◌, ◌-◌, ◌%◌, Bool, true, false, ◌&&◌, List, ltb, leb, eqb, take, drop}
use Rattle.model.specs.declared.Kind.{Kind}
use Rattle.model.specs.declared.Kind.TheVariants.{Traced, Untraced}
use Rattle.model.specs.Words.{State, at, address_of, index_of, first_word, free}
use Rattle.model.specs.Values.{is_address}
use Rattle.model.specs.Headers.{Layout}

abbrev pub is_traced : Kind → Bool
is_traced Traced = true
is_traced Untraced = false

-- the index of field f of the object whose header stands at i
abbrev pub field_index : ℕ → ℕ → ℕ
field_index i f = i + 1 + f

module _ (Y : Layout) where
  -- the address of the object whose header stands at i, and back
  abbrev pub address : ℕ → ℕ
  address i = address_of (i + Y.ahead)

  abbrev pub index : ℕ → ℕ
  index w = index_of w - Y.ahead

  abbrev pub kind : List ℕ → ℕ → Kind
  kind H i = Y.kind_of (at H i)

  -- n
  abbrev pub field_count : List ℕ → ℕ → ℕ
  field_count H i = Y.count_of (at H i)

  -- n + 1: the words of the object, its header among them
  abbrev pub size : List ℕ → ℕ → ℕ
  size H i = field_count H i + 1

  abbrev pub field_words : List ℕ → ℕ → List ℕ
  field_words H i = take (field_count H i) (drop (i + 1) H)

  -- a word names an object when it is even, not 0, below the floor, a multiple of 4, its index lies in the current half below
  -- the free index, the word there is a header, and n + 1 words from there end at or before the free index
  unfoldable pub names : State → ℕ → Bool
  names s w =
      is_address w && eqb (w % 4) 0 && leb (first_word s) (index w) && ltb (index w) (free s)
      && Y.is_header (at s.heap (index w)) && leb (index w + size s.heap (index w)) (free s)
