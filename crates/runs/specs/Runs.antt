-- Runs of words in a list: read, cleared and copied by stores one after the other.
use Rattle.std.specs.Prelude.{ℕ, zero, suc, ◌+◌, ◌≤◌, ◌⊎◌, List, take, drop, set}
use Rattle.model.specs.Words.{at}

-- the n words from an index on
abbrev pub run : List ℕ → ℕ → ℕ → List ℕ
run h from n = take n (drop from h)

-- n stores of 0
unfoldable pub cleared : List ℕ → ℕ → ℕ → List ℕ
cleared h from zero = h
cleared h from (suc n) = set (cleared h from n) (from + n) 0

-- n stores, each of the word that stands `from + k` at that time
unfoldable pub copied_run : List ℕ → ℕ → ℕ → ℕ → List ℕ
copied_run h from to zero = h
copied_run h from to (suc n) = set (copied_run h from to n) (to + n) (at (copied_run h from to n) (from + n))

-- two runs of n words that share none
abbrev pub Apart : ℕ → ℕ → ℕ → Type 0
Apart from to n = (from + n ≤ to) ⊎ (to + n ≤ from)
