-- What placing an object asks of the numbers, and when an allocation is done at once.
use Rattle.std.specs.Prelude.{ℕ, ◌+◌, ◌-◌, ◌≤◌, ◌<◌, Bool, false, cond, ltb, leb, length}
use Rattle.model.specs.declared.Record.{Record}
use Rattle.model.specs.Limits.{max_words, max_fields}
use Rattle.model.specs.Shape.{bad_shape_of}
use Rattle.model.specs.Words.{State, half_words_of, first_of, free}

pub record MayPlace (s : State) (n r : ℕ) : Type 0 where
  pub room : free s + (n + 1) ≤ length s.heap
  pub words : length s.heap ≤ max_words
  pub root : r < length s.roots
  pub count : n ≤ max_fields

-- the free words of the current half, of the heap's length and the record
abbrev pub spare_of : ℕ → Record → ℕ
spare_of n q = first_of (half_words_of n) q.half + half_words_of n - q.free.0

-- as much of SHAPE as they ask
pub record MaySpare (n : ℕ) (q : Record) : Type 0 where
  pub some : 1 ≤ n
  pub few : n ≤ max_words
  pub high : q.free.0 ≤ first_of (half_words_of n) q.half + half_words_of n

-- nothing refuses an allocation, and its words are free: SHAPE, ROOT, and n + 1 words; COUNT is far above what fits
abbrev pub at_once : ℕ → ℕ → Record → ℕ → ℕ → Bool
at_once length roots q n r = cond (bad_shape_of length roots q) false (cond (leb roots r) false (ltb n (spare_of length q)))
