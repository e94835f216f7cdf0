-- SHAPE, refusal 1. Document 01, "Refusals and their order".
-- It is of the numbers of words and of roots and of the record: no word is looked at.
use Rattle.std.specs.Prelude.{ℕ, ◌+◌, ◌%◌, Bool, ◌||◌, ltb, eqb, length}
use Rattle.model.specs.declared.Record.{Record}
use Rattle.model.specs.Limits.{max_words, max_roots}
use Rattle.model.specs.Words.{State, half_words_of, first_of}

-- the heap's length is even, below 3 or above 2,097,153
abbrev pub bad_length : ℕ → Bool
bad_length n = eqb (n % 2) 0 || ltb n 3 || ltb max_words n

-- or more than 65,536 roots; or the free index lies before the half's first word or beyond the one past its last
unfoldable pub bad_shape_of : ℕ → ℕ → Record → Bool
bad_shape_of n roots q =
    let S = half_words_of n in
    bad_length n || ltb max_roots roots || ltb q.free.0 (first_of S q.half) || ltb (first_of S q.half + S) q.free.0

abbrev pub bad_shape : State → Bool
bad_shape s = bad_shape_of (length s.heap) (length s.roots) s.«record»
