-- What a call is lent, and the words in it. Document 01, "Words, addresses and halves".
-- A word is a number below 2 ^ 32. The definitions are of all numbers; nothing depends on that bound.
--
--     word     0     1 .. S     S + 1 .. 2S
--           reserved half A     half B
use Rattle.std.specs.Prelude.{ℕ, ◌+◌, ◌*◌, ◌-◌, ◌/◌, List, [], length, get_or}
use Rattle.model.specs.declared.Half.{Half}
use Rattle.model.specs.declared.Half.TheVariants.{A, B}
use Rattle.model.specs.declared.Record.{Record}

-- the heap's words, the roots' words, the heap's record and the bytes of a text: what a call is lent, and what it leaves.
-- The bytes are lent to one call alone; most calls are lent none.
pub record State : Type 0 where
  pub heap : List ℕ
  pub roots : List ℕ
  pub «record» : Record
  pub text : List ℕ

abbrev pub state_of : List ℕ → List ℕ → Record → State
state_of H R q = record { heap = H; roots = R; «record» = q; text = [] }

-- the same with another heap, with other roots, with another record, with other bytes, with another half and free index
abbrev pub with_heap : List ℕ → State → State
with_heap H s = record { heap = H; roots = s.roots; «record» = s.«record»; text = s.text }

abbrev pub with_roots : List ℕ → State → State
with_roots R s = record { heap = s.heap; roots = R; «record» = s.«record»; text = s.text }

abbrev pub with_record : Record → State → State
with_record q s = record { heap = s.heap; roots = s.roots; «record» = q; text = s.text }

abbrev pub with_text : List ℕ → State → State
with_text t s = record { heap = s.heap; roots = s.roots; «record» = s.«record»; text = t }

-- where the bytes of a text are lent too
abbrev pub text_state_of : List ℕ → List ℕ → Record → List ℕ → State
text_state_of H R q t = with_text t (state_of H R q)

abbrev pub with_free : Half → ℕ → State → State
with_free h f s = with_record (record { half = h; free = record { 0 = f } }) s

-- a word of a run. Past the end it reads 0: each call tests an index before it looks.
abbrev pub at : List ℕ → ℕ → ℕ
at H i = get_or H i 0

-- the two units: the address of a word is 4 times its index
abbrev pub address_of : ℕ → ℕ
address_of i = 4 * i

abbrev pub index_of : ℕ → ℕ
index_of a = a / 4

-- S, of a heap's length and of a heap
abbrev pub half_words_of : ℕ → ℕ
half_words_of n = (n - 1) / 2

abbrev pub half_words : List ℕ → ℕ
half_words H = half_words_of (length H)

abbrev pub other : Half → Half
other A = B
other B = A

-- the first word of a half of S words
abbrev pub first_of : ℕ → Half → ℕ
first_of S A = 1
first_of S B = S + 1

-- the first word of the current half, and of the other
abbrev pub first_word : State → ℕ
first_word s = first_of (half_words s.heap) s.«record».half

abbrev pub other_first : State → ℕ
other_first s = first_of (half_words s.heap) (other s.«record».half)

-- the index of the next free word
abbrev pub free : State → ℕ
free s = s.«record».free.0
