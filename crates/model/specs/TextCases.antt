-- Texts, document 02's Q-2: a table and a statement of the writer, and of the reader.
use Rattle.std.specs.Prelude.{ℕ, ◌+◌, ◌-◌, ◌≡◌, refl, List, [], ◌∷◌, ◌++◌, map, length, replicate}
use Rattle.model.specs.declared.Half.TheVariants.{A, B}
use Rattle.model.specs.declared.Call.TheVariants as Ask
use Rattle.model.specs.declared.Told.{Told}
use Rattle.model.specs.Words.{State}
use Rattle.model.specs.Answers.{tells_length}
use Rattle.model.specs.Worked.{Case, expected, ran, done, refused, state, p5, p5', p5_with, blank}

-- ---- the words that these cases are written in

-- n bytes that no text has
abbrev pub dots : ℕ → List ℕ
dots n = replicate n 46

-- root r is written into n such bytes: its text t, and the rest as it was; or refused, and no byte changes
abbrev pub writes : State → ℕ → ℕ → Told → List ℕ → Case
writes s r n a t = record {
  start = s;
  calls = record { call = Ask.Write r; text = dots n } ∷ [];
  answered = a ∷ [];
  texts = t ∷ [];
  left = s;
}

abbrev pub written : State → ℕ → List ℕ → ℕ → Case
written s r t rest = writes s r (length t + rest) (tells_length (length t)) (t ++ dots rest)

abbrev pub not_written : State → ℕ → ℕ → ℕ → Case
not_written s r n k = writes s r n (refused k) (dots n)

-- S = 8, and root 0
abbrev pub holding : List ℕ → ℕ → State
holding ws w = state A (length ws + 1) (0 ∷ ws ++ replicate (16 - length ws) 0) (w ∷ [])

-- ---- the writer

abbrev pub writer : List Case
writer =
    -- P5's start: root 0 is (), into 2 or 5 bytes, and no text of 1 byte; root 1 holds itself
    written (p5_with 24 12) 0 (40 ∷ 41 ∷ []) 0
    ∷ written (p5_with 24 12) 0 (40 ∷ 41 ∷ []) 3
    ∷ not_written (p5_with 24 12) 0 1 12
    ∷ not_written (p5_with 24 12) 1 63 12
    ∷ not_written (p5_with 24 12) 1 64 11
    ∷ not_written (p5_with 24 12) 1 65 11
    ∷ not_written (p5_with 24 12) 1 400 11
    -- (1,null): the comma has no room in 2 bytes; in 3 the null stands where the bytes run out
    ∷ not_written (holding (4 ∷ 3 ∷ 0 ∷ []) 4) 0 2 12
    ∷ not_written (holding (4 ∷ 3 ∷ 0 ∷ []) 4) 0 3 10
    -- null, a code word and an untraced object are VALUE, even into no byte; 14 is of no kind; ROOT
    ∷ not_written (holding [] 0) 0 0 10
    ∷ not_written (holding [] 16_777_216) 0 9 10
    ∷ not_written (holding (0x80000002 ∷ 7 ∷ []) 4) 0 9 10
    ∷ not_written (holding [] 14) 0 9 5
    ∷ not_written (holding [] 1) 1 9 2
    -- integers: 0, 7, -2, the largest and the smallest, and 10
    ∷ written (holding [] 1) 0 (48 ∷ []) 1
    ∷ written (holding [] 15) 0 (55 ∷ []) 1
    ∷ written (holding [] 0xfffffffd) 0 (126 ∷ 50 ∷ []) 1
    ∷ written (holding [] 0x7fffffff) 0 (49 ∷ 48 ∷ 55 ∷ 51 ∷ 55 ∷ 52 ∷ 49 ∷ 56 ∷ 50 ∷ 51 ∷ []) 0
    ∷ written (holding [] 0x80000001) 0 (126 ∷ 49 ∷ 48 ∷ 55 ∷ 51 ∷ 55 ∷ 52 ∷ 49 ∷ 56 ∷ 50 ∷ 52 ∷ []) 0
    ∷ not_written (holding [] 21) 0 1 12
    -- {1=()}, (1,~2) and ((),{1=3},(4,5))
    ∷ written (holding (2 ∷ 12 ∷ 0 ∷ []) 4) 0 (123 ∷ 49 ∷ 61 ∷ 40 ∷ 41 ∷ 125 ∷ []) 0
    ∷ written (holding (4 ∷ 3 ∷ 0xfffffffd ∷ []) 4) 0 (40 ∷ 49 ∷ 44 ∷ 126 ∷ 50 ∷ 41 ∷ []) 2
    ∷ written (holding (4 ∷ 16 ∷ 16 ∷ 2 ∷ 7 ∷ []) 4) 0
    (40 ∷ 123 ∷ 49 ∷ 61 ∷ 51 ∷ 125 ∷ 44 ∷ 123 ∷ 49 ∷ 61 ∷ 51 ∷ 125 ∷ 41 ∷ []) 0
    ∷ []

-- ---- the reader

-- a text is read into root r: what is left, or nothing changes
abbrev pub reads : State → ℕ → List ℕ → Told → State → Case
reads s r t a e = record {
  start = s;
  calls = record { call = Ask.Read r; text = t } ∷ [];
  answered = a ∷ [];
  texts = t ∷ [];
  left = e;
}

-- S = 8, half A empty, one null root
abbrev pub taken : List ℕ → State → Case
taken t e = reads (holding [] 0) 0 t done e

abbrev pub not_taken : ℕ → List ℕ → Case
not_taken k t = reads (holding [] 0) 0 t (refused k) (holding [] 0)

-- what no room leaves of it
abbrev pub full : List ℕ → Case
full t = reads (holding [] 0) 0 t (refused 9) (state B 9 blank (0 ∷ []))

abbrev pub reader : List Case
reader =
    -- (), {1=()} and (1,~2)
    taken (40 ∷ 41 ∷ []) (holding (0 ∷ []) 4)
    ∷ taken (123 ∷ 49 ∷ 61 ∷ 40 ∷ 41 ∷ 125 ∷ []) (holding (2 ∷ 12 ∷ 0 ∷ []) 4)
    ∷ taken (40 ∷ 49 ∷ 44 ∷ 126 ∷ 50 ∷ 41 ∷ []) (holding (4 ∷ 3 ∷ 0xfffffffd ∷ []) 4)
    -- 7, 1073741823 and ~1073741824
    ∷ taken (55 ∷ []) (holding [] 15)
    ∷ taken (49 ∷ 48 ∷ 55 ∷ 51 ∷ 55 ∷ 52 ∷ 49 ∷ 56 ∷ 50 ∷ 51 ∷ []) (holding [] 0x7fffffff)
    ∷ taken (126 ∷ 49 ∷ 48 ∷ 55 ∷ 51 ∷ 55 ∷ 52 ∷ 49 ∷ 56 ∷ 50 ∷ 52 ∷ []) (holding [] 0x80000001)
    -- 1073741824, ~1073741825, ~0, 00, (1), {}, {2=1}, {1=1,2=2}, (1, and (1,2) with a blank, the empty text
    ∷ not_taken 10 (49 ∷ 48 ∷ 55 ∷ 51 ∷ 55 ∷ 52 ∷ 49 ∷ 56 ∷ 50 ∷ 52 ∷ [])
    ∷ not_taken 10 (126 ∷ 49 ∷ 48 ∷ 55 ∷ 51 ∷ 55 ∷ 52 ∷ 49 ∷ 56 ∷ 50 ∷ 53 ∷ [])
    ∷ not_taken 10 (126 ∷ 48 ∷ [])
    ∷ not_taken 10 (48 ∷ 48 ∷ [])
    ∷ not_taken 10 (40 ∷ 49 ∷ 41 ∷ [])
    ∷ not_taken 10 (123 ∷ 125 ∷ [])
    ∷ not_taken 10 (123 ∷ 50 ∷ 61 ∷ 49 ∷ 125 ∷ [])
    ∷ not_taken 10 (123 ∷ 49 ∷ 61 ∷ 49 ∷ 44 ∷ 50 ∷ 61 ∷ 50 ∷ 125 ∷ [])
    ∷ not_taken 10 (40 ∷ 49 ∷ 44 ∷ [])
    ∷ not_taken 10 (40 ∷ 49 ∷ 44 ∷ 50 ∷ 41 ∷ 32 ∷ [])
    ∷ not_taken 10 []
    -- ((),{1=3},(4,5)) has ten words, (1,2,3,4,5,6,7,8) nine
    ∷ full (40 ∷ 40 ∷ 41 ∷ 44 ∷ 123 ∷ 49 ∷ 61 ∷ 51 ∷ 125 ∷ 44 ∷ 40 ∷ 52 ∷ 44 ∷ 53 ∷ 41 ∷ 41 ∷ [])
    ∷ full (40 ∷ 49 ∷ 44 ∷ 50 ∷ 44 ∷ 51 ∷ 44 ∷ 52 ∷ 44 ∷ 53 ∷ 44 ∷ 54 ∷ 44 ∷ 55 ∷ 44 ∷ 56 ∷ 41 ∷ [])
    -- P5's start: (1,2) is collected for; (1,(2,3)) has no room; an integer needs none
    ∷ reads (p5_with 24 12) 1 (40 ∷ 49 ∷ 44 ∷ 50 ∷ 41 ∷ []) done
    (state B 16 (replicate 9 0 ++ 0 ∷ 4 ∷ 40 ∷ 21 ∷ 4 ∷ 3 ∷ 5 ∷ 0 ∷ []) (36 ∷ 52 ∷ []))
    ∷ reads (p5_with 24 12) 1 (40 ∷ 49 ∷ 44 ∷ 40 ∷ 50 ∷ 44 ∷ 51 ∷ 41 ∷ 41 ∷ []) (refused 9) (state B 13 p5' (36 ∷ 40 ∷ []))
    -- in the order in which their texts begin: (((),1),2) and ({1=()},())
    ∷ taken (40 ∷ 40 ∷ 40 ∷ 41 ∷ 44 ∷ 49 ∷ 41 ∷ 44 ∷ 50 ∷ 41 ∷ []) (holding (4 ∷ 16 ∷ 5 ∷ 4 ∷ 28 ∷ 3 ∷ 0 ∷ []) 4)
    ∷ taken (40 ∷ 123 ∷ 49 ∷ 61 ∷ 40 ∷ 41 ∷ 125 ∷ 44 ∷ 40 ∷ 41 ∷ 41 ∷ []) (holding (4 ∷ 16 ∷ 28 ∷ 2 ∷ 24 ∷ 0 ∷ 0 ∷ []) 4)
    -- 64 stand open: one more is DEEP, whatever follows it; the end is VALUE, and so is what is no value
    ∷ not_taken 11 (replicate 64 40 ++ 123 ∷ 50 ∷ [])
    ∷ not_taken 10 (replicate 64 40)
    ∷ not_taken 10 (replicate 64 40 ++ 49 ∷ 40 ∷ [])
    -- ROOT first; DAMAGED only where a collection is called for
    ∷ reads (holding [] 0) 1 (40 ∷ []) (refused 2) (holding [] 0)
    ∷ reads (p5_with 14 12) 1 (40 ∷ 49 ∷ 44 ∷ 50 ∷ 41 ∷ []) (refused 8) (p5_with 14 12)
    ∷ reads (p5_with 14 12) 1 (40 ∷ 41 ∷ []) done (state A 8 p5 (14 ∷ 28 ∷ []))
    ∷ []

pub spelt : map ran writer ≡ map expected writer
unfolding ran
spelt = refl

pub seen : map ran reader ≡ map expected reader
unfolding ran
seen = refl
