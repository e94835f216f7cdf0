-- Each clause of "sound" broken alone, in document 01's order: all else of that heap is as it should be.
-- Beside them stand sound heaps. S = 5: half A is words 1 to 5, half B words 6 to 10. What small heaps
-- cannot show, too many words or roots, is in Edges.
use Rattle.std.specs.Prelude.{ℕ, ◌≡◌, refl, false, List, [], ◌∷◌, ◌++◌, map, set, replicate, pos}
use Rattle.model.specs.declared.Half.{Half}
use Rattle.model.specs.declared.Half.TheVariants.{A, B}
use Rattle.model.specs.declared.Kind.TheVariants.{Traced}
use Rattle.model.specs.declared.Call.{Call}
use Rattle.model.specs.declared.Told.{Told}
use Rattle.model.specs.declared.Call.TheVariants as Ask
use Rattle.model.specs.Words.{State}
use Rattle.model.specs.Headers.{tuple}
use Rattle.model.specs.Soundness.{sound}
use Rattle.model.specs.Worked.{Case, case, unchanged, expected, ran, state, refused, gives, counted, holds_traced}

-- the heap is sound: what its collection counts, and what it leaves
abbrev pub is_sound : State → Told → State → Case
is_sound s n e = case s (Ask.Check ∷ Ask.Collect ∷ []) (gives 1 ∷ n ∷ []) e

-- it is not: a collection is DAMAGED, and so is an allocation that calls for one (in a sound heap it is ROOM)
abbrev pub is_unsound : State → Case
is_unsound s =
    unchanged s (Ask.Check ∷ Ask.Collect ∷ Ask.Allocate Traced 5 0 ∷ []) (gives 0 ∷ refused 8 ∷ refused 8 ∷ [])

-- every call that names a root: the root r, and the root 0 where it names a second
abbrev pub root_calls : ℕ → List Call
root_calls r =
    Ask.Allocate Traced 0 r ∷ Ask.SetInteger r (pos 0) ∷ Ask.SetNull r ∷ Ask.SetCode r 16_777_216 ∷ Ask.Copy r 0
    ∷ Ask.Copy 0 r ∷ Ask.Load r 0 0 ∷ Ask.Load 0 0 r ∷ Ask.Store r 0 0 ∷ Ask.Store 0 0 r ∷ Ask.RawRead r 0 ∷ Ask.RawWrite r 0 0
    ∷ Ask.Same r 0 ∷ Ask.Same 0 r ∷ Ask.Inspect r ∷ []

-- SHAPE applies, whatever is asked
abbrev pub is_misshapen : State → Case
is_misshapen s = unchanged s (Ask.Collect ∷ Ask.Check ∷ root_calls 0) (replicate 17 (refused 1))

-- n words, all 0, and a null root: whatever is used of them is objects with no fields
abbrev pub zeros : ℕ → Half → ℕ → State
zeros n h f = state h f (replicate n 0) (0 ∷ [])

-- two objects of one field: at 1 one that names itself, at 3 garbage that holds the integer 0; word 5 is free
abbrev pub two : List ℕ
two = 0 ∷ 2 ∷ 4 ∷ 2 ∷ 1 ∷ replicate 6 0

-- the same in half B, at 6 and 8
abbrev pub two_b : List ℕ
two_b = replicate 6 0 ++ 2 ∷ 24 ∷ 2 ∷ 1 ∷ 0 ∷ []

-- with a root w; with word i changed to x; with garbage that is untraced and holds the raw word x
abbrev pub root_a : ℕ → State
root_a w = state A 5 two (w ∷ [])

abbrev pub word_a : ℕ → ℕ → State
word_a i x = state A 5 (set two i x) (4 ∷ [])

abbrev pub word_b : ℕ → ℕ → State
word_b i x = state B 10 (set two_b i x) (24 ∷ [])

abbrev pub raw_a : ℕ → ℕ → State
raw_a x w = state A 5 (set (set two 3 0x80000002) 4 x) (w ∷ [])

-- what is left of one live object of one field: its header h and its field x, and root 0 names it
abbrev pub one_b : ℕ → ℕ → State
one_b h x = state B 8 (replicate 6 0 ++ h ∷ x ∷ replicate 3 0) (24 ∷ [])

abbrev pub one_a : ℕ → ℕ → State
one_a h x = state A 3 (0 ∷ h ∷ x ∷ replicate 8 0) (4 ∷ [])

-- SHAPE applies to these
abbrev pub misshapes : List State
misshapes =
    -- the heap's length is even; below 3; both
    zeros 10 A 1 ∷ zeros 12 A 1 ∷ zeros 1 A 1 ∷ zeros 0 A 1
    -- the free index lies before its range, or past it
    ∷ zeros 11 A 0 ∷ zeros 11 B 5 ∷ zeros 11 A 7 ∷ zeros 11 B 12 ∷ []

-- they are not sound; no call tells, for each says SHAPE first
pub misshapen : map (sound tuple) misshapes ≡ replicate 8 false
unfolding ran
misshapen = refl

abbrev pub of_shape : List Case
of_shape =
    -- the free index from the half's first word to one past its last; the smallest heap
    is_sound (zeros 11 A 1) (counted 0 0 0) (zeros 11 B 6)
    ∷ is_sound (zeros 11 A 6) (counted 0 0 0) (zeros 11 B 6)
    ∷ is_sound (zeros 11 B 6) (counted 0 0 0) (zeros 11 A 1)
    ∷ is_sound (zeros 11 B 11) (counted 0 0 0) (zeros 11 A 1)
    ∷ is_sound (zeros 3 A 1) (counted 0 0 0) (zeros 3 B 2)
    ∷ map is_misshapen misshapes

-- word 0, the idle half, the free words and the tiling
abbrev pub of_words : List Case
of_words =
    is_sound (root_a 4) (counted 2 1 2) (one_b 2 24)
    ∷ is_sound (state B 10 two_b (24 ∷ [])) (counted 2 1 2) (one_a 2 4)
    ∷ map is_unsound
    -- word 0 is 0
    (word_a 0 1 ∷ word_b 0 1
    -- the idle half is all 0, its first word and its last
    ∷ word_a 6 1 ∷ word_a 10 1 ∷ word_b 1 1 ∷ word_b 5 1
    -- the current half from the free index on is 0
    ∷ word_a 5 1 ∷ word_b 10 1
    -- objects with bit 0 clear ..
    ∷ word_a 3 3 ∷ word_b 8 3
    -- .. tile the used part exactly: two fields end past the free index, and so does the largest n
    ∷ word_a 3 4 ∷ word_b 8 4 ∷ word_a 3 0xfffffffe ∷ [])

-- each root is odd, 0, a code word, or the address of a header of that tiling
abbrev pub of_roots : List Case
of_roots =
    is_sound (root_a 5) (counted 0 0 0) (state B 6 (replicate 11 0) (5 ∷ []))
    ∷ is_sound (root_a 0) (counted 0 0 0) (zeros 11 B 6)
    ∷ is_sound (root_a 16_777_218) (counted 0 0 0) (state B 6 (replicate 11 0) (16_777_218 ∷ []))
    ∷ is_sound (root_a 12) (counted 2 1 1) (one_b 2 1)
    -- no header of the tiling, although it names an object: word 2, 4, has the shape of one with two fields
    ∷ unchanged (root_a 8) (Ask.Inspect 0 ∷ Ask.Check ∷ Ask.Collect ∷ [])
    (holds_traced 2 ∷ gives 0 ∷ refused 8 ∷ [])
    ∷ map is_unsound
    -- even and no multiple of 4, though it lies in a header's word
    (root_a 6
    -- the free word; the idle half; no words of the heap
    ∷ root_a 20 ∷ root_a 24 ∷ root_a 44 ∷ root_a 16_777_212
    -- just below the floor, and no multiple of 4
    ∷ root_a 16_777_214
    -- the last root alone
    ∷ state A 5 two (4 ∷ 6 ∷ []) ∷ [])

-- and so is each field of a traced object
abbrev pub of_fields : List Case
of_fields =
    -- of a live one
    is_sound (word_a 2 1) (counted 2 1 1) (one_b 2 1)
    ∷ is_sound (word_a 2 0) (counted 2 1 1) (one_b 2 0)
    ∷ is_sound (word_a 2 16_777_216) (counted 2 1 1) (one_b 2 16_777_216)
    ∷ is_sound (word_a 2 12) (counted 4 2 2) (state B 10 (replicate 6 0 ++ 2 ∷ 32 ∷ 2 ∷ 1 ∷ 0 ∷ []) (24 ∷ []))
    ∷ map is_unsound (word_a 2 6 ∷ word_a 2 8 ∷ word_a 2 20 ∷ word_a 2 24 ∷ word_a 2 16_777_214 ∷ [])
    -- of garbage
    ++ is_sound (word_a 4 12) (counted 2 1 2) (one_b 2 24)
    ∷ is_sound (word_a 4 0xfffffffe) (counted 2 1 2) (one_b 2 24)
    ∷ map is_unsound (word_a 4 6 ∷ word_a 4 8 ∷ word_a 4 20 ∷ word_a 4 24 ∷ [])
    -- the last field alone
    ++ is_unsound (state A 4 (0 ∷ 4 ∷ 1 ∷ 6 ∷ replicate 7 0) (4 ∷ []))
    -- raw words may look like addresses, in garbage and live
    ∷ is_sound (raw_a 6 4) (counted 2 1 2) (one_b 2 24)
    ∷ is_sound (raw_a 24 4) (counted 2 1 2) (one_b 2 24)
    ∷ is_sound (raw_a 6 12) (counted 2 1 1) (one_b 0x80000002 6)
    ∷ is_sound (raw_a 4 12) (counted 2 1 1) (one_b 0x80000002 4)
    ∷ []

abbrev pub judgements : List Case
judgements = of_shape ++ of_words ++ of_roots ++ of_fields

pub unsound : map ran judgements ≡ map expected judgements
unfolding ran
unsound = refl
