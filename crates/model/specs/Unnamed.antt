-- Each clause of "names an object" broken alone, in document 01's order, as every call sees it that asks
-- for an object; first some words that name one. Four clauses follow from others and are broken with them:
-- a multiple of 4 is even, word 0 is in no half, no half reaches the floor of code words, and what ends at or
-- before the free index starts below it.
-- S = 5: half A is words 1 to 5, half B words 6 to 10.
use Rattle.std.specs.Prelude.{ℕ, ◌≡◌, refl, List, [], ◌∷◌, ◌++◌, map, replicate, pos}
use Rattle.model.specs.declared.Half.TheVariants.{A, B}
use Rattle.model.specs.declared.Call.{Call}
use Rattle.model.specs.declared.Call.TheVariants as Ask
use Rattle.model.specs.declared.Told.{Told}
use Rattle.model.specs.Words.{State}
use Rattle.model.specs.Worked.{Case, case, unchanged, expected, ran, state}
use Rattle.model.specs.Worked.{done, refused, gives, holds_null, holds_integer, holds_traced, holds_untraced, holds_code}

-- every call that asks what root 0 names: inspect, then those on a field of each kind
abbrev pub asks : List Call
asks = Ask.Inspect 0 ∷ Ask.RawRead 0 0 ∷ Ask.RawWrite 0 0 9 ∷ Ask.Store 0 0 0 ∷ Ask.Load 0 0 0 ∷ []

-- the word names no object, as inspect says it: OBJECT, or null, an integer or a code word
abbrev pub names_none : Told → State → Case
names_none a s = unchanged s asks (a ∷ replicate 4 (refused 5))

-- a header h at 1 and the fields 1 and 0; the free index, 4, is where an object of two fields ends; a root w
abbrev pub pair_a : ℕ → ℕ → State
pair_a h w = state A 4 (0 ∷ h ∷ 1 ∷ 0 ∷ replicate 7 0) (w ∷ [])

-- the same in half B, a traced object whose first field is f
abbrev pub pair_b : ℕ → ℕ → State
pair_b f w = state B 9 (replicate 6 0 ++ 4 ∷ f ∷ 0 ∷ 0 ∷ 0 ∷ []) (w ∷ [])

abbrev pub namings : List Case
namings =
    -- a traced object's address, in either half: it is stored in the first field, and loaded again
    case (pair_a 4 4) asks (holds_traced 2 ∷ refused 6 ∷ refused 6 ∷ done ∷ done ∷ [])
    (state A 4 (0 ∷ 4 ∷ 4 ∷ 0 ∷ replicate 7 0) (4 ∷ []))
    ∷ case (pair_b 1 24) asks (holds_traced 2 ∷ refused 6 ∷ refused 6 ∷ done ∷ done ∷ []) (pair_b 24 24)
    -- an untraced object's: the first raw word is read, and 9 written
    ∷ case (pair_a 0x80000004 4) asks (holds_untraced 2 ∷ gives 1 ∷ done ∷ refused 6 ∷ refused 6 ∷ [])
    (state A 4 (0 ∷ 0x80000004 ∷ 9 ∷ 0 ∷ replicate 7 0) (4 ∷ []))
    -- no tiling is asked for: the pair's second field, 0, has the shape of a traced object with no fields
    ∷ unchanged (pair_a 4 12) asks (holds_traced 0 ∷ refused 6 ∷ refused 6 ∷ refused 7 ∷ refused 7 ∷ [])
    -- even: 5 lies in word 1 too, and is the integer 2
    ∷ names_none (holds_integer (pos 2)) (pair_a 4 5)
    -- not 0
    ∷ names_none holds_null (pair_a 4 0)
    -- below the floor: the first and the last code word that are multiples of 4
    ∷ names_none (holds_code 16_777_216) (pair_a 4 16_777_216)
    ∷ names_none (holds_code 0xfffffffc) (pair_a 4 0xfffffffc)
    ∷ map (names_none (refused 5))
    -- a multiple of 4: 6 lies in word 1 too
    (pair_a 4 6
    -- its index lies in the current half: in half B word 1, which is 0, lies before it
    ∷ pair_b 1 4
    -- below the free index: word 4 is at it, word 5 past it, word 6 in the idle half, and the others in no half
    ∷ pair_a 4 16 ∷ pair_a 4 20 ∷ pair_a 4 24 ∷ pair_a 4 44 ∷ pair_a 4 16_777_212
    -- the word there has bit 0 clear: word 2 is 1
    ∷ pair_a 4 8
    -- n + 1 words from there end at or before the free index: three fields end past it, and the largest n does
    ∷ pair_a 6 4 ∷ pair_a 0xfffffffe 4 ∷ [])

pub unnamed : map ran namings ≡ map expected namings
unfolding ran
unnamed = refl
