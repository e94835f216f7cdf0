-- Each call beside the paper's cases, in the order of document 01's "The calls"; a root named twice; the
-- order of a collection; and of two refusals the lower. S = 8 unless said.
use Rattle.std.specs.Prelude.{ℕ, ◌≡◌, refl, List, [], ◌∷◌, ◌++◌, map, set, replicate, pos, negsuc}
use Rattle.model.specs.declared.Half.TheVariants.{A, B}
use Rattle.model.specs.declared.Kind.TheVariants.{Traced, Untraced}
use Rattle.model.specs.declared.Call.TheVariants as Ask
use Rattle.model.specs.Words.{State}
use Rattle.model.specs.Worked.{Case, case, one, unchanged, expected, ran}
use Rattle.model.specs.Worked.{done, refused, gives, counted, holds_null, holds_integer, holds_traced, holds_untraced}
use Rattle.model.specs.Worked.{state, blank, p5, p5', p5_with, one_null}
use Rattle.model.specs.Unsound.{root_calls}

-- ---- the calls

-- words that are no heap at all, bit 0 set in every one; free index f
abbrev pub junk : ℕ → List ℕ → State
junk f R = state A f (replicate 17 7) R

-- a full half: an untraced object that holds 7 and x, a traced one with three nulls, an untraced one with no
-- fields; the roots hold null, 10, -5, and name the second of them, the first, the third
abbrev pub kinds : ℕ → State
kinds x =
    state A 9 (0 ∷ 0x80000004 ∷ 7 ∷ x ∷ 6 ∷ 0 ∷ 0 ∷ 0 ∷ 0x80000000 ∷ replicate 8 0)
    (0 ∷ 21 ∷ 0xfffffff7 ∷ 16 ∷ 4 ∷ 32 ∷ [])

abbrev pub single : List Case
single =
    -- check: sound, and no word differs afterwards
    unchanged (p5_with 24 12) (Ask.Check ∷ Ask.Check ∷ []) (gives 1 ∷ gives 1 ∷ [])
    -- allocate: where there is room the heap is not looked at, nor root r's old word; the new fields are zeros
    ∷ one (junk 1 (14 ∷ [])) (Ask.Allocate Untraced 2 0) done
    (state A 4 (7 ∷ 0x80000004 ∷ 0 ∷ 0 ∷ replicate 13 7) (4 ∷ []))
    -- where there is none it collects, here from half B to half A, which is then exactly full
    ∷ one (state B 13 p5' (36 ∷ 0 ∷ [])) (Ask.Allocate Untraced 6 1) done
    (state A 9 (0 ∷ 0 ∷ 0x8000000c ∷ replicate 14 0) (4 ∷ 8 ∷ []))
    -- set, copy and same look at no heap word, and 14 need name no object
    ∷ one (junk 1 (14 ∷ 12 ∷ [])) (Ask.SetInteger 1 (negsuc 4)) done (junk 1 (14 ∷ 0xfffffff7 ∷ []))
    ∷ one (junk 1 (14 ∷ 12 ∷ [])) (Ask.SetNull 1) done (junk 1 (14 ∷ 0 ∷ []))
    ∷ one (junk 1 (14 ∷ 12 ∷ [])) (Ask.SetCode 1 16_777_218) done (junk 1 (14 ∷ 16_777_218 ∷ []))
    ∷ one (junk 1 (14 ∷ 12 ∷ [])) (Ask.Copy 0 1) done (junk 1 (14 ∷ 14 ∷ []))
    ∷ unchanged (junk 1 (14 ∷ 14 ∷ 12 ∷ [])) (Ask.Same 0 1 ∷ Ask.Same 1 2 ∷ []) (gives 1 ∷ gives 0 ∷ [])
    -- null and the integer 0 are not the same
    ∷ unchanged (junk 1 (0 ∷ 1 ∷ [])) (Ask.Same 0 1 ∷ []) (gives 0 ∷ [])
    -- load: the second field of the object at 3
    ∷ one (p5_with 24 12) (Ask.Load 1 1 0) done (p5_with 21 12)
    -- store: any word of a root; it is loaded again
    ∷ case (p5_with 14 12) (Ask.Store 1 0 0 ∷ Ask.SetNull 0 ∷ Ask.Load 1 0 0 ∷ []) (replicate 3 done)
    (state A 7 (set p5 4 14) (14 ∷ 12 ∷ []))
    -- raw write and raw read: all 32 bits
    ∷ case (kinds 8) (Ask.RawWrite 4 1 0xffffffff ∷ Ask.RawRead 4 1 ∷ []) (done ∷ gives 0xffffffff ∷ [])
    (kinds 0xffffffff)
    -- inspect: null, an integer, an object of each kind with its field count
    ∷ unchanged (kinds 8) (map Ask.Inspect (0 ∷ 1 ∷ 2 ∷ 3 ∷ 4 ∷ 5 ∷ []))
    (holds_null ∷ holds_integer (pos 10) ∷ holds_integer (negsuc 4)
    ∷ holds_traced 3 ∷ holds_untraced 2 ∷ holds_untraced 0 ∷ [])
    ∷ []

-- the same root named twice
abbrev pub twice : List Case
twice =
    unchanged (p5_with 24 12) (Ask.Copy 1 1 ∷ Ask.Same 1 1 ∷ []) (done ∷ gives 1 ∷ [])
    ∷ one (p5_with 24 12) (Ask.Load 1 1 1) done (p5_with 24 21)
    ∷ one (p5_with 24 12) (Ask.Store 1 1 1) done (state A 7 (set p5 5 12) (24 ∷ 12 ∷ []))
    ∷ []

-- ---- the order of a collection

-- S = 7: at 1 an object with the fields x and y, at 4 one that holds 10, at 6 one with no fields
abbrev pub fork : ℕ → ℕ → List ℕ → State
fork x y R = state A 7 (0 ∷ 4 ∷ x ∷ y ∷ 2 ∷ 21 ∷ 0 ∷ replicate 8 0) R

-- the copies in half B, words 8 to 14
abbrev pub copies : ℕ → List ℕ → List ℕ → State
copies f ws R = state B f (replicate 8 0 ++ ws) R

abbrev pub ordered : List Case
ordered =
    -- two fields of one object, met by rising number, whichever address is lower
    one (fork 16 24 (4 ∷ [])) Ask.Collect (counted 6 3 3) (copies 14 (4 ∷ 44 ∷ 52 ∷ 2 ∷ 21 ∷ 0 ∷ 0 ∷ []) (32 ∷ []))
    ∷ one (fork 24 16 (4 ∷ [])) Ask.Collect (counted 6 3 3) (copies 14 (4 ∷ 44 ∷ 48 ∷ 0 ∷ 2 ∷ 21 ∷ 0 ∷ []) (32 ∷ []))
    -- met again, an object is only renamed
    ∷ one (fork 16 16 (4 ∷ [])) Ask.Collect (counted 5 2 3) (copies 13 (4 ∷ 44 ∷ 44 ∷ 2 ∷ 21 ∷ 0 ∷ 0 ∷ []) (32 ∷ []))
    -- the roots come first, by rising number, whichever address is lower
    ∷ one (fork 16 24 (4 ∷ 24 ∷ [])) Ask.Collect (counted 6 3 4)
    (copies 14 (4 ∷ 48 ∷ 44 ∷ 0 ∷ 2 ∷ 21 ∷ 0 ∷ []) (32 ∷ 44 ∷ []))
    ∷ one (fork 16 24 (24 ∷ 4 ∷ [])) Ask.Collect (counted 6 3 4)
    (copies 14 (0 ∷ 4 ∷ 48 ∷ 32 ∷ 2 ∷ 21 ∷ 0 ∷ []) (32 ∷ 36 ∷ []))
    -- then the copied objects in their new order: the object at 6 before the one at 7, which the one at 4 names
    ∷ one (state A 8 (0 ∷ 4 ∷ 16 ∷ 24 ∷ 2 ∷ 28 ∷ 0 ∷ 0x80000000 ∷ replicate 7 0) (4 ∷ [])) Ask.Collect (counted 7 4 4)
    (copies 15 (4 ∷ 44 ∷ 52 ∷ 2 ∷ 56 ∷ 0 ∷ 0x80000000 ∷ []) (32 ∷ []))
    -- from half B back to half A
    ∷ one (copies 14 (4 ∷ 44 ∷ 52 ∷ 2 ∷ 21 ∷ 0 ∷ 0 ∷ []) (32 ∷ [])) Ask.Collect (counted 6 3 3) (fork 16 24 (4 ∷ []))
    ∷ []

-- ---- the lowest rank that applies

abbrev pub lowest : List Case
lowest =
    -- ROOT, before OBJECT: there is one root, and it is null
    unchanged one_null (root_calls 1) (replicate 15 (refused 2))
    -- SHAPE before ROOT
    ∷ unchanged (state A 0 blank []) (root_calls 0) (replicate 15 (refused 1))
    -- ROOT before COUNT and before RANGE
    ∷ unchanged one_null
    (Ask.Allocate Traced 1_073_741_824 1 ∷ Ask.SetInteger 1 (pos 1_073_741_824) ∷ Ask.SetCode 1 16_777_217 ∷ [])
    (replicate 3 (refused 2))
    -- COUNT before DAMAGED, and DAMAGED before ROOM
    ∷ unchanged (junk 9 (0 ∷ [])) (map (λ n. Ask.Allocate Traced n 0) (1_073_741_824 ∷ 1_073_741_823 ∷ []))
    (refused 3 ∷ refused 8 ∷ [])
    -- OBJECT before FIELD
    ∷ unchanged one_null (Ask.Load 0 9 0 ∷ Ask.RawRead 0 9 ∷ []) (refused 5 ∷ refused 5 ∷ [])
    -- KIND before FIELD
    ∷ unchanged (p5_with 24 12) (Ask.RawRead 1 9 ∷ Ask.Load 1 9 0 ∷ []) (refused 6 ∷ refused 7 ∷ [])
    ∷ []

-- ---- all of them

abbrev pub calls : List Case
calls = single ++ twice ++ ordered ++ lowest

pub called : map ran calls ≡ map expected calls
unfolding ran
called = refl
