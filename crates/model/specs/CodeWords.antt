-- Code words, document 02's Q-1: one table and one statement. P5's start, S = 8, roots 24 and 12, unless said.
use Rattle.std.specs.Prelude.{ℕ, ◌≡◌, refl, List, [], ◌∷◌, ◌++◌, map, set, replicate}
use Rattle.model.specs.declared.Half.TheVariants.{A, B}
use Rattle.model.specs.declared.Call.{Call}
use Rattle.model.specs.declared.Call.TheVariants as Ask
use Rattle.model.specs.Words.{State}
use Rattle.model.specs.Worked.{Case, case, one, unchanged, expected, ran, done, refused, gives, counted, holds_code}
use Rattle.model.specs.Worked.{state, p5, p5_with}

-- a code word is set into root 0 and inspected there
abbrev pub set_and_seen : ℕ → Case
set_and_seen w = case (p5_with 24 12) (Ask.SetCode 0 w ∷ Ask.Inspect 0 ∷ []) (done ∷ holds_code w ∷ []) (p5_with w 12)

-- a code word in root 0, and one in the second field of the object at 3, which root 1 names
abbrev pub with_code : State
with_code = state A 7 (set p5 5 16_777_228) (16_777_218 ∷ 12 ∷ [])

-- what its collection leaves: one object, and both code words as they were
abbrev pub with_code' : State
with_code' = state B 12 (replicate 9 0 ++ 4 ∷ 36 ∷ 16_777_228 ∷ replicate 5 0) (16_777_218 ∷ 36 ∷ [])

-- every call on the object that root 0 names
abbrev pub on_object : List Call
on_object = Ask.Load 0 0 1 ∷ Ask.Store 0 0 1 ∷ Ask.RawRead 0 0 ∷ Ask.RawWrite 0 0 9 ∷ []

abbrev pub codes : List Case
codes =
    -- the lowest; just below it, an odd one and null, which are RANGE; the highest
    set_and_seen 16_777_216
    ∷ unchanged (p5_with 24 12) (map (Ask.SetCode 0) (16_777_214 ∷ 16_777_217 ∷ 0 ∷ [])) (replicate 3 (refused 4))
    ∷ set_and_seen 4_294_967_294
    -- ROOT before RANGE: there are two roots
    ∷ unchanged (p5_with 24 12) (Ask.SetCode 2 0 ∷ []) (refused 2 ∷ [])
    -- never followed, never changed
    ∷ one with_code Ask.Collect (counted 3 1 2) with_code'
    -- sound, and no object: inspect says what it is
    ∷ unchanged with_code' (Ask.Check ∷ Ask.Inspect 0 ∷ on_object)
    (gives 1 ∷ holds_code 16_777_218 ∷ replicate 4 (refused 5))
    -- a field gives it back, and it is the same word
    ∷ case with_code' (Ask.Load 1 1 0 ∷ Ask.Inspect 0 ∷ Ask.Store 1 0 0 ∷ Ask.Load 1 0 1 ∷ Ask.Same 0 1 ∷ [])
    (done ∷ holds_code 16_777_228 ∷ done ∷ done ∷ gives 1 ∷ [])
    (state B 12 (replicate 9 0 ++ 4 ∷ 16_777_228 ∷ 16_777_228 ∷ replicate 5 0) (16_777_228 ∷ 16_777_228 ∷ []))
    ∷ []

pub coded : map ran codes ≡ map expected codes
unfolding ran
coded = refl
