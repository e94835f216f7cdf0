-- Each limit of document 01 at its value, one below and one above: numbers as the checker computes them, and as
-- they should be. SHAPE looks at the lengths of heap and roots alone, so that no run of a million words has to
-- stand here.
use Rattle.std.specs.Prelude.{ℕ, ◌≡◌, refl, Bool, true, false, List, [], ◌∷◌, map, pos, negsuc}
use Rattle.model.specs.declared.Half.{Half}
use Rattle.model.specs.declared.Half.TheVariants.{A, B}
use Rattle.model.specs.declared.Kind.TheVariants.{Traced, Untraced}
use Rattle.model.specs.declared.Call.{Call}
use Rattle.model.specs.declared.Call.TheVariants as Ask
use Rattle.model.specs.Headers.{tuple}
use Rattle.model.specs.Shape.{bad_length, bad_shape_of}
use Rattle.model.specs.Answers.{told}
use Rattle.model.specs.Sessions.{step}
use Rattle.model.specs.Worked.{ran, state, one_null}

-- numbers computed, and as they should be
pub record Pair : Type 0 where
  pub computed : List ℕ
  pub expected : List ℕ

abbrev pub pair : List ℕ → List ℕ → Pair
pair c e = record { computed = c; expected = e }

-- the refusal of a call on an empty heap of S = 8 with one root, 0 for none
abbrev pub refusal : Call → ℕ
refusal c = (told (step tuple c one_null).answer).refusal

-- SHAPE's number where a test of it holds, 0 where it does not
abbrev pub shape : Bool → ℕ
shape true = 1
shape false = 0

-- n roots, half h and free index f, with S = 8: half A is words 1 to 8, half B words 9 to 16
abbrev pub shape_of8 : ℕ → Half → ℕ → ℕ
shape_of8 n h f = shape (bad_shape_of 17 n (state h f [] []).«record»)

-- the largest n of an object and of an integer, with one below and one above
abbrev pub around_most : List ℕ
around_most = 1_073_741_822 ∷ 1_073_741_823 ∷ 1_073_741_824 ∷ []

-- counts that a header holds: the smallest, the first that sixteen bits do not hold, the largest two
abbrev pub counts : List ℕ
counts = 0 ∷ 65_536 ∷ 1_073_741_822 ∷ 1_073_741_823 ∷ []

abbrev pub edges : List Pair
edges =
    -- integers: RANGE above the largest, and below the smallest, which is -(1,073,741,823 + 1)
    pair (map (λ n. refusal (Ask.SetInteger 0 (pos n))) around_most) (0 ∷ 0 ∷ 4 ∷ [])
    ∷ pair (map (λ n. refusal (Ask.SetInteger 0 (negsuc n))) around_most) (0 ∷ 0 ∷ 4 ∷ [])
    -- fields: ROOM, and COUNT above; and a header gives back what it was given
    ∷ pair (map (λ n. refusal (Ask.Allocate Traced n 0)) around_most) (9 ∷ 9 ∷ 3 ∷ [])
    ∷ pair (map (λ n. tuple.count_of (tuple.header Traced n)) counts) counts
    ∷ pair (map (λ n. tuple.count_of (tuple.header Untraced n)) counts) counts
    -- code words: RANGE below the floor, and for odd words above it
    ∷ pair (map (λ w. refusal (Ask.SetCode 0 w)) (16_777_214 ∷ 16_777_215 ∷ 16_777_216 ∷ 16_777_217 ∷ 16_777_218 ∷ []))
    (4 ∷ 4 ∷ 0 ∷ 4 ∷ 0 ∷ [])
    ∷ pair (map (λ w. refusal (Ask.SetCode 0 w)) (0 ∷ 4_294_967_294 ∷ 4_294_967_295 ∷ [])) (4 ∷ 0 ∷ 4 ∷ [])
    -- the heap's length: even, below 3, above 2,097,153
    ∷ pair (map (λ n. shape (bad_length n)) (1 ∷ 2 ∷ 3 ∷ 4 ∷ 5 ∷ [])) (1 ∷ 1 ∷ 0 ∷ 1 ∷ 0 ∷ [])
    ∷ pair (map (λ n. shape (bad_length n)) (2_097_151 ∷ 2_097_152 ∷ 2_097_153 ∷ 2_097_154 ∷ 2_097_155 ∷ []))
    (0 ∷ 1 ∷ 0 ∷ 1 ∷ 1 ∷ [])
    -- the number of roots
    ∷ pair (map (λ n. shape_of8 n A 1) (0 ∷ 65_535 ∷ 65_536 ∷ 65_537 ∷ [])) (0 ∷ 0 ∷ 0 ∷ 1 ∷ [])
    -- the free index, in half A and in half B
    ∷ pair (map (shape_of8 0 A) (0 ∷ 1 ∷ 2 ∷ 8 ∷ 9 ∷ 10 ∷ [])) (1 ∷ 0 ∷ 0 ∷ 0 ∷ 0 ∷ 1 ∷ [])
    ∷ pair (map (shape_of8 0 B) (8 ∷ 9 ∷ 10 ∷ 16 ∷ 17 ∷ 18 ∷ [])) (1 ∷ 0 ∷ 0 ∷ 0 ∷ 0 ∷ 1 ∷ [])
    ∷ []

pub kept : map (λ e. e.computed) edges ≡ map (λ e. e.expected) edges
unfolding ran
kept = refl
