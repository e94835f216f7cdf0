-- Collections one after another, document 02's Q-5, and images: tables and statements.
use Rattle.std.specs.Prelude.{◌≡◌, refl, List, [], ◌∷◌, map, replicate}
use Rattle.model.specs.declared.Half.TheVariants.{A, B}
use Rattle.model.specs.declared.Call.TheVariants as Ask
use Rattle.model.specs.Words.{State}
use Rattle.model.specs.Headers.{tuple}
use Rattle.model.specs.Images.{word, offset, Image, image_value, image}
use Rattle.model.specs.Worked.{Case, case, expected, ran, state}
use Rattle.model.specs.Worked as Worked
use Rattle.model.specs.Counting.{shared, shared'}

-- what the second collection of `Counting.shared` leaves: each object of shared' 13 words back, each address 52 less
abbrev pub shared'' : State
shared'' =
    state A 11 (0 ∷ 6 ∷ 32 ∷ 32 ∷ 16_777_220 ∷ 4 ∷ 0 ∷ 4 ∷ 0x80000004 ∷ 4 ∷ 8 ∷ replicate 16 0) (4 ∷ 0 ∷ 20 ∷ 16_777_216 ∷ [])

-- S = 1, full: an object without fields, in either half
abbrev pub in_a : State
in_a = state A 2 (0 ∷ 0 ∷ 0 ∷ []) (4 ∷ 4 ∷ [])

abbrev pub in_b : State
in_b = state B 3 (0 ∷ 0 ∷ 0 ∷ []) (8 ∷ 8 ∷ [])

abbrev pub repetitions : List Case
repetitions =
    case shared (Ask.Collect ∷ Ask.Collect ∷ []) (replicate 2 (Worked.counted 10 3 5)) shared''
    ∷ case shared (Ask.Collect ∷ Ask.Collect ∷ Ask.Collect ∷ []) (replicate 3 (Worked.counted 10 3 5)) shared'
    ∷ case in_b (Ask.Collect ∷ Ask.Collect ∷ []) (replicate 2 (Worked.counted 1 1 2)) in_b
    ∷ case in_b (Ask.Collect ∷ Ask.Collect ∷ Ask.Collect ∷ []) (replicate 3 (Worked.counted 1 1 2)) in_a
    ∷ []

pub repeated : map ran repetitions ≡ map expected repetitions
unfolding ran
repeated = refl

-- ---- images: of `shared`, where garbage stands before the last object, and of the two that its collections leave

abbrev pub shared_image : Image
shared_image = record {
  words =
      word 6 ∷ offset 7 ∷ offset 7 ∷ word 16_777_220 ∷ word 4 ∷ word 0 ∷ offset 0 ∷ word 0x80000004 ∷ word 4 ∷ word 8 ∷ [];
  roots = offset 0 ∷ word 0 ∷ offset 4 ∷ word 16_777_216 ∷ [];
}

abbrev pub uncollected_image : Image
uncollected_image = record {
  words =
      word 6 ∷ offset 4 ∷ offset 4 ∷ word 16_777_220 ∷ word 0x80000004 ∷ word 4 ∷ word 8 ∷ word 4 ∷ offset 0 ∷ offset 4
      ∷ word 4 ∷ word 0 ∷ offset 0 ∷ [];
  roots = offset 0 ∷ word 0 ∷ offset 10 ∷ word 16_777_216 ∷ [];
}

pub imaged : map (image tuple) (shared ∷ shared' ∷ shared'' ∷ []) ≡ uncollected_image ∷ shared_image ∷ shared_image ∷ []
unfolding ran image image_value
imaged = refl
