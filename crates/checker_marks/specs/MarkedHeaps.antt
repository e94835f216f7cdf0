-- Worked heaps: which words of the idle half hold which marks. Halves of 40 words, so that the marks of both take three.
use Rattle.std.specs.Prelude.{ℕ, ◌+◌, ◌-◌, ◌≡◌, refl, List, [], ◌∷◌, ◌++◌, map, length, take, replicate}
use Rattle.model.specs.Headers.{tuple}
use Rattle.runs.specs.Runs.{cleared}
use Rattle.checker_marks.specs.declared.Part.{Part}
use Rattle.checker_marks.specs.Marks.{part, marks_of, cleared_marks, mark_headers, marked}

abbrev half : ℕ
half = 40

-- the used words, in half A and in half B
abbrev in_a : List ℕ → List ℕ
in_a ws = 0 ∷ ws ++ replicate (half - length ws + half) 0

abbrev in_b : List ℕ → List ℕ
in_b ws = 0 ∷ replicate half 0 ++ ws ++ replicate (half - length ws) 0

abbrev part_a : List ℕ → Part
part_a ws = part 1 (1 + length ws) (1 + half)

abbrev part_b : List ℕ → Part
part_b ws = part (1 + half) (1 + half + length ws) 1

-- a heap, its used part, the first three words of the idle half once the headers are marked, and where marking stopped
record MarkedHeap : Type 0 where
  pub heap : List ℕ
  pub used : Part
  pub marks : List ℕ
  pub stop : ℕ

abbrev case : List ℕ → Part → List ℕ → ℕ → MarkedHeap
case H p m i = record { heap = H; used = p; marks = m; stop = i }

-- headers at 1, 32 and 33, on both sides of a mark word's end: bit 1 beside null's bit 0, and bits 0 and 1 of the next
abbrev across_words : List ℕ
across_words = 60 ∷ replicate 30 1 ++ (0 ∷ 2 ∷ 1 ∷ [])

-- headers at 41, 42 and 43: bits 9, 10 and 11 of the second word
abbrev three_objects : List ℕ
three_objects = 0 ∷ 0 ∷ 4 ∷ 1 ∷ 1 ∷ []

-- the word behind the object at 1 is odd, and no header
abbrev untiled : List ℕ
untiled = 2 ∷ 1 ∷ 7 ∷ 0 ∷ []

abbrev marked_heaps : List MarkedHeap
marked_heaps =
    case (in_a []) (part_a []) (1 ∷ 0 ∷ 0 ∷ []) 1
    ∷ case (in_b []) (part_b []) (1 ∷ 0 ∷ 0 ∷ []) 41
    ∷ case (in_a across_words) (part_a across_words) (3 ∷ 3 ∷ 0 ∷ []) 35
    ∷ case (in_b three_objects) (part_b three_objects) (1 ∷ 3584 ∷ 0 ∷ []) 46
    ∷ case (in_a untiled) (part_a untiled) (3 ∷ 0 ∷ 0 ∷ []) 3
    ∷ []

-- marked and then cleared: these marks, that stop, and the heap as it was
abbrev ran : MarkedHeap → MarkedHeap
ran c =
    let m = marked tuple c.heap c.used in
    case (cleared_marks m.heap c.used) c.used (take 3 (marks_of m.heap c.used)) m.stop

pub marked_so : map ran marked_heaps ≡ marked_heaps
unfolding mark_headers cleared tuple
marked_so = refl
