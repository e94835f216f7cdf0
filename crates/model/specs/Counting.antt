-- What a collection counts, document 02's Q-3: one table and one statement. P5, P8 and P10 stand in Worked with their numbers.
use Rattle.std.specs.Prelude.{◌≡◌, refl, List, [], ◌∷◌, ◌++◌, map, replicate}
use Rattle.model.specs.declared.Half.TheVariants.{A, B}
use Rattle.model.specs.declared.Call.TheVariants as Ask
use Rattle.model.specs.declared.Counts.{Counts}
use Rattle.model.specs.Words.{State}
use Rattle.model.specs.Discovery.{mem, visit, visits, packed, found}
use Rattle.model.specs.Graph.{null, code, plain, object, traced, untraced, Graph, total_words, graph_order, objects_in, objects_among}
use Rattle.model.specs.Graph.{graph_counts}
use Rattle.model.specs.Worked.{Case, one, expected, ran, state, p5}
use Rattle.model.specs.Worked as Worked

-- S = 13. At 1 a traced object: the address of the one at 5 twice, and a code word. At 5 an untraced one, whose raw words look like
-- addresses. At 8 garbage: the addresses of both. At 11 a traced one: null, and the address of the first. The roots: the addresses of
-- the first and of the last, with null between them, and a code word.
abbrev pub shared : State
shared =
    state A 14 (0 ∷ 6 ∷ 20 ∷ 20 ∷ 16_777_220 ∷ 0x80000004 ∷ 4 ∷ 8 ∷ 4 ∷ 4 ∷ 20 ∷ 4 ∷ 0 ∷ 4 ∷ replicate 13 0)
    (4 ∷ 0 ∷ 44 ∷ 16_777_216 ∷ [])

abbrev pub shared' : State
shared' =
    state B 24 (replicate 14 0 ++ 6 ∷ 84 ∷ 84 ∷ 16_777_220 ∷ 4 ∷ 0 ∷ 56 ∷ 0x80000004 ∷ 4 ∷ 8 ∷ replicate 3 0)
    (56 ∷ 0 ∷ 72 ∷ 16_777_216 ∷ [])

abbrev pub countings : List Case
countings =
    -- P5's heap with an address that two roots hold, null and an integer: three in the roots, one in a field
    one (state A 7 p5 (12 ∷ 12 ∷ 24 ∷ 0 ∷ 21 ∷ [])) Ask.Collect (Worked.counted 4 2 4)
    (state B 13 (replicate 9 0 ++ 4 ∷ 36 ∷ 21 ∷ 0 ∷ replicate 4 0) (36 ∷ 36 ∷ 48 ∷ 0 ∷ 21 ∷ []))
    -- two in the roots, two in the first object, one in the last
    ∷ one shared Ask.Collect (Worked.counted 10 3 5) shared'
    ∷ []

pub counted : map ran countings ≡ map expected countings
unfolding ran
counted = refl

-- the same objects as a graph, with the same numbers
abbrev pub shared_graph : Graph
shared_graph = record {
  objects =
      traced (object 1 ∷ object 1 ∷ plain (code 16_777_220) ∷ []) ∷ untraced (4 ∷ 8 ∷ []) ∷ traced (object 0 ∷ object 1 ∷ [])
      ∷ traced (plain null ∷ object 0 ∷ []) ∷ [];
  roots = object 0 ∷ plain null ∷ object 3 ∷ plain (code 16_777_216) ∷ [];
  text = [];
}

abbrev pub shared_counts : Counts
shared_counts = record { live = 10; objects = 3; addresses = 5 }

pub graph_counted : graph_counts shared_graph ≡ shared_counts
unfolding graph_counts graph_order total_words objects_in objects_among found visits visit mem packed
graph_counted = refl
